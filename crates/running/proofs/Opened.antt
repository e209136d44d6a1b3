-- A node as it is opened.
use Rattle.std.proofs.Common.{◌≡◌, ℕ, refl, arith}
use Rattle.loader.specs.CatalogueView.{CatalogueView, IsCatalogue, longest_part, opening_state}
use Rattle.loader.specs.Installed.{InstalledView, no_programs}
use Rattle.loader.proofs.Export.{opening_is_state, state_sizes}
use Rattle.oplog.specs.declared.configuration.TheConstants.{MAX_WINDOW}
use Rattle.oplog.specs.Lists.{RecordListView, new_list}
use Rattle.oplog.specs.Logs.{Log, HandView, opened_log, opened_hand}
use Rattle.replica.specs.Views.{ReplicaView, RepliesView}
use Rattle.running.specs.Running.{IsSteady}

pub steady_at : (c : CatalogueView) → IsCatalogue c → (log : Log) (hand : HandView) (replica : ReplicaView) (replies : RepliesView) (room : InstalledView) (next : RecordListView) (limit : ℕ) → log ≡ opened_log (opening_state c) MAX_WINDOW (longest_part c) limit → hand ≡ opened_hand MAX_WINDOW (longest_part c)
    → replica ≡ record { tail = 0; state = opening_state c } → room ≡ no_programs c.shapes 1 c.long → next ≡ new_list 1 (longest_part c) → IsSteady c (record { log = log; own = record { hand = hand; replica = replica }; replies = replies; room = room; next = next })
steady_at c whole log hand replica replies room next limit l h r o x =
    let sizes = state_sizes (opening_is_state c whole) in
    rw (l, h, r, o, x) (record { completed = refl; base_sizes = sizes; base = λ _. refl; window = refl; long = (refl, refl); next = (refl, refl); tail = refl; sizes = sizes; room = (refl, refl, omega arith) })
