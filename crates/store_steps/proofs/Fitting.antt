-- The requests that a session combines fit in the log of its store, and in the hands for that.
use Rattle.std.proofs.Common.{◌≡◌, true, length, sym, ap, ◌∙◌, subst}
use Rattle.std.specs.Prelude.{None}
use Rattle.ownlock.specs.Seats.{At}
use Rattle.loader.specs.CatalogueView.{longest_part}
use Rattle.oplog.specs.History.{AllFit, History}
use Rattle.oplog.specs.Logs.{Log as LogView}
use Rattle.replica.specs.StoreMeaning.{AreUpdates, is_operation}
use Rattle.replica.proofs.Export.{updates_fit}
use Rattle.verifier.specs.declared.refusal.Mode.TheVariants.{Update}
use Rattle.accounts.specs.declared.sessions.Claim.{Claim}
use Rattle.accounts.specs.Moves.{unplaced}
use Rattle.accounts.proofs.Export.{at_of}
use Rattle.node.specs.declared.following.NodeReplica.{NodeReplica}
use Rattle.store_steps.specs.declared.values.Value.{Value}
use Rattle.store_steps.specs.Standing.{HasPlace, SessionKnown, Stands}
use Rattle.store_steps.proofs.Batched.{claim_at}
use Rattle.store_steps.proofs.Taken.{TookLog}

-- each request of a session's batch is an update of its catalogue
pub batch_updates : (k : SessionKnown) (rs : History) → Stands k → k.note.batch ≡ unplaced rs → AreUpdates k.progress.catalogue rs
batch_updates k rs s noted j r e =
    let t : Claim = record { request = r; index = None } in
    let at = subst (At j t) (sym noted) (claim_at rs j r (at_of rs j r e)) in
    let asked = s.accounts.requested k.session j t (k.note, s.here, at) in
    let pending = s.accounts.pending r.author asked.0 asked.2.0 asked.1 asked.2.1 in
    subst (λ z. is_operation Update k.progress.catalogue z ≡ true) (sym asked.2.2) pending.0

pub batch_fits : (k : SessionKnown) (rs : History) → Stands k → k.note.batch ≡ unplaced rs → AllFit (longest_part k.progress.catalogue) rs
batch_fits k rs s noted = updates_fit k.progress.catalogue rs (batch_updates k rs s noted)

-- once there is room in the log that the session k has taken, as t, they fit there
pub appended_fit : (k t m : SessionKnown) (n0 : NodeReplica) (g h : LogView) (n : NodeReplica) (x : Value) (rs : History) → Stands k → k.note.batch ≡ unplaced rs → TookLog k t n0 x → HasPlace t m (length rs) g h n → AllFit h.long rs
appended_fit k t m n0 g h n x rs s noted b p =
    let same = p.log.sizes.3 ∙ (ap longest_part (sym p.goes.extends.catalogue) ∙ ap longest_part (sym b.extends.catalogue)) in
    subst (λ z. AllFit z rs) (sym same) (batch_fits k rs s noted)
