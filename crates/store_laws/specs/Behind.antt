-- A call that begins when another has returned stands behind it, by what their sessions know then and later.
use Rattle.std.specs.Prelude.{◌≡◌, ℕ, ◌≤◌, List, ◌++◌, length, slice_index, None}
use Rattle.ownlock.specs.declared.known.ShelfStep.{ShelfStep}
use Rattle.ownlock.specs.Words.{completed_word}
use Rattle.ownlock.specs.Seats.{At, Continues, Run, own_steps}
use Rattle.loader.specs.CatalogueView.{CatalogueView}
use Rattle.oplog.specs.Operations.{Operation}
use Rattle.accounts.specs.declared.sessions.Progress.{Progress}
use Rattle.accounts.specs.declared.sessions.SessionNote.{SessionNote}
use Rattle.accounts.specs.Accounts.{Extends}
use Rattle.store_steps.specs.declared.values.Setup.{Setup}
use Rattle.store_steps.specs.declared.values.Value.{Value}
use Rattle.store_steps.specs.Shelving.{places_of}
use Rattle.store_laws.specs.Meanwhile.{Meanwhile, StoreKnown, StoreState}

-- in this state a session of the store knows k
abbrev pub Knows : StoreState → StoreKnown → Type 0
Knows s k = (j i : ℕ) × (v : List StoreKnown) × At j v s.views × At i k v

-- A session that knows `asker` waits for no answer when another knows k. Later, when a session knows `told` and the
-- other has come to know `still`, the next update of the asker has a place in what was told: that place is behind all
-- that the other knew.
abbrev pub UpdatesStandBehind : Type 0
UpdatesStandBehind =
    (opening : Setup) (begun later : StoreState) (asker k told still : StoreKnown) → Meanwhile opening begun → Meanwhile opening later
    → Knows begun asker → Knows begun k → Knows later told → Knows later still → Extends k.progress still.progress → asker.note.pending ≡ None
    → (place : ℕ) (op : Operation) → At place (record { author = asker.session; seq = length asker.note.answered; op = op }) told.progress.history
    → length k.progress.history ≤ place

-- the completed tail that a read loads is not below what any session then knows to be completed
abbrev pub ReadsStandBehind : Type 0
ReadsStandBehind =
    (opening : Setup) (loading : StoreState) (k : StoreKnown) → Meanwhile opening loading → Knows loading k
    → k.progress.completed ≤ slice_index loading.words (completed_word (places_of opening.config))

-- At the moment `begun` one session knows `asker` and another knows k; later they know `told` and `still`. In the later run all own steps that
-- the first has taken since then come after the whole run that the second knew at that moment.
abbrev pub StepsStandBehind : Type 0
StepsStandBehind =
    (opening : Setup) (begun later : StoreState) (asker k told still : StoreKnown) → Meanwhile opening begun → (after : Meanwhile opening later)
    → Knows begun asker → Knows begun k → Knows later told → Knows later still → Continues k.run still.run → told.session ≡ asker.session
    → (taken : List (ShelfStep Value)) → told.steps ≡ taken ++ asker.steps
    → (since : Run (Progress CatalogueView) SessionNote Value) × (after.run ≡ since ++ k.run)
    × ((more : List (ShelfStep Value)) × (own_steps asker.session since ≡ taken ++ more))
