-- What other calls add to the calls and answers of their sessions, by what they tell.
use Rattle.std.specs.Prelude.{◌≡◌, ℕ, List, [], ◌∷◌, Option, Result, Some, None, MatchOption}
use Rattle.ownlock.specs.Seats.{At}
use Rattle.verifier.specs.declared.refusal.Mode.TheVariants.{Update}
use Rattle.replica.specs.declared.refusals.StoreRefused.{StoreRefused}
use Rattle.accounts.specs.declared.sessions.Pending.{Pending}
use Rattle.schedule.specs.Trace.{Call}
use Rattle.store_steps.specs.declared.steps.Question.{Question}
use Rattle.store_steps.specs.Asking.{asked_op}
use Rattle.store_steps.specs.Views.{SessionView}
use Rattle.store.specs.declared.answers.Answer.{Answer}
use Rattle.store.specs.Linear.{Adds, AddsAnswer, AddsUpdate}
use Rattle.store.specs.Pipelines.{EachGoesOn, TellsEach}
use Rattle.store.specs.PolledPipelines.{EachAsks, EachIsTold}
use Rattle.store.specs.Sessions.{SessionGoesOn, StoreView}

-- A call that leaves its session's note adds nothing: a look for no read, and a try in vain.
abbrev pub LooksAddNothing : Type 0
LooksAddNothing =
    (store : StoreView) (old new : SessionView) → SessionGoesOn store old new → new.note ≡ old.note → Adds old new []

-- of a list, each session adds its own update and the answer to it
abbrev pub ListsAdd : Type 0
ListsAdd =
    (store : StoreView) (old new : List SessionView) (calls : List Question)
    (answers : List (Result Answer StoreRefused)) → EachGoesOn store old new → TellsEach old new calls answers
    → (j : ℕ) (s t : SessionView) (q : Question) → At j s old → At j t new → At j q calls
    → (a : Result Answer StoreRefused) × At j a answers × AddsUpdate s t (asked_op q) a

-- of a list that is posted, each session adds its own update
abbrev pub PostsAdd : Type 0
PostsAdd =
    (store : StoreView) (old new : List SessionView) (calls : List Question) → EachGoesOn store old new
    → EachAsks old new calls → (j : ℕ) (s t : SessionView) (q : Question) → At j s old → At j t new → At j q calls
    → Adds s t (Call s.session Update (asked_op q) ∷ [])

-- and once it is polled, each that waited adds its answer, if there is one
abbrev pub PollsAdd : Type 0
PollsAdd =
    (store : StoreView) (old new : List SessionView) (answers : List (Result Answer StoreRefused))
    (result : Option (Unit {0})) → EachGoesOn store old new → EachIsTold old new answers result
    → (j : ℕ) (s t : SessionView) (o : Pending) → At j s old → At j t new → s.note.pending ≡ Some o
    → MatchOption result (AddsAnswer s t None)
    (λ _. (a : Result Answer StoreRefused) × At j a answers × AddsAnswer s t (Some a))
