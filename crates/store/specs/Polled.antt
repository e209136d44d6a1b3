-- A session whose calls answer at once: what they tell.
use Rattle.std.specs.Prelude.{◌≡◌, ◌≤◌, length, Option, Result, MatchOption, MatchResult}
use Rattle.oplog.specs.Operations.{Operation}
use Rattle.combiner.specs.declared.slots.Reply.{Reply}
use Rattle.replica.specs.declared.refusals.StoreRefused.{StoreRefused}
use Rattle.accounts.specs.declared.sessions.Pending.{Pending}
use Rattle.accounts.specs.Moves.{posted_with}
use Rattle.store.specs.declared.answers.Answer.{Answer}
use Rattle.store.specs.Sessions.{said}
use Rattle.store_steps.specs.Stages.{IsOnItsWay, TellsDone}
use Rattle.store_steps.specs.Views.{SessionView}

-- the session waits for the answer to this operation, which it posted when the history was no shorter than it had known
abbrev pub HasPostedFor : (old new : SessionView) → Operation → Type 0
HasPostedFor old new op = (o : Pending) × (o.op ≡ op) × (length old.progress.history ≤ o.seen) × (new.note ≡ posted_with old.note o)

-- a post that isn't refused: where its desk is held the session is as it was, else the operation is posted, once
abbrev pub TellsPost : {A : Type 0} → (old new : SessionView) → Operation → Result (Option A) StoreRefused → Type 0
TellsPost old new op result = MatchResult result (λ o. MatchOption o (new ≡ old) (λ _. HasPostedFor old new op)) (λ _. ⊥)

abbrev pub TellsAnswer : (old new : SessionView) → Pending → Result Answer StoreRefused → Type 0
TellsAnswer old new o result = (reply : Reply) × (result ≡ said reply) × TellsDone old new o reply

-- a call that goes on: it waits still, or has the answer
abbrev pub TellsCompleted : (old new : SessionView) → Pending → Option (Result Answer StoreRefused) → Type 0
TellsCompleted old new o result = MatchOption result (IsOnItsWay old new) (λ r. TellsAnswer old new o r)
