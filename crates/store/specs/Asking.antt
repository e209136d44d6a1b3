-- An update that a session asks for and waits for nobody: what the call tells.
use Rattle.std.specs.Prelude.{◌≡◌, Option, None, Some, Result, Ok, Err, [], ◌∷◌}
use Rattle.oplog.specs.Operations.{Operation}
use Rattle.verifier.specs.declared.refusal.Mode.TheVariants.{Update}
use Rattle.replica.specs.declared.refusals.StoreRefused.{StoreRefused}
use Rattle.schedule.specs.Trace.{Call}
use Rattle.accounts.specs.declared.sessions.Pending.{Pending}
use Rattle.store_steps.specs.declared.deeds.Deed.{Deed}
use Rattle.store_steps.specs.declared.deeds.Deed.TheVariants.{Busy as HeldBack, Went, Collected}
use Rattle.store_steps.specs.Polling.{BeginsBy, BeginsInOneHold, HasAskedFor}
use Rattle.store_steps.specs.Views.{SessionView}
use Rattle.store.specs.declared.answers.Answer.{Answer}
use Rattle.store.specs.declared.updating.Tried.{Tried}
use Rattle.store.specs.declared.updating.Tried.TheVariants.{Busy, Waits, Ends}
use Rattle.store.specs.Going.{CompleteGoes}
use Rattle.store.specs.Linear.{Adds, AddsAnswer}
use Rattle.store.specs.Polled.{TellsCompleted}
use Rattle.store.specs.Sessions.{SessionGoesOn, StoreView, known_of, said}

-- The session has posted this operation. In the same hold of its desk it may have claimed what was posted there.
pub record Asks (store : StoreView) (old new : SessionView) (op : Operation) : Type 0 where
  pub session : SessionGoesOn store old new
  pub asked : HasAskedFor old new op
  pub goes : BeginsBy (known_of old) (known_of new) op
  pub held : BeginsInOneHold (known_of old) (known_of new) op
  pub adds : Adds old new (Call old.session Update op ∷ [])

-- It has gone on with the update that was out, and has this answer, if it has one.
pub record GoesOn (store : StoreView) (old new : SessionView) (answer : Option (Result Answer StoreRefused)) : Type 0
  where
    pub session : SessionGoesOn store old new
    pub completed : (o : Pending) → old.note.pending ≡ Some o → TellsCompleted old new o answer
    pub goes : CompleteGoes old new answer
    pub adds : AddsAnswer old new answer

-- first the one, and then the other
pub record AsksAndGoesOn (store : StoreView) (old new : SessionView) (op : Operation)
    (answer : Option (Result Answer StoreRefused)) : Type 0 where
  pub between : SessionView
  pub asks : Asks store old between op
  pub goes_on : GoesOn store between new answer

-- an update that isn't refused: where its desk is held nothing has changed; else the session has posted it, and has gone
-- on with it
abbrev pub TellsTried : StoreView → (old new : SessionView) → Operation → Result Tried StoreRefused → Type 0
TellsTried store old new op (Ok Busy) = new ≡ old
TellsTried store old new op (Ok Waits) = AsksAndGoesOn store old new op None
TellsTried store old new op (Ok (Ends answer)) = AsksAndGoesOn store old new op (Some answer)
TellsTried store old new op (Err why) = ⊥

-- what a posted update has come to, with this answer or without one
abbrev pub tried_with : Option (Result Answer StoreRefused) → Tried
tried_with None = Waits
tried_with (Some answer) = Ends answer

-- the answer that a session has by this deed, if it has one
abbrev pub answer_by : Deed → Option (Result Answer StoreRefused)
answer_by HeldBack = None
answer_by Went = None
answer_by (Collected reply) = Some (said reply)
