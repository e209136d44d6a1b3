-- What two sessions of a store heard, and that one list of operations explains it.
use Rattle.std.specs.Prelude.{◌≡◌, ◌<◌, ◌≤◌, ℕ, List, [], ◌∷◌, ◌++◌, length, Ok}
use Rattle.verifier.specs.declared.refusal.Mode.TheVariants.{Read, Update}
use Rattle.loader.specs.CatalogueView.{CatalogueView, with_places}
use Rattle.loader.specs.StoreState.{StoreState}
use Rattle.oplog.specs.History.{History, state_after}
use Rattle.oplog.specs.Limits.{sizes_in}
use Rattle.oplog.specs.Operations.{Operation}
use Rattle.combiner.specs.declared.slots.Reply.TheVariants.{Placed}
use Rattle.replica.specs.StoreMeaning.{store_meaning}
use Rattle.accounts.specs.Accounts.{IsWellFormed}
use Rattle.promise.specs.Linearized.{Explains}
use Rattle.schedule.specs.Trace.{Back, Call, Positions, ReadBack, Trace, Updated}
use Rattle.store_steps.specs.Views.{SessionView, op_of}
use Rattle.store_steps.specs.declared.values.Setup.{Setup}
use Rattle.store_laws.specs.RunEvents.{events_of_session}
use Rattle.readpath.specs.declared.reading.ReadAnswer.{ReadAnswer}
use Rattle.store.specs.Linear.{Adds}
use Rattle.store.specs.Sessions.{TellsUpdate}
use Rattle.store.specs.declared.answers.Answer.{Answer}
use Rattle.example_calls.specs.declared.TheConstants.{CONFIG}
use Rattle.example_calls.specs.declared.heard.Heard.{Heard}
use Rattle.example_calls.specs.declared.heard.Programs.{Programs}

-- a session called the operation as a read, and had this answer
abbrev pub read_and_back : ℕ → Operation → ReadAnswer → Trace
read_and_back session op a = Call session Read op ∷ Back session (ReadBack a) ∷ []

-- what the clauses of a call say of the answer to an update
pub record HasUpdated (old new : SessionView) (op : Operation) (a : Answer) : Type 0 where
  pub session : new.session ≡ old.session
  pub well_formed : IsWellFormed store_meaning new.progress
  pub tells : TellsUpdate old new op (Ok a)

-- and of two, one after the other
pub record HasUpdatedTwice (old new : SessionView) (op : Operation) (first second : Answer) : Type 0 where
  pub between : SessionView
  pub once : HasUpdated old between op first
  pub again : HasUpdated between new op second

-- what the clauses of a call say of the answer to a read: what it adds, and that it has seen all that its session knew
-- to be completed
pub record HasRead (old new : SessionView) (op : Operation) (a : ReadAnswer) : Type 0 where
  pub adds : Adds old new (read_and_back old.session op a)
  pub sees : old.progress.completed ≤ a.point

-- a session called the operation as an update, and had this answer
abbrev pub call_and_back : ℕ → Operation → Answer → Trace
call_and_back session op a = Call session Update op ∷ Back session (Updated (Placed a.index a.reply)) ∷ []

-- and two of them
abbrev pub two_calls : ℕ → Operation → (first second : Answer) → Trace
two_calls session op first second = call_and_back session op first ++ call_and_back session op second

-- The history explains a trace, in which session 0 has two updates with their answers, one after the other, and then
-- these events; and session 1 has one
-- update. The first of the two came before the second, and this is the state after the history.
pub record AreExplained (opening : Setup) (op : Operation) (more : Trace) (heard : Heard)
    (state : StoreState) : Type 0 where
  pub history : History
  pub last : state ≡ state_after store_meaning opening.catalogue history (length history)
  pub trace : Trace
  pub positions : Positions
  pub explains : Explains opening.catalogue opening.config.limit history positions trace
  pub waits : events_of_session 0 trace ≡ two_calls 0 op heard.first heard.second ++ more
  pub polls : events_of_session 1 trace ≡ call_and_back 1 op heard.polled
  pub before : heard.first.index < heard.second.index

-- the same of these programs, where what comes after is a read with its answer
abbrev pub AllAreExplained : Setup → Programs → List ℕ → Heard → ReadAnswer → StoreState → Type 0
AllAreExplained opening programs argument heard answer state =
    AreExplained opening (op_of programs.update argument)
    (read_and_back 0 (op_of programs.read argument) answer) heard state

-- what was opened with two slots of one node, on this catalogue
abbrev pub two_of : CatalogueView → Setup
two_of c = record { config = sizes_in CONFIG; catalogue = with_places c CONFIG.spare }
