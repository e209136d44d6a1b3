-- What a call adds to the calls and answers of its session, and what it is that one list of operations explains those of
-- all sessions.
use Rattle.std.specs.Prelude.{◌≡◌, ℕ, ◌<◌, ◌++◌, List, [], ◌∷◌, Option, Some, None, Result, Ok, Err}
use Rattle.std.specs.List.{All}
use Rattle.ownlock.specs.Seats.{At}
use Rattle.oplog.specs.Operations.{Operation}
use Rattle.accounts.specs.Told.{read_with}
use Rattle.oplog.specs.History.{History}
use Rattle.verifier.specs.declared.refusal.Mode.TheVariants.{Read, Update}
use Rattle.combiner.specs.declared.slots.Reply.{Reply}
use Rattle.replica.specs.declared.refusals.StoreRefused.{StoreRefused}
use Rattle.readpath.specs.declared.reading.ReadAnswer.{ReadAnswer}
use Rattle.schedule.specs.Trace.{Back, Call, Positions, ReadBack, Trace, Updated, caller}
use Rattle.promise.specs.Linearized.{Explains}
use Rattle.store_steps.specs.Shelving.{sessions_of}
use Rattle.store_steps.specs.Views.{SessionView}
use Rattle.store_laws.specs.RunEvents.{events_of_session, own_trace, trace_of}
use Rattle.store.specs.declared.answers.Answer.{Answer}
use Rattle.store.specs.Sessions.{StoreView, said}

-- ---- the calls of a session

-- its own updates and reads, with their answers, in their order, as its note has them
abbrev pub own_events : SessionView → Trace
own_events s = own_trace s.session s.note

-- the calls and answers of all sessions that it has seen
abbrev pub seen : SessionView → Trace
seen s = trace_of s.run

-- The session has added these events to its own, and no others. What it had seen begins what it has seen now.
pub record Adds (old new : SessionView) (events : Trace) : Type 0 where
  pub same : new.session ≡ old.session
  pub own : own_events new ≡ own_events old ++ events
  pub grown : (more : Trace) × (seen new ≡ seen old ++ more)

-- the sessions have made no call, and have seen none
abbrev pub AreNew : List SessionView → Type 0
AreNew sessions = (a : ℕ) (s : SessionView) → At a s sessions → (own_events s ≡ []) × (seen s ≡ [])

-- ---- what a call adds

-- an update that isn't refused: it and what it replies
abbrev pub AddsUpdate : (old new : SessionView) → Operation → Result Answer StoreRefused → Type 0
AddsUpdate old new op result =
    (reply : Reply) × (result ≡ said reply)
    × Adds old new (Call old.session Update op ∷ Back old.session (Updated reply) ∷ [])

-- a post that isn't refused: it, unless the desk was held
abbrev pub AddsPost : {A : Type 0} → (old new : SessionView) → Operation → Result (Option A) StoreRefused → Type 0
AddsPost old new op (Ok (Some a)) = Adds old new (Call old.session Update op ∷ [])
AddsPost old new op (Ok None) = Adds old new []
AddsPost old new op (Err refused) = ⊥

-- a call that goes on with a posted update: what that replies, unless there is no answer yet
abbrev pub AddsAnswer : (old new : SessionView) → Option (Result Answer StoreRefused) → Type 0
AddsAnswer old new None = Adds old new []
AddsAnswer old new (Some result) =
    (reply : Reply) × (result ≡ said reply) × Adds old new (Back old.session (Updated reply) ∷ [])

-- what a session notes of a read: the read and its answer, if there is one
abbrev pub NotesRead : (old new : SessionView) → Operation → Option ReadAnswer → Type 0
NotesRead old new op (Some a) = new.note ≡ read_with old.note op a.point a.reply
NotesRead old new op None = new.note ≡ old.note

-- a read that isn't refused: it and what it answers
abbrev pub AddsRead : (old new : SessionView) → Operation → Result ReadAnswer StoreRefused → Type 0
AddsRead old new op (Ok a) = Adds old new (Call old.session Read op ∷ Back old.session (ReadBack a) ∷ [])
AddsRead old new op (Err refused) = ⊥

-- the same of a try to read, which adds nothing if it has no answer
abbrev pub AddsTry : (old new : SessionView) → Operation → Result (Option ReadAnswer) StoreRefused → Type 0
AddsTry old new op (Ok (Some a)) = AddsRead old new op (Ok a)
AddsTry old new op (Ok None) = Adds old new []
AddsTry old new op (Err refused) = ⊥

-- ---- one list of operations

-- This list of operations explains a trace of calls and answers of the store's sessions. In it each of these sessions has exactly its own events,
-- in their order. What one of them had seen when its last call returned begins it: what others call later comes after that.
pub record Explained (store : StoreView) (sessions : List SessionView) (history : History) : Type 0 where
  pub trace : Trace
  pub own : (a : ℕ) (s : SessionView) → At a s sessions → events_of_session s.session trace ≡ own_events s
  pub begins : (a : ℕ) (s : SessionView) → At a s sessions
      → (more : Trace) × (trace ≡ seen s ++ more) × (events_of_session s.session more ≡ [])
  pub positions : Positions
  pub explains : Explains store.catalogue store.config.limit history positions trace
  pub callers : All (λ e. caller e < sessions_of store.config) trace

-- And nobody else has an event in it.
pub record Linearizes (store : StoreView) (sessions : List SessionView) (history : History) : Type 0 where
  pub of : Explained store sessions history
  pub open of use *
  pub only : All (λ e. (a : ℕ) × (s : SessionView) × At a s sessions × (s.session ≡ caller e)) trace

-- some list does that of these sessions; of any other it has what these have seen, and perhaps more
abbrev pub AreExplained : StoreView → List SessionView → Type 0
AreExplained store sessions = (history : History) × Explained store sessions history

-- some list does that of all sessions
abbrev pub AreLinearized : StoreView → List SessionView → Type 0
AreLinearized store sessions = (history : History) × Linearizes store sessions history
