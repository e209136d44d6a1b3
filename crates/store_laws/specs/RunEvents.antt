-- The run of a store's lock, the events that its sessions make there, as their notes have them, and the history that explains them.
use Rattle.std.specs.Prelude.{◌≡◌, ℕ, ◌==◌, ◌<◌, ◌≤◌, drop, filter, List, [], ◌∷◌, ◌++◌, length, map, replicate, Some, slice_get}
use Rattle.std.specs.List.{All}
use Rattle.ownlock.specs.declared.known.SharedStep.{SharedStep}
use Rattle.ownlock.specs.Runs.{Runs}
use Rattle.ownlock.specs.Seats.{At, Opened, Run}
use Rattle.loader.specs.CatalogueView.{CatalogueView}
use Rattle.verifier.specs.declared.refusal.Mode.TheVariants.{Read, Update}
use Rattle.combiner.specs.declared.slots.Reply.TheVariants.{Placed}
use Rattle.accounts.specs.declared.sessions.AnsweredUpdate.{AnsweredUpdate}
use Rattle.accounts.specs.declared.sessions.Progress.{Progress}
use Rattle.accounts.specs.declared.sessions.SessionEvent.{SessionEvent}
use Rattle.accounts.specs.declared.sessions.SessionEvent.TheVariants as noted
use Rattle.accounts.specs.declared.sessions.SessionNote.{SessionNote}
use Rattle.accounts.specs.Accounts.{Extends}
use Rattle.accounts.specs.LogSteps.{first_progress, fresh_note}
use Rattle.schedule.specs.declared.parts.Opening.{Opening}
use Rattle.schedule.specs.Explains.{Explains}
use Rattle.schedule.specs.Trace.{Answer, Answers, Event, Call, Back, ReadBack, Trace, Positions, Updated, caller, stamp}
use Rattle.store_steps.specs.declared.values.Setup.{Setup}
use Rattle.store_steps.specs.declared.values.Value.{Value}
use Rattle.store_steps.specs.Shelving.{store_rules}
use Rattle.store_laws.specs.Behind.{Knows}
use Rattle.store_laws.specs.Meanwhile.{Meanwhile, StoreKnown, StoreState}

abbrev pub StoreStep : Type 0
StoreStep = SharedStep (Progress CatalogueView) SessionNote Value

-- the steps of all sessions of a store in one order, the last step first
abbrev pub StoreRun : Type 0
StoreRun = Run (Progress CatalogueView) SessionNote Value

-- ---- the events of sessions

-- what the session x notes of its calls and answers, as events of a trace
abbrev pub event_of : ℕ → SessionEvent → Event
event_of x (noted.UpdateCall op) = Call x Update op
event_of x (noted.UpdateBack reply) = Back x (Updated reply)
event_of x (noted.ReadCall op) = Call x Read op
event_of x (noted.ReadBack point reply) = Back x (ReadBack (record { point = point; reply = reply }))

abbrev pub own_trace : ℕ → SessionNote → Trace
own_trace x n = map (event_of x) n.events

-- what a step adds to the events of its session
abbrev pub added : StoreStep → Trace
added e = drop (length (own_trace e.session e.before)) (own_trace e.session e.note)

-- the calls and answers of all sessions in a run, in their order: what its steps add
abbrev pub trace_of : StoreRun → Trace
trace_of [] = []
trace_of (e ∷ es) = trace_of es ++ added e

-- the events of the session c in a trace, in their order
abbrev pub events_of_session : ℕ → Trace → Trace
events_of_session c t = filter (λ (e : Event). caller e == c) t

-- ---- one history explains a run

-- what a store of so many sessions was opened with
abbrev pub opened_for : Opening → (sessions places : ℕ) → Opened (Progress CatalogueView) SessionNote
opened_for m sessions places = record { progress = first_progress m.config m.catalogue; places = places; notes = replicate sessions fresh_note }

-- in a run that the rules allow, the events that the session x makes are those that its note has
abbrev pub NotesTell : Type 0
NotesTell =
    (m : Opening) (sessions places : ℕ) (run : StoreRun) (l : Progress CatalogueView) (ns : List SessionNote)
    → Runs store_rules (opened_for m sessions places) run l ns → (x : ℕ) (n : SessionNote) → At x n ns
    → events_of_session x (trace_of run) ≡ own_trace x n

-- and each event is of one of these sessions
abbrev pub TracesAreTheirs : Type 0
TracesAreTheirs =
    (m : Opening) (sessions places : ℕ) (run : StoreRun) (l : Progress CatalogueView) (ns : List SessionNote)
    → Runs store_rules (opened_for m sessions places) run l ns → All (λ e. caller e < sessions) (trace_of run)

-- the history that a run leads to explains its events
abbrev pub RunsAreExplained : Type 0
RunsAreExplained =
    (m : Opening) (sessions places : ℕ) (run : StoreRun) (l : Progress CatalogueView) (ns : List SessionNote)
    → Runs store_rules (opened_for m sessions places) run l ns → (positions : Positions) × Explains m l.history positions (trace_of run)

-- session x was answered this update: its return is in the trace
abbrev pub IsTold : Trace → (x : ℕ) → AnsweredUpdate → Type 0
IsTold t x u = (c b : ℕ) × Answers t x Update u.op c b (Updated (Placed u.index u.reply))

-- the events of a run have the call and the return of each update that a session has noted as answered
abbrev pub AnswersAreInRun : Type 0
AnswersAreInRun =
    (m : Opening) (sessions places : ℕ) (run : StoreRun) (l : Progress CatalogueView) (ns : List SessionNote)
    → Runs store_rules (opened_for m sessions places) run l ns
    → (x q : ℕ) (n : SessionNote) (u : AnsweredUpdate) → At x n ns → At q u n.answered → IsTold (trace_of run) x u

-- the events of each run that goes on from another begin with the events of that one
abbrev pub EventsGoOn : Type 0
EventsGoOn = (since run : StoreRun) → (more : Trace) × (trace_of (since ++ run) ≡ trace_of run ++ more)

-- At each step e of a run: the history there begins the one at the end, and explains the events up to e. Each answer among these events is
-- completed there.
abbrev pub EachStepStands : Type 0
EachStepStands =
    (m : Opening) (sessions places : ℕ) (since run : StoreRun) (e : StoreStep) (l : Progress CatalogueView) (ns : List SessionNote)
    → Runs store_rules (opened_for m sessions places) (since ++ e ∷ run) l ns
    → Extends e.progress l
    × ((positions : Positions) × Explains m e.progress.history positions (trace_of (e ∷ run)))
    × ((b x : ℕ) (answer : Answer) → slice_get (trace_of (e ∷ run)) b ≡ Some (Back x answer) → stamp m.config.limit answer ≤ e.progress.completed)

-- an operation of the history that was there at the step e was called before e, so an update that is called after e has a later index
abbrev pub CalledLater : Type 0
CalledLater =
    (m : Opening) (sessions places : ℕ) (since run : StoreRun) (e : StoreStep) (l : Progress CatalogueView) (ns : List SessionNote)
    → Runs store_rules (opened_for m sessions places) (since ++ e ∷ run) l ns
    → (positions : Positions) × Explains m l.history positions (trace_of (since ++ e ∷ run))
    × ((i c : ℕ) → slice_get positions i ≡ Some c → i < length e.progress.history → c < length (trace_of (e ∷ run)))

-- ---- between any two atomic steps

abbrev pub opening_of : Setup → Opening
opening_of s = record { config = s.config; catalogue = s.catalogue }

-- between any two atomic steps one history explains the events of all sessions of a store so far
abbrev pub BetweenIsExplained : Type 0
BetweenIsExplained =
    (opening : Setup) (s : StoreState) (w : Meanwhile opening s)
    → (positions : Positions) × Explains (opening_of opening) w.progress.history positions (trace_of w.run)

-- and these begin with the events that a session knows
abbrev pub KnownEventsBegin : Type 0
KnownEventsBegin =
    (opening : Setup) (s : StoreState) (w : Meanwhile opening s) (k : StoreKnown) → Knows s k
    → (more : Trace) × (trace_of w.run ≡ trace_of k.run ++ more)
