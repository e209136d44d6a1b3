-- The trace, read off the steps and what they were answered, with no look at the store.
use Rattle.std.specs.Prelude.{List, [], ◌∷◌, Option, Some, None}
use Rattle.verifier.specs.declared.refusal.Mode.TheVariants.{Update, Read}
use Rattle.oplog.specs.declared.configuration.Sizes.{Sizes}
use Rattle.oplog.specs.Sessions.{session}
use Rattle.oplog.specs.declared.records.Op.TheVariants.{Run}
use Rattle.oplog.specs.declared.records.Op.TheVariants as operations
use Rattle.schedule.specs.declared.steps.Step.{Step}
use Rattle.schedule.specs.declared.steps.Step.TheVariants.{Post, Install, Collect, ReadBegin, ReadAnswer}
use Rattle.schedule.specs.declared.steps.StepAnswer.{StepAnswer}
use Rattle.schedule.specs.declared.steps.StepAnswer.TheVariants as answers
use Rattle.schedule.specs.Trace.{Updated, ReadBack, Event, Call, Back, Trace}

-- the event that a step is, by its answer: a session's call that was taken, or one that was answered; no other step is an event
abbrev pub event_of : Sizes → Step → StepAnswer → Option Event
event_of c (Post n s program argument) answers.Done = Some (Call (session c n s) Update (Run (record { program = program; argument = argument.items })))
event_of c (Install n s mode arg_len bytes) answers.Done =
    Some (Call (session c n s) Update (operations.Install (record { mode = mode; arg_len = arg_len; bytes = bytes.items })))
event_of c (ReadBegin n s program argument) answers.Done = Some (Call (session c n s) Read (Run (record { program = program; argument = argument.items })))
event_of c (Collect n s) (answers.Back reply) = Some (Back (session c n s) (Updated reply))
event_of c (ReadAnswer n s) (answers.ReadBack answer) = Some (Back (session c n s) (ReadBack answer))
event_of c step answer = None

-- an event, if there is one, before others
abbrev pub before_events : Option Event → Trace → Trace
before_events None t = t
before_events (Some e) t = e ∷ t

-- the events of these steps, by their answers, in turn
abbrev pub read_off : Sizes → List Step → List StepAnswer → Trace
read_off c [] given = []
read_off c (step ∷ steps) [] = []
read_off c (step ∷ steps) (answer ∷ given) = before_events (event_of c step answer) (read_off c steps given)
