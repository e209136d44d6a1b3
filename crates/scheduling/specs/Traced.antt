-- What a list of steps and the answers to it tell: a trace of calls and answers, which one list of operations explains.
use Rattle.std.specs.Prelude.{◌≡◌, ◌⊎◌, ℕ, true, List, [], ◌∷◌, length, Option, Some, None, Ok}
use Rattle.verifier.specs.declared.refusal.Mode.TheVariants.{Update, Read}
use Rattle.text.specs.Lines.{lines_of, next_line}
use Rattle.loader.specs.CatalogueView.{CatalogueView, IsCatalogue}
use Rattle.oplog.specs.Calls.{Call as TheCall}
use Rattle.oplog.specs.Sessions.{session}
use Rattle.oplog.specs.declared.records.Op.TheVariants.{Run, Install as AnInstall}
use Rattle.oplog.specs.declared.configuration.Config.{Config}
use Rattle.oplog.specs.Limits.{sizes_in}
use Rattle.schedule.specs.declared.parts.Opening.{Opening}
use Rattle.schedule.specs.declared.steps.StepAnswer.{StepAnswer}
use Rattle.schedule.specs.declared.steps.StepAnswer.TheVariants as answers
use Rattle.schedule.specs.Trace.{Updated, ReadBack, Event, Call, Back, Trace}
use Rattle.schedule.specs.Worlds.{WorldView, opened, opening_of}
use Rattle.schedule.specs.Steps.{with_event}
use Rattle.schedule.specs.Headline.{IsExplained}
use Rattle.engine.specs.declared.replies.Verdict.TheVariants as verdicts
use Rattle.engine.specs.Answer.{Answer}
use Rattle.engine.specs.Sizes.{are_sizes}
use Rattle.engine.specs.Reading.{TextsRead, loaded_by}
use Rattle.scripts.specs.Script.{KeyedCall}
use Rattle.scripts.specs.StepLine.{StepMeaning, Comment, Post, Install, ReadBegin, Collect, ReadAnswer, step_line_meaning}
use Rattle.running.specs.RunAnswer.{behind, bad_line}
use Rattle.scheduling.specs.ScheduleAnswer.{step_text, end_text, number_keyed, steps_answer, schedule_answer}

-- ---- one line

-- the call that a line says
abbrev pub call_said : CatalogueView → KeyedCall → TheCall
call_said c call = record { program = number_keyed c call.key; argument = call.argument }

-- the event that a line is, by its answer: a session's call that was taken, or one that was answered; no other line is an event
abbrev pub event_told : Opening → StepMeaning → StepAnswer → Option Event
event_told m (Post at call) answers.Done = Some (Call (session m.config at.node at.slot) Update (Run (call_said m.catalogue call)))
event_told m (Install at new) answers.Done = Some (Call (session m.config at.node at.slot) Update (AnInstall new))
event_told m (ReadBegin at call) answers.Done = Some (Call (session m.config at.node at.slot) Read (Run (call_said m.catalogue call)))
event_told m (Collect at) (answers.Back reply) = Some (Back (session m.config at.node at.slot) (Updated reply))
event_told m (ReadAnswer at) (answers.ReadBack answer) = Some (Back (session m.config at.node at.slot) (ReadBack answer))
event_told m line answer = None

-- what is written of a line that was answered so: of a comment nothing
abbrev pub line_text : StepMeaning → StepAnswer → List ℕ
line_text Comment given = []
line_text line given = step_text given

-- ---- a list of steps

-- From line n on, after a trace: each line has its answer and adds the event that both tell, until a bad line. After the last line comes
-- where the store is
abbrev pub Tells : Opening → ℕ → Trace → List (List ℕ) → Answer → Trace → WorldView → Type 0
Tells m n t [] a whole w = (a ≡ record { text = end_text w; verdict = verdicts.Good }) × (whole ≡ t)
Tells m n t (l ∷ ls) a whole w =
    ((step_line_meaning (length m.catalogue.programs) l ≡ None) × (a ≡ bad_line n) × (whole ≡ t))
    ⊎ ((line : StepMeaning) × (step_line_meaning (length m.catalogue.programs) l ≡ Some line)
    × (given : StepAnswer) × (rest : Answer) × (a ≡ behind (line_text line given) rest)
    × Tells m (next_line n) (with_event t (event_told m line given)) ls rest whole w)

-- what is answered to lines tells a trace; one list of operations explains it, and the store after it
abbrev pub AreExplained : Opening → List (List ℕ) → Answer → Type 0
AreExplained m ls a = (whole : Trace) × (w : WorldView) × Tells m 1 [] ls a whole w × IsExplained m w whole

-- so it is of any lines, on a new store of a catalogue
abbrev pub StepListsAreExplained : Type 0
StepListsAreExplained = (m : Opening) (ls : List (List ℕ)) → IsCatalogue m.catalogue → AreExplained m ls (steps_answer m 1 (opened m) ls)

-- and of what `schedule` writes where the manifest is good and the sizes are in their limits
abbrev pub SchedulesAreExplained : Type 0
SchedulesAreExplained =
    (config : Config) (t : TextsRead) (c : CatalogueView) → loaded_by t ≡ Ok c → are_sizes config ≡ true
    → AreExplained (opening_of (sizes_in config) c) (lines_of t.file) (schedule_answer config (Some t))
