-- What is kept while steps are taken. Clauses of private functions alone cite this.
use Rattle.std.specs.Prelude.{◌≡◌, ℕ, Bool, true, false, List, ◌++◌, Option, Some, None, Result}
use Rattle.text.specs.Lines.{lines_of}
use Rattle.loader.specs.CatalogueView.{CatalogueView}
use Rattle.schedule.specs.declared.parts.Opening.{Opening}
use Rattle.schedule.specs.declared.steps.Step.{Step}
use Rattle.schedule.specs.Worlds.{WorldView}
use Rattle.schedule.specs.Steps.{took, world_after}
use Rattle.schedule.specs.Taking.{WorldState, step_answer}
use Rattle.engine.specs.declared.replies.Verdict.{Verdict}
use Rattle.scripts.specs.StepLine.{StepMeaning}
use Rattle.running.specs.Running.{AnswersBehind}
use Rattle.scheduling.specs.ScheduleAnswer.{StepTurn, step_text, step_turn, step_line_turn, steps_answer}

-- the line's step is this one
abbrev pub IsStepOf : CatalogueView → StepMeaning → Step → Type 0
IsStepOf c line step = (m : Opening) (w : WorldView) → m.catalogue ≡ c → step_turn m w line ≡ record { text = step_text (step_answer (took m w step)); world = world_after w (took m w step) }

-- the line was taken and is good, or it is bad and nothing was written
abbrev pub StepLineTaken : WorldState → Option StepTurn → Bool → WorldState → List ℕ → List ℕ → Type 0
StepLineTaken old None good new before after = (good ≡ false) × (after ≡ before)
StepLineTaken old (Some turn) good new before after = (good ≡ true) × (after ≡ before ++ turn.text) × (new ≡ record old { world = turn.world })

-- `StepLineTaken` of the line that a text says
abbrev pub TakesStepLine : WorldState → List ℕ → Bool → WorldState → List ℕ → List ℕ → Type 0
TakesStepLine old line = StepLineTaken old (step_line_turn old.opening old.world line)

-- what a list of steps answers on a store stands behind what was written, and its verdict is told, unless memory runs out
abbrev pub AnswersSteps : {E : Type 0} → WorldState → List ℕ → List ℕ → List ℕ → Result Verdict E → Type 0
AnswersSteps on steps old new r = AnswersBehind old new r (steps_answer on.opening 1 on.world (lines_of steps))
