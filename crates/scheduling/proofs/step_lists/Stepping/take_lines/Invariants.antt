use Rattle.std.proofs.Common.{◌≡◌, length}
use Rattle.text.specs.Lines.{lines_of}
use Rattle.running.specs.RunAnswer.{behind}
use Rattle.scheduling.specs.ScheduleAnswer.{steps_answer}
use Rattle.engine.specs.Notes.{IsQuiet}
use Rattle.scheduling.proofs.step_lists.Stepping.take_lines.Given as goal

abbrev pub invariant-loop-number : goal.invariant-loop-number
invariant-loop-number l =
    (l.self.world.opening ≡ l.fn.self.world.opening)
    × (behind l.self.text.items (steps_answer l.fn.self.world.opening l.lines.number l.self.world.world l.lines.lines)
    ≡ behind l.fn.self.text.items (steps_answer l.fn.self.world.opening 1 l.fn.self.world.world (lines_of l.steps))) × IsQuiet l.fn.notes l.notes

abbrev pub decreases-loop-number : goal.decreases-loop-number
decreases-loop-number l = length l.lines.lines
