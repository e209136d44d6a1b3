use Rattle.std.proofs.Common.{◌≡◌, [], length}
use Rattle.text.specs.Lines.{lines_of}
use Rattle.oplog.specs.declared.configuration.TheConstants.{MAX_LIMIT}
use Rattle.oplog.specs.History.{History}
use Rattle.running.specs.RunAnswer.{behind, lines_answer}
use Rattle.running.specs.KeptRun.{lines_left}
use Rattle.running.specs.Running.{IsSteady, Follows}
use Rattle.running.proofs.lines.take_lines.Given as goal

abbrev pub invariant-loop-number : goal.invariant-loop-number
invariant-loop-number l =
    IsSteady l.catalogue l.node
    × ((h : History) × Follows MAX_LIMIT l.catalogue h l.node
    × (behind l.out.items (lines_answer MAX_LIMIT l.catalogue l.lines.number h l.lines.lines) ≡ behind l.fn.out.items (lines_answer MAX_LIMIT l.catalogue 1 [] (lines_of l.script)))
    × (lines_left MAX_LIMIT l.catalogue h l.lines.lines ≡ lines_left MAX_LIMIT l.catalogue [] (lines_of l.script)))

abbrev pub decreases-loop-number : goal.decreases-loop-number
decreases-loop-number l = length l.lines.lines
