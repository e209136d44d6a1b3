use Rattle.std.proofs.Common.{◌≡◌, ℕ, List, length}
use Rattle.std.specs.Option.{option_or}
use Rattle.text.specs.Lines.{lines_of}
use Rattle.asm.specs.Labels.{marks_of, marks_from}
use Rattle.asm.proofs.labels.Labels.read.Given as goal

abbrev pub invariant-loop-line : goal.invariant-loop-line
invariant-loop-line l = (q : List ℕ) → option_or (marks_of l.labels q) (marks_from l.lines.number l.slot l.lines.lines q) ≡ marks_from 1 0 (lines_of l.text) q

abbrev pub decreases-loop-line : goal.decreases-loop-line
decreases-loop-line l = length l.lines.lines
