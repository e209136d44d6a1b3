use Rattle.std.proofs.Common.{◌≡◌, length}
use Rattle.explain.specs.Assembly.{line_from, line_in}
use Rattle.explain.proofs.files.assembly.line_at.Given as goal

abbrev pub invariant-loop-number : goal.invariant-loop-number
invariant-loop-number l = line_from l.wanted l.lines.number l.lines.lines ≡ line_in l.text l.wanted

abbrev pub decreases-loop-number : goal.decreases-loop-number
decreases-loop-number l = length l.lines.lines
