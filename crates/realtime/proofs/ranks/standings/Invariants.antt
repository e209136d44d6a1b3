use Rattle.std.proofs.Common.{◌≡◌, ◌++◌, length}
use Rattle.text.specs.Lines.{lines_of}
use Rattle.realtime.specs.Judging.{standings_of}
use Rattle.realtime.proofs.ranks.standings.Given as goal

abbrev pub invariant-loop-line : goal.invariant-loop-line
invariant-loop-line l = l.standings.items ++ standings_of l.lines.lines ≡ standings_of (lines_of l.transcript)

abbrev pub decreases-loop-line : goal.decreases-loop-line
decreases-loop-line l = length l.lines.lines
