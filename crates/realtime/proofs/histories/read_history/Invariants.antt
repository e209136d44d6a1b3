use Rattle.std.proofs.Common.{◌≡◌, length}
use Rattle.text.specs.Lines.{lines_of}
use Rattle.realtime.specs.Histories.{calls_behind}
use Rattle.realtime.specs.Judging.{HasTaken, calls_of}
use Rattle.realtime.proofs.histories.read_history.Given as goal

abbrev pub invariant-loop-line : goal.invariant-loop-line
invariant-loop-line l = HasTaken l.ranks l.taken × (calls_behind l.ranks l.taken.calls.items l.lines.lines ≡ calls_of l.ranks (lines_of l.history))

abbrev pub decreases-loop-line : goal.decreases-loop-line
decreases-loop-line l = length l.lines.lines
