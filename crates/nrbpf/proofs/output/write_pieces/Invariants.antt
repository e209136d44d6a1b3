use Rattle.std.proofs.Common.{◌≡◌, length}
use Rattle.nrbpf.proofs.output.write_pieces.Given as goal

abbrev pub invariant-loop-room : goal.invariant-loop-room
invariant-loop-room g l = length l.room ≡ 40960

abbrev pub decreases-loop-room : goal.decreases-loop-room
decreases-loop-room g l = length l.text.left
