use Rattle.std.proofs.Common.{◌≡◌, ◌++◌, length}
use Rattle.dumps.specs.Dumping.{dump}
use Rattle.dumps.proofs.dumping.dump.Given as goal

abbrev pub invariant-loop-pieces : goal.invariant-loop-pieces
invariant-loop-pieces l = (dump l.state ≡ l.text.items ++ l.pieces) × (length l.room ≡ 40960)

abbrev pub decreases-loop-pieces : goal.decreases-loop-pieces
decreases-loop-pieces l = length l.pieces
