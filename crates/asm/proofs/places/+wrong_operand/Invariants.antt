use Rattle.std.proofs.Common.{length}
use Rattle.asm.proofs.places.+wrong_operand.Given as goal

abbrev pub decreases-wrong_operand : goal.decreases-wrong_operand
decreases-wrong_operand l = length l.kinds.now
