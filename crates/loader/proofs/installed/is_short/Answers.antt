use Rattle.std.proofs.Common.{arith}
use Rattle.loader.proofs.installed.is_short.Goals as goal

pub overflow_mul-slots : goal.overflow_mul-slots
overflow_mul-slots c = record { fits = omega (arith, c.slots.ensures, c.program.ensures.accepted.typable.0.size_good.few) }
