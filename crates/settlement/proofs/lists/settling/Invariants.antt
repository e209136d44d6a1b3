use Rattle.std.proofs.Common.{◌≡◌}
use Rattle.settlement.specs.Settling.{settling}
use Rattle.settlement.proofs.lists.settling.Given as goal

abbrev pub invariant-loop-slot : goal.invariant-loop-slot
invariant-loop-slot l = l.steps.items ≡ settling l.node l.slot
