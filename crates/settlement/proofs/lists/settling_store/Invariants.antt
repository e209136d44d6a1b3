use Rattle.std.proofs.Common.{◌≡◌}
use Rattle.settlement.specs.Settling.{settling_all}
use Rattle.settlement.proofs.lists.settling_store.Given as goal

abbrev pub invariant-loop-node : goal.invariant-loop-node
invariant-loop-node l = l.steps.items ≡ settling_all 0 l.node l.config.slots
