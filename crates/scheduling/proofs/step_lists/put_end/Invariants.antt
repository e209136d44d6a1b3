use Rattle.std.proofs.Common.{◌≡◌, ◌++◌, drop}
use Rattle.scheduling.specs.ScheduleAnswer.{nodes_text, end_text}
use Rattle.scheduling.proofs.step_lists.put_end.Given as goal

abbrev pub invariant-loop-number : goal.invariant-loop-number
invariant-loop-number l = l.out.items ++ nodes_text l.number (drop l.number l.world.world.nodes) ≡ l.fn.out.items ++ end_text l.world.world
