use Rattle.std.proofs.Common.{◌+◌, ◌≤◌, length, vec_capacity}
use Rattle.std.specs.Vec.Iter.{into_iter_items}
use Rattle.settlement.proofs.OnCalls.{IsOnTheWay}
use Rattle.settlement.proofs.calls.take_steps.Given as goal

abbrev pub invariant-loop-step : goal.invariant-loop-step
invariant-loop-step l = record {
  room : length l.taken.items + length (into_iter_items l.step-iterator) ≤ vec_capacity l.taken;
  on_the_way : IsOnTheWay l.initial.world l.fn.steps.items l.world l.taken.items (into_iter_items l.step-iterator);
}
