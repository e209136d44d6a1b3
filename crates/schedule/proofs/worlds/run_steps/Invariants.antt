use Rattle.std.proofs.Common.{◌≡◌, ◌≤◌, take, length, vec_capacity}
use Rattle.schedule.specs.Steps.{world_of}
use Rattle.schedule.specs.Taking.{answers_to}
use Rattle.schedule.proofs.worlds.run_steps.Given as goal

abbrev pub invariant-loop-step : goal.invariant-loop-step
invariant-loop-step l = record {
  capacity : length l.steps ≤ vec_capacity l.answers;
  count : length l.answers.items ≡ l.step-index;
  world : l.world ≡ record l.initial.world { world = world_of l.initial.world.opening l.initial.world.world (take l.step-index l.steps) };
  answers : l.answers.items ≡ answers_to l.initial.world.opening l.initial.world.world (take l.step-index l.steps);
}
