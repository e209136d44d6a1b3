use Rattle.std.proofs.Common.{◌≡◌}
use Rattle.store_steps.proofs.alone.wait_and_reply.Given as goal

abbrev pub invariant-loop : goal.invariant-loop
invariant-loop g l = l.seat ≡ l.initial.seat
