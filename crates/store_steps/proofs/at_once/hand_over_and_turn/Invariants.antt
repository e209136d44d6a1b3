use Rattle.std.proofs.Common.{◌≡◌}
use Rattle.store_steps.proofs.at_once.hand_over_and_turn.Given as goal

abbrev pub invariant-loop : goal.invariant-loop
invariant-loop g l = (l.seat ≡ l.initial.seat) × (l.batch ≡ l.initial.batch)
