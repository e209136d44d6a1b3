use Rattle.std.proofs.Common.{◌≡◌}
use Rattle.store_steps.specs.Knowing.{Learns}
use Rattle.store_steps.specs.Trying.{IsStill}
use Rattle.store_steps.proofs.measuring.measure.Given as goal

abbrev pub invariant-loop : goal.invariant-loop
invariant-loop g l = (l.seat.shelf ≡ l.initial.seat.shelf) × Learns l.initial.seat l.seat IsStill
