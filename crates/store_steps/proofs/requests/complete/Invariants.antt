use Rattle.std.proofs.Common.{◌≡◌}
use Rattle.ownlock.specs.Seats.{IsSession}
use Rattle.store_steps.specs.Standing.{SessionKnown}
use Rattle.store_steps.specs.Updating.{Rounds}
use Rattle.store_steps.specs.AtOnce.{Resumed}
use Rattle.store_steps.proofs.requests.complete.Given as goal

abbrev pub invariant-loop : goal.invariant-loop
invariant-loop g l = (l.seat.shelf ≡ l.initial.seat.shelf) × ((k : SessionKnown) → IsSession l.initial.seat k → (m : SessionKnown) × IsSession l.seat m × Resumed k m × Rounds k m)
