use Rattle.std.specs.Prelude.{◌≤◌, ◌-◌, length}
use Rattle.host_calls.proofs.opening.empty_places.Given as goal

abbrev pub decreases-loop-places : goal.decreases-loop-places
decreases-loop-places l = l.initial.count - length l.places.items

abbrev pub invariant-loop-places : goal.invariant-loop-places
invariant-loop-places l = length l.places.items ≤ l.initial.count
