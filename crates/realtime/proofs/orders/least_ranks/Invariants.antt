use Rattle.std.proofs.Common.{◌≡◌, ◌+◌, ◌≤◌, length}
use Rattle.realtime.specs.Judging.{AreLeast}
use Rattle.realtime.proofs.orders.least_ranks.Given as goal

abbrev pub invariant-loop-x : goal.invariant-loop-x
invariant-loop-x l = (l.x ≤ length l.begins) × (length l.least.items ≡ length l.begins + 1) × AreLeast l.calls l.x l.least.items

abbrev pub decreases-loop-x : goal.decreases-loop-x
decreases-loop-x l = l.x
