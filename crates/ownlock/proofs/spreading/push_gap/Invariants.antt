use Rattle.std.proofs.Common.{◌≡◌, ◌<◌, ◌≤◌, ◌+◌, ◌-◌, ◌++◌, length, replicate, vec_capacity, None}
use Rattle.ownlock.proofs.spreading.push_gap.Given as goal

abbrev pub invariant-loop : goal.invariant-loop
invariant-loop g l =
    (l.slots.items ≡ l.fn.slots.items ++ replicate (l.counter - 1) None) × (length l.slots.items + 1 ≡ length l.fn.slots.items + l.counter)
    × (vec_capacity l.slots ≡ vec_capacity l.fn.slots) × (0 < l.counter) × (l.counter ≤ 8)
