use Rattle.std.proofs.Common.{◌≡◌, ◌≤◌, ◌+◌, ◌++◌, length, vec_capacity}
use Rattle.ownlock.specs.Words.{slot_of}
use Rattle.ownlock.specs.Spreading.{spread}
use Rattle.std.specs.Vec.Iter.{into_iter_items, into_iter_len}
use Rattle.ownlock.proofs.spreading.spread.Given as goal

abbrev pub invariant-loop-value : goal.invariant-loop-value
invariant-loop-value g l =
    (l.slots.items ++ spread (into_iter_items l.rest) ≡ spread l.fn.values.items)
    × (length l.slots.items + slot_of (length (into_iter_items l.rest)) ≤ vec_capacity l.slots)

abbrev pub decreases-loop-value : goal.decreases-loop-value
decreases-loop-value g l = into_iter_len l.rest
