use Rattle.std.proofs.Common.{◌≡◌, ◌≤◌, ◌+◌, ◌++◌, List, Option, length, vec_capacity}
use Rattle.ownlock.specs.Spreading.{spread}
use Rattle.std.specs.Vec.Iter.{into_iter_items, into_iter_len}
use Rattle.ownlock.proofs.spreading.gather.Given as goal

abbrev pub invariant-loop-value : goal.invariant-loop-value
invariant-loop-value g l =
    (ys : List (Option g.row.V.Denot)) × (into_iter_items l.rest ≡ spread ys) × (l.fn.slots.items ≡ spread (l.room.items ++ ys)) × (length l.room.items + length ys ≤ vec_capacity l.room)

abbrev pub decreases-loop-value : goal.decreases-loop-value
decreases-loop-value g l = into_iter_len l.rest
