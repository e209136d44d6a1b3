use Rattle.std.proofs.Common.{◌≡◌, ◌<◌, ◌≤◌, ◌-◌, ◌++◌, List, Option, replicate, None}
use Rattle.std.specs.Vec.Iter.{into_iter_items}
use Rattle.ownlock.proofs.spreading.pass_gap.Given as goal

abbrev pub invariant-loop : goal.invariant-loop
invariant-loop g l =
    (xs : List (Option g.row.V.Denot)) × (into_iter_items l.rest ≡ replicate (8 - l.counter) None ++ xs)
    × (into_iter_items l.fn.rest ≡ replicate (l.counter - 1) None ++ into_iter_items l.rest) × (0 < l.counter) × (l.counter ≤ 8)
