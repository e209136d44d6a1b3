use Rattle.std.proofs.Common.{◌≡◌, ◌<◌, ◌≤◌, ◌+◌}
use Rattle.std.specs.Mem.Slots.{slots_items, slots_filled, slots_len}
use Rattle.std.specs.Mem.Slots.Ownership.{Filled}
use Rattle.ownlock.specs.Spreading.{IsEmptied}
use Rattle.ownlock.proofs.spreading.skip_gap.Given as goal

abbrev pub invariant-loop-gap : goal.invariant-loop-gap
invariant-loop-gap g l =
    (slots_items l.closed.slots ≡ slots_items l.fn.closed.slots) × (slots_len l.closed.slots ≡ slots_len l.fn.closed.slots)
    × Filled (slots_filled l.closed.slots) (l.slot + l.gap) (slots_len l.closed.slots) × IsEmptied (slots_filled l.closed.slots) (l.slot + l.gap)
    × (0 < l.gap) × (l.gap ≤ 8)
