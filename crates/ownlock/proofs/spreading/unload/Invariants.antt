use Rattle.std.proofs.Common.{◌≡◌, length, vec_capacity}
use Rattle.std.specs.Mem.Slots.{slots_items, slots_filled, slots_len}
use Rattle.std.specs.Mem.Slots.Ownership.{Filled}
use Rattle.ownlock.specs.Words.{slot_of}
use Rattle.ownlock.specs.Spreading.{IsEmptied, StandsIn}
use Rattle.ownlock.proofs.spreading.unload.Given as goal

abbrev pub invariant-loop-place : goal.invariant-loop-place
invariant-loop-place g l =
    (slots_items l.closed.slots ≡ slots_items l.fn.closed.slots) × (slots_len l.closed.slots ≡ slots_len l.fn.closed.slots)
    × Filled (slots_filled l.closed.slots) (slot_of l.place) (slots_len l.closed.slots) × IsEmptied (slots_filled l.closed.slots) (slot_of l.place)
    × (length l.room.items ≡ l.place) × StandsIn l.room.items (slots_items l.fn.closed.slots) × (vec_capacity l.room ≡ vec_capacity l.fn.room)
