-- What a set of slots has: a bit for each slot, in words of 64.
use Rattle.std.specs.Prelude.{ℕ, ◌/◌, ◌%◌, Bool, nat_eq, slice_index}
use Rattle.std.specs.Int.{bit_at}
use Rattle.flow.specs.declared.slot_set.SlotSet.{SlotSet}

-- the bit of slot s is set
unfoldable pub has_slot : SlotSet → ℕ → Bool
has_slot set s = nat_eq (bit_at (slice_index set.words (s / 64)) (s % 64)) 1
