use Rattle.std.proofs.Common.{◌≡◌, ◌++◌, drop}
use Rattle.std.specs.String.{string_bytes}
use Rattle.explain.specs.Slots.{slots_told}
use Rattle.explain.proofs.programs.slots.put_slots.Given as goal

abbrev pub invariant-loop-slot : goal.invariant-loop-slot
invariant-loop-slot l = string_bytes l.out ++ slots_told (drop l.slot-index l.slots) ≡ string_bytes l.initial.out ++ slots_told l.slots
