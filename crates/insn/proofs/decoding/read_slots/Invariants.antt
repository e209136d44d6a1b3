use Rattle.std.proofs.Common.{◌≡◌, ◌*◌, ◌-◌, ◌≤◌, false, length, drop}
use Rattle.std.specs.Prelude.{vec_capacity}
use Rattle.insn.specs.Refusal.{slots_in}
use Rattle.insn.specs.Decoded.{program_from}
use Rattle.insn.proofs.Programs.{with_all}
use Rattle.insn.proofs.decoding.read_slots.Given as goal

-- what was read goes before what is left to read
abbrev pub invariant-loop-slot : goal.invariant-loop-slot
invariant-loop-slot l = record {
  within : 8 * l.slot ≤ length l.bytes;
  fits : length l.program.items ≤ l.slot;
  room : vec_capacity l.program ≡ vec_capacity l.fn.program;
  read : program_from 0 false (slots_in l.bytes) ≡ with_all l.program.items (program_from l.slot false (drop l.slot (slots_in l.bytes)));
}

abbrev pub decreases-loop-slot : goal.decreases-loop-slot
decreases-loop-slot l = length l.initial.bytes - 8 * l.slot
