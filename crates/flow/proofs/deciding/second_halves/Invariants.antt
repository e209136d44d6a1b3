use Rattle.std.proofs.Common.{◌≡◌, ℕ, take}
use Rattle.insn.specs.Layout.{size}
use Rattle.flow.specs.Faults.{is_second_half}
use Rattle.flow.specs.SlotSets.{has_slot}
use Rattle.flow.proofs.deciding.second_halves.Given as goal

abbrev pub invariant-loop-insn : goal.invariant-loop-insn
invariant-loop-insn l = record {
  counted : l.slot ≡ size (take l.insn-index l.program);
  halves : (t : ℕ) → has_slot l.halves t ≡ is_second_half (take l.insn-index l.program) t;
}
