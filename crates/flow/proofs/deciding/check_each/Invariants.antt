use Rattle.std.proofs.Common.{◌≡◌, ℕ, None, take}
use Rattle.insn.specs.Layout.{size}
use Rattle.flow.specs.Faults.{reached_slots, is_reached_from, lowest_fault}
use Rattle.flow.specs.SlotSets.{has_slot}
use Rattle.flow.proofs.deciding.check_each.Given as goal

abbrev pub invariant-loop-insn : goal.invariant-loop-insn
invariant-loop-insn l = record {
  counted : l.slot ≡ size (take l.insn-index l.program);
  reached : (t : ℕ) → has_slot l.reached t ≡ is_reached_from l.program (reached_slots l.program l.slot) t;
  unbroken : lowest_fault l.program l.slot ≡ None;
}
