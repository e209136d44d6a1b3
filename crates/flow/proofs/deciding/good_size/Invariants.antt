use Rattle.std.proofs.Common.{◌≡◌, ◌≤◌, take}
use Rattle.insn.specs.Layout.{size}
use Rattle.flow.proofs.deciding.good_size.Given as goal

abbrev pub invariant-loop-insn : goal.invariant-loop-insn
invariant-loop-insn l = record { counted : l.slots ≡ size (take l.insn-index l.program); few : l.slots ≤ 4096 }
