use Rattle.std.proofs.Common.{◌≡◌, take}
use Rattle.std.specs.List.{AllByRecursion}
use Rattle.insn.specs.Encoding.{HasEncoding}
use Rattle.insn.specs.Layout.{size}
use Rattle.verifier.proofs.verification.count_slots.Given as goal

abbrev pub invariant-loop-insn : goal.invariant-loop-insn
invariant-loop-insn l = (l.slots ≡ size (take l.insn-index l.program)) × AllByRecursion HasEncoding (take l.insn-index l.program)
