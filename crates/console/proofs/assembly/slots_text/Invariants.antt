use Rattle.std.proofs.Common.{◌≡◌, ◌++◌, ◌+◌, drop}
use Rattle.insn.specs.Layout.{size}
use Rattle.console.specs.AssemblyAnswer.{slots_text}
use Rattle.console.proofs.assembly.slots_text.Given as goal

abbrev pub invariant-loop-insn : goal.invariant-loop-insn
invariant-loop-insn l = record {
  text : l.out.items ++ slots_text l.slot (drop l.insn-index l.program) ≡ slots_text 0 l.program;
  slots : l.slot + size (drop l.insn-index l.program) ≡ size l.program;
}
