use Rattle.std.proofs.Common.{◌≡◌, take}
use Rattle.std.specs.String.{string_bytes}
use Rattle.asm.specs.Text.{text_of}
use Rattle.asm.proofs.disassembling.disassemble.Given as goal

abbrev pub invariant-loop-insn : goal.invariant-loop-insn
invariant-loop-insn l = string_bytes l.out ≡ text_of (take l.insn-index l.program)
