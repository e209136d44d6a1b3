use Rattle.std.proofs.Common.{◌≡◌, take}
use Rattle.insn.specs.Encoding.{program_bytes}
use Rattle.insn.proofs.encoding.encode.Given as goal

-- the bytes of the instructions so far
abbrev pub invariant-loop-insn : goal.invariant-loop-insn
invariant-loop-insn l = l.bytes.items ≡ program_bytes (take l.insn-index l.program)
