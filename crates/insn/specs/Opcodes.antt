-- The opcodes of the table are those of instructions (RFC 9669, section 3).
use Rattle.std.specs.Prelude.{◌≡◌, ◌↔◌, IsSome, ℕ, List, ◌∷◌}
use Rattle.opcodes.specs.Table.{uses_of}
use Rattle.insn.specs.declared.instruction.Fields.{Fields}
use Rattle.insn.specs.declared.instruction.Form.{Form}
use Rattle.insn.specs.Encoding.{slots, HasEncoding}

-- an instruction has this opcode in its first slot
pub record IsOpcodeOf (opcode : ℕ) (i : Form) : Type 0 where
  pub encoded : HasEncoding i
  pub first : Fields
  pub rest : List Fields
  pub spelled : slots i ≡ first ∷ rest
  pub opcode_is : first.opcode ≡ opcode

-- an opcode stands in the table exactly where some instruction has it in its first slot
abbrev pub OpcodesAreThoseOfInstructions : Type 0
OpcodesAreThoseOfInstructions = (opcode : ℕ) → IsSome (uses_of opcode) ↔ ((i : Form) × IsOpcodeOf opcode i)
