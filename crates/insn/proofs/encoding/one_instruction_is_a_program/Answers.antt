use Rattle.std.proofs.Common.{◌≡◌, ◌<◌, ◌≤◌, [], ◌∷◌, refl, sym, ◌∙◌, arith}
use Rattle.std.specs.List.{flat_map}
use Rattle.insn.specs.declared.instruction.Form.{Form}
use Rattle.insn.specs.declared.instruction.Form.TheVariants.{Imm64, MapRef}
use Rattle.insn.specs.Encoding.{slots, slot_bytes, program_bytes}
use Rattle.insn.specs.Layout.{size}
use Rattle.insn.proofs.encoding.one_instruction_is_a_program.Goals as goal

joined : (i : Form) → program_bytes (i ∷ []) ≡ flat_map slot_bytes (slots i)
joined (Imm64 dst value) = refl
joined (MapRef dst index) = refl
joined i = refl

takes_slots : (i : Form) → (0 < size (i ∷ [])) × (size (i ∷ []) ≤ 4096)
takes_slots (Imm64 dst value) = (omega arith, omega arith)
takes_slots (MapRef dst index) = (omega arith, omega arith)
takes_slots i = (omega arith, omega arith)

pub returns : goal.returns
returns c = λ i bytes instruction. (
  λ e. record { each = (instruction, tt); spelled = e.1 ∙ sym (joined i); some = (takes_slots i).0; few = (takes_slots i).1 },
  λ d. (instruction, d.spelled ∙ joined i),
)
