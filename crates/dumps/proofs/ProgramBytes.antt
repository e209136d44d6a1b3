-- The bytes of a program are bytes.
use Rattle.std.proofs.Common.{ℕ, ◌<◌, ◌≤◌, Bool, true, false, List, [], ◌∷◌, arith}
use Rattle.std.specs.List.{AllByRecursion, flat_map}
use Rattle.insn.specs.declared.instruction.Source.TheVariants.{Reg, Imm}
use Rattle.insn.specs.declared.instruction.Operation.{Operation}
use Rattle.insn.specs.declared.instruction.Operation.TheVariants.{Add, Sub, Mul, Div, Or, And, Lsh, Rsh, Mod, Xor, Mov, Arsh, Sdiv, Smod}
use Rattle.insn.specs.declared.instruction.Order.TheVariants.{Little, Big, Always}
use Rattle.insn.specs.declared.instruction.Size.{Size}
use Rattle.insn.specs.declared.instruction.Size.TheVariants.{Word, Half, Byte, Double}
use Rattle.insn.specs.declared.instruction.Condition.{Condition}
use Rattle.insn.specs.declared.instruction.Condition.TheVariants.{Jeq, Jgt, Jge, Jset, Jne, Jsgt, Jsge, Jlt, Jle, Jslt, Jsle}
use Rattle.insn.specs.declared.instruction.Fields.{Fields}
use Rattle.insn.specs.declared.instruction.Form.{Form}
use Rattle.insn.specs.declared.instruction.Form.TheVariants.{Alu, Neg, MovSx, Swap, Load, Store, Imm64, MapRef, Ja, Branch, Call, Exit}
use Rattle.insn.specs.Encoding.{HasEncoding, alu_class, jump_class, operation_code, condition_code, size_code, load_mode, slots, slot_bytes, program_slots, program_bytes}
use Rattle.insn.proofs.Export.{FieldsFit, program_fits}
use Rattle.dumps.proofs.Placing.{all_joined}

class_few : (w64 : Bool) → alu_class w64 ≤ 7
class_few false = omega arith
class_few true = omega arith

jump_few : (w64 : Bool) → jump_class w64 ≤ 7
jump_few false = omega arith
jump_few true = omega arith

code_few : (op : Operation) → operation_code op ≤ 13
code_few Add = omega arith
code_few Sub = omega arith
code_few Mul = omega arith
code_few Div = omega arith
code_few Or = omega arith
code_few And = omega arith
code_few Lsh = omega arith
code_few Rsh = omega arith
code_few Mod = omega arith
code_few Xor = omega arith
code_few Mov = omega arith
code_few Arsh = omega arith
code_few Sdiv = omega arith
code_few Smod = omega arith

condition_few : (cond : Condition) → condition_code cond ≤ 13
condition_few Jeq = omega arith
condition_few Jgt = omega arith
condition_few Jge = omega arith
condition_few Jset = omega arith
condition_few Jne = omega arith
condition_few Jsgt = omega arith
condition_few Jsge = omega arith
condition_few Jlt = omega arith
condition_few Jle = omega arith
condition_few Jslt = omega arith
condition_few Jsle = omega arith

size_few : (size : Size) → size_code size ≤ 24
size_few Word = omega arith
size_few Half = omega arith
size_few Byte = omega arith
size_few Double = omega arith

mode_few : (signed : Bool) → load_mode signed ≤ 129
mode_few false = omega arith
mode_few true = omega arith

abbrev HasOpcode : Fields → Type 0
HasOpcode f = f.opcode < 256

opcodes : (i : Form) → AllByRecursion HasOpcode (slots i)
opcodes (Alu w64 op dst (Reg src)) = (omega (arith, class_few w64, code_few op), tt)
opcodes (Alu w64 op dst (Imm imm)) = (omega (arith, class_few w64, code_few op), tt)
opcodes (Neg w64 dst) = (omega (arith, class_few w64), tt)
opcodes (MovSx w64 bits dst src) = (omega (arith, class_few w64), tt)
opcodes (Swap Little bits dst) = (omega arith, tt)
opcodes (Swap Big bits dst) = (omega arith, tt)
opcodes (Swap Always bits dst) = (omega arith, tt)
opcodes (Load size signed dst src off) = (omega (arith, size_few size, mode_few signed), tt)
opcodes (Store size dst off (Reg src)) = (omega (arith, size_few size), tt)
opcodes (Store size dst off (Imm imm)) = (omega (arith, size_few size), tt)
opcodes (Imm64 dst value) = (omega arith, (omega arith, tt))
opcodes (MapRef dst index) = (omega arith, (omega arith, tt))
opcodes (Ja false by) = (omega arith, tt)
opcodes (Ja true by) = (omega arith, tt)
opcodes (Branch w64 cond dst (Reg src) off) = (omega (arith, jump_few w64, condition_few cond), tt)
opcodes (Branch w64 cond dst (Imm imm) off) = (omega (arith, jump_few w64, condition_few cond), tt)
opcodes (Call id) = (omega arith, tt)
opcodes Exit = (omega arith, tt)

all_opcodes : (p : List Form) → AllByRecursion HasOpcode (program_slots p)
all_opcodes [] = tt
all_opcodes (i ∷ p) = all_joined HasOpcode (slots i) (program_slots p) (opcodes i) (all_opcodes p)

abbrev pub IsByte : ℕ → Type 0
IsByte n = n < 256

slot_is : (f : Fields) → FieldsFit f → HasOpcode f → AllByRecursion IsByte (slot_bytes f)
slot_is f fit opcode =
    let dst = fit.dst in
    let src = fit.src in
    (opcode, (omega (arith, dst, src), (omega arith, (omega arith, (omega arith, (omega arith, (omega arith, (omega arith, tt))))))))

slots_are : (fs : List Fields) → AllByRecursion FieldsFit fs → AllByRecursion HasOpcode fs → AllByRecursion IsByte (flat_map slot_bytes fs)
slots_are [] fit opcode = tt
slots_are (f ∷ fs) fit opcode = all_joined IsByte (slot_bytes f) (flat_map slot_bytes fs) (slot_is f fit.0 opcode.0) (slots_are fs fit.1 opcode.1)

pub program_are_bytes : (p : List Form) → AllByRecursion HasEncoding p → AllByRecursion IsByte (program_bytes p)
program_are_bytes p each = slots_are (program_slots p) (program_fits p each) (all_opcodes p)
