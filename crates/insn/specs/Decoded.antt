-- What bytes decode to, as a function: a form is read by its class, its source and its code. Two laws, on
-- `decoded_is_spelled` and `decoded_is_refused`, say that it is the relations `Decodes` and `Refuses`.
use Rattle.std.specs.Prelude.{◌≡◌, ◌↔◌, ℕ, ◌+◌, ◌*◌, ◌/◌, ◌%◌, ◌^◌, Bool, true, false, not, ◌&&◌, ◌==◌, ℤ, pos, List, [], ◌∷◌, length, Option, Some, None, find, option_map, option_and_then, Result, Ok, Err, if◌then◌else◌}
use Rattle.std.specs.Int.{w32, cast_unsigned}
use Rattle.std.specs.Ordering.{int_eq}
use Rattle.insn.specs.declared.instruction.Source.{Source}
use Rattle.insn.specs.declared.instruction.Source.TheVariants.{Reg, Imm}
use Rattle.insn.specs.declared.instruction.Operation.{Operation}
use Rattle.insn.specs.declared.instruction.Operation.TheVariants.{Add, Sub, Mul, Div, Or, And, Lsh, Rsh, Mod, Xor, Mov, Arsh, Sdiv, Smod}
use Rattle.insn.specs.declared.instruction.Order.{Order}
use Rattle.insn.specs.declared.instruction.Order.TheVariants.{Little, Big, Always}
use Rattle.insn.specs.declared.instruction.Size.{Size}
use Rattle.insn.specs.declared.instruction.Size.TheVariants.{Word, Half, Byte, Double}
use Rattle.insn.specs.declared.instruction.Condition.{Condition}
use Rattle.insn.specs.declared.instruction.Condition.TheVariants.{Jeq, Jgt, Jge, Jset, Jne, Jsgt, Jsge, Jlt, Jle, Jslt, Jsle}
use Rattle.insn.specs.declared.instruction.Fields.{Fields}
use Rattle.insn.specs.declared.instruction.Form.{Form}
use Rattle.insn.specs.declared.instruction.Form.TheVariants.{Alu, Neg, MovSx, Swap, Load, Store, Imm64, MapRef, Ja, Branch, Call, Exit}
use Rattle.insn.specs.declared.decoding.DecodeFault.{DecodeFault}
use Rattle.insn.specs.declared.decoding.DecodeFault.TheVariants.{UnknownOpcode}
use Rattle.insn.specs.declared.decoding.DecodeRefusal.{DecodeRefusal}
use Rattle.insn.specs.declared.decoding.DecodeError.{DecodeError}
use Rattle.insn.specs.declared.decoding.DecodeError.TheVariants.{NoMemory, Refused}
use Rattle.insn.specs.Encoding.{operation_code, operation_offset, condition_code, swap_opcode, size_code}
use Rattle.insn.specs.Refusal.{first_fault, length_fault, is_wide, slots_in, AreBytes, Decodes, Refuses}

-- ---- the parts of a slot

-- RFC 9669, section 4: the second operand, by the source bit of the opcode
abbrev pub operand : Fields → Source
operand f = if f.opcode / 8 % 2 == 1 then Reg f.src else Imm f.imm

-- RFC 9669, section 4.1: the operation with this code and this offset
abbrev pub operation_of : ℕ → ℤ → Option Operation
operation_of code offset =
    find (λ op. operation_code op == code && int_eq (operation_offset op) offset) (Add ∷ Sub ∷ Mul ∷ Div ∷ Or ∷ And ∷ Lsh ∷ Rsh ∷ Mod ∷ Xor ∷ Mov ∷ Arsh ∷ Sdiv ∷ Smod ∷ [])

-- RFC 9669, section 4.3: the condition with this code
abbrev pub condition_of : ℕ → Option Condition
condition_of code =
    find (λ cond. condition_code cond == code) (Jeq ∷ Jgt ∷ Jge ∷ Jset ∷ Jne ∷ Jsgt ∷ Jsge ∷ Jlt ∷ Jle ∷ Jslt ∷ Jsle ∷ [])

-- RFC 9669, section 4.2: the byte order with this opcode
abbrev pub order_of : ℕ → Option Order
order_of opcode = find (λ order. swap_opcode order == opcode) (Little ∷ Big ∷ Always ∷ [])

-- RFC 9669, section 5: the size in bits 3 and 4
abbrev pub size_of : ℕ → Option Size
size_of bits = find (λ size. size_code size == 8 * bits) (Word ∷ Half ∷ Byte ∷ Double ∷ [])

-- RFC 9669, sections 4.1 and 4.2: a number of bits that a swap or an extension may have
abbrev pub bits_of : ℤ → Option ℕ
bits_of z = find (λ bits. int_eq (pos bits) z) (8 ∷ 16 ∷ 32 ∷ 64 ∷ [])

-- ---- the instructions of one slot, by the code

-- RFC 9669, section 4.2: a byte swap
abbrev pub swap_form : Fields → Option Form
swap_form f = option_and_then (λ order. option_map (λ bits. Swap order bits f.dst) (bits_of f.imm)) (order_of f.opcode)

-- RFC 9669, section 4.1: an arithmetic operation with this code; MOV from a register with an offset extends a sign
abbrev pub operation_form : Bool → ℕ → Fields → Option Form
operation_form w64 code f =
    if code == 11 && f.opcode / 8 % 2 == 1 && not (int_eq f.offset (pos 0))
    then option_map (λ bits. MovSx w64 bits f.dst f.src) (bits_of f.offset)
    else option_map (λ op. Alu w64 op f.dst (operand f)) (operation_of code f.offset)

-- RFC 9669, sections 4.1 and 4.2: classes ALU and ALU64, where code 8 is NEG and 13 a swap
abbrev pub arithmetic_form : Bool → ℕ → Fields → Option Form
arithmetic_form w64 code f =
    if code == 8 then Some (Neg w64 f.dst) else (if code == 13 then swap_form f else operation_form w64 code f)

-- RFC 9669, section 4.3: classes JMP and JMP32, where code 0 is JA, 8 is CALL and 9 is EXIT
abbrev pub jump_form : Bool → ℕ → Fields → Option Form
jump_form w64 code f =
    if code == 0 then Some (if w64 then Ja false f.offset else Ja true f.imm)
    else (if code == 8 then Some (Call f.imm)
    else (if code == 9 then Some Exit
    else option_map (λ cond. Branch w64 cond f.dst (operand f) f.offset) (condition_of code)))

-- RFC 9669, sections 5.1 and 5.2: class LDX, in mode MEM or in mode MEMSX, which is 4
abbrev pub load_form : Fields → Option Form
load_form f = option_map (λ size. Load size (f.opcode / 32 == 4) f.dst f.src f.offset) (size_of (f.opcode / 8 % 4))

-- RFC 9669, section 5.1: class ST or STX
abbrev pub store_form : Source → Fields → Option Form
store_form src f = option_map (λ size. Store size f.dst f.offset src) (size_of (f.opcode / 8 % 4))

-- RFC 9669, section 3.3: LDX is class 1, ST 2, STX 3, ALU 4, JMP 5, JMP32 6, ALU64 7
abbrev pub class_form : ℕ → Fields → Option Form
class_form class f =
    if class == 1 then load_form f
    else (if class == 2 then store_form (Imm f.imm) f
    else (if class == 3 then store_form (Reg f.src) f
    else (if class == 4 then arithmetic_form false (f.opcode / 16) f
    else (if class == 5 then jump_form true (f.opcode / 16) f
    else (if class == 6 then jump_form false (f.opcode / 16) f
    else (if class == 7 then arithmetic_form true (f.opcode / 16) f
    else None))))))

-- ---- whole instructions

-- the instruction of one slot that these fields are, where they break no rule
abbrev pub narrow_form : Fields → Option Form
narrow_form f = class_form (f.opcode % 8) f

-- RFC 9669, section 5.4: the instruction of two slots: a reference to a map where src is 5, and else a 64-bit immediate
abbrev pub wide_form : Fields → Fields → Form
wide_form f g =
    if f.src == 5 then MapRef f.dst f.imm else Imm64 f.dst (cast_unsigned w32 g.imm * 2 ^ 32 + cast_unsigned w32 f.imm)

-- the instruction that slots begin with, where they break no rule
abbrev pub form_of : List Fields → Option Form
form_of (f ∷ g ∷ rest) = if is_wide f then Some (wide_form f g) else narrow_form f
form_of (f ∷ []) = narrow_form f
form_of [] = None

-- the first fault, or else this form; where there is none of both the opcode is unknown
abbrev pub unless_fault : Option DecodeFault → Option Form → Result Form DecodeFault
unless_fault (Some why) i = Err why
unless_fault None (Some i) = Ok i
unless_fault None None = Err UnknownOpcode

-- the instruction that slots begin with, or the first reason why there is none
abbrev pub front : List Fields → Result Form DecodeFault
front slots = unless_fault (first_fault slots) (form_of slots)

-- an instruction, and the program behind it
abbrev pub with_first : Form → Result (List Form) DecodeRefusal → Result (List Form) DecodeRefusal
with_first i (Ok p) = Ok (i ∷ p)
with_first i (Err e) = Err e

-- what stands at this slot goes first: a refusal there, or an instruction before those behind it
abbrev pub in_order : ℕ → Result Form DecodeFault → Result (List Form) DecodeRefusal → Result (List Form) DecodeRefusal
in_order at (Err why) behind = Err (record { slot = at; why = why })
in_order at (Ok i) behind = with_first i behind

-- the program in the slots from this one on, whose first may be the second half of a wide instruction, or the first refusal
unfoldable pub program_from : ℕ → Bool → List Fields → Result (List Form) DecodeRefusal
program_from at is_half [] = Ok []
program_from at true (f ∷ rest) = program_from (at + 1) false rest
program_from at false (f ∷ rest) = in_order at (front (f ∷ rest)) (program_from (at + 1) (is_wide f) rest)

-- the program in the slots of the bytes, or the first refusal there
abbrev pub program_in : List ℕ → Result (List Form) DecodeRefusal
program_in bytes = program_from 0 false (slots_in bytes)

abbrev pub unless_refused : Option DecodeFault → Result (List Form) DecodeRefusal → Result (List Form) DecodeRefusal
unless_refused (Some why) read = Err (record { slot = 0; why = why })
unless_refused None read = read

-- the program that the bytes spell, or the first refusal
unfoldable pub decoded : List ℕ → Result (List Form) DecodeRefusal
decoded bytes = unless_refused (length_fault (length bytes)) (program_in bytes)

-- the error is the refusal that this reading gives, or memory ran out
abbrev pub DecodeFails : DecodeError → Result (List Form) DecodeRefusal → Type 0
DecodeFails NoMemory read = Unit {0}
DecodeFails (Refused e) read = read ≡ Err e

-- ---- laws

-- what bytes read as a program is what they spell
abbrev pub ReadsWhatIsSpelled : Type 0
ReadsWhatIsSpelled = (bytes : List ℕ) → AreBytes bytes → (p : List Form) → (decoded bytes ≡ Ok p) ↔ Decodes bytes p

-- what bytes read as a refusal is their first one
abbrev pub ReadsWhatIsRefused : Type 0
ReadsWhatIsRefused = (bytes : List ℕ) → AreBytes bytes → (e : DecodeRefusal) → (decoded bytes ≡ Err e) ↔ Refuses bytes e
