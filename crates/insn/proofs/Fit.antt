-- The fields of an instruction's slots fit a slot.
use Rattle.std.proofs.Common.{◌≡◌, ℕ, ◌/◌, ◌%◌, ◌^◌, ◌≤◌, Bool, true, false, List, [], ◌∷◌, ◌++◌, inl, inr, arith}
use Rattle.std.specs.Prelude.{ℤ, pos, FitsSigned, ◌⊎◌}
use Rattle.std.specs.Int.{w16, w32}
use Rattle.std.specs.List.{AllByRecursion}
use Rattle.insn.specs.declared.instruction.Form.{Form}
use Rattle.insn.specs.declared.instruction.Form.TheVariants.{Alu, Neg, MovSx, Swap, Load, Store, Imm64, MapRef, Ja, Branch, Call, Exit}
use Rattle.insn.specs.declared.instruction.Operation.{Operation}
use Rattle.insn.specs.declared.instruction.Operation.TheVariants.{Sdiv, Smod}
use Rattle.insn.specs.declared.instruction.Source.TheVariants.{Reg, Imm}
use Rattle.insn.specs.Encoding.{slots, slot, program_slots, HasEncoding, operation_offset, MayExtend, low_imm}
use Rattle.insn.proofs.Slots.{FieldsFit, word_fits}

all_append : {A : Type 0} (P : A → Type 0) (xs ys : List A) → AllByRecursion P xs → AllByRecursion P ys → AllByRecursion P (xs ++ ys)
all_append P [] ys h k = k
all_append P (x ∷ xs) ys h k = (h.0, all_append P xs ys h.1 k)

zero_half : FitsSigned w16 (pos 0)
zero_half = record { sfits = omega arith }

zero_word : FitsSigned w32 (pos 0)
zero_word = record { sfits = omega arith }

offset_fits : (op : Operation) → FitsSigned w16 (operation_offset op)
offset_fits Sdiv = record { sfits = omega arith }
offset_fits Smod = record { sfits = omega arith }
offset_fits op = record { sfits = omega arith }

bits_fit : (w64 : Bool) (bits : ℕ) → MayExtend w64 bits → FitsSigned w16 (pos bits)
bits_fit false bits (inl e) = record { sfits = omega arith }
bits_fit false bits (inr e) = record { sfits = omega arith }
bits_fit true bits (inl (inl e)) = record { sfits = omega arith }
bits_fit true bits (inl (inr e)) = record { sfits = omega arith }
bits_fit true bits (inr e) = record { sfits = omega arith }

swap_fits : (bits : ℕ) → ((bits ≡ 16) ⊎ (bits ≡ 32)) ⊎ (bits ≡ 64) → FitsSigned w32 (pos bits)
swap_fits bits (inl (inl e)) = record { sfits = omega arith }
swap_fits bits (inl (inr e)) = record { sfits = omega arith }
swap_fits bits (inr e) = record { sfits = omega arith }

low_fits : (n : ℕ) → FitsSigned w32 (low_imm n)
low_fits n = word_fits (n % 2 ^ 32) (omega arith)

-- a slot with these registers
fit : (opcode dst src : ℕ) (offset imm : ℤ) → dst ≤ 10 → src ≤ 10 → FitsSigned w16 offset → FitsSigned w32 imm → FieldsFit (slot opcode dst src offset imm)
fit opcode dst src offset imm d s o i = record { dst = omega arith; src = omega arith; offset = o; imm = i }

no_register : 0 ≤ 10
no_register = omega arith

map_source : 5 ≤ 10
map_source = omega arith

fields_fit : (i : Form) → HasEncoding i → AllByRecursion FieldsFit (slots i)
fields_fit (Alu w64 op dst (Imm imm)) h = (fit _ dst 0 _ imm h.0 no_register (offset_fits op) h.1, tt)
fields_fit (Alu w64 op dst (Reg src)) h = (fit _ dst src _ _ h.0 h.1 (offset_fits op) zero_word, tt)
fields_fit (Neg w64 dst) h = (fit _ dst 0 _ _ h no_register zero_half zero_word, tt)
fields_fit (MovSx w64 bits dst src) h = (fit _ dst src _ _ h.0 h.1 (bits_fit w64 bits h.2) zero_word, tt)
fields_fit (Swap order bits dst) h = (fit _ dst 0 _ _ h.0 no_register zero_half (swap_fits bits h.1), tt)
fields_fit (Load size signed dst src off) h = (fit _ dst src off _ h.0 h.1 h.2 zero_word, tt)
fields_fit (Store size dst off (Imm imm)) h = (fit _ dst 0 off imm h.0 no_register h.2 h.1, tt)
fields_fit (Store size dst off (Reg src)) h = (fit _ dst src off _ h.0 h.1 h.2 zero_word, tt)
fields_fit (Imm64 dst value) h = (fit _ dst 0 _ _ h.0 no_register zero_half (low_fits value), (fit _ 0 0 _ _ no_register no_register zero_half (low_fits (value / 2 ^ 32)), tt))
fields_fit (MapRef dst index) h = (fit _ dst 5 _ index h.0 map_source zero_half h.1, (fit _ 0 0 _ _ no_register no_register zero_half zero_word, tt))
fields_fit (Ja false by) h = (fit _ 0 0 by _ no_register no_register h zero_word, tt)
fields_fit (Ja true by) h = (fit _ 0 0 _ by no_register no_register zero_half h, tt)
fields_fit (Branch w64 cond dst (Imm imm) off) h = (fit _ dst 0 off imm h.0 no_register h.2 h.1, tt)
fields_fit (Branch w64 cond dst (Reg src) off) h = (fit _ dst src off _ h.0 h.1 h.2 zero_word, tt)
fields_fit (Call id) h = (fit _ 0 0 _ id no_register no_register zero_half h, tt)
fields_fit Exit h = (fit _ 0 0 _ _ no_register no_register zero_half zero_word, tt)

pub program_fits : (p : List Form) → AllByRecursion HasEncoding p → AllByRecursion FieldsFit (program_slots p)
program_fits [] h = tt
program_fits (x ∷ p) h = all_append FieldsFit (slots x) (program_slots p) (fields_fit x h.0) (program_fits p h.1)
