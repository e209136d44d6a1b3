-- Each instruction's slots: how many there are, that they break no rule, and what they read as. The cases are those of
-- its operation, size or condition; each is a computation.
use Rattle.std.proofs.Common.{◌≡◌, ℕ, ◌+◌, ◌*◌, ◌/◌, ◌%◌, ◌^◌, ◌<◌, ◌≤◌, Bool, true, false, [], ◌∷◌, Some, None, refl, sym, ap, inl, inr, arith, subst}
use Rattle.std.specs.Prelude.{ℤ, pos, nat_lt, ◌⊎◌}
use Rattle.std.specs.Int.{w32, cast_unsigned}
use Rattle.std.proofs.lemmas.Bool.Decides.{nat_tests}
use Rattle.std.proofs.lemmas.Int.{of_z-to_z}
use Rattle.insn.specs.declared.instruction.Fields.{Fields}
use Rattle.insn.specs.declared.instruction.Form.{Form}
use Rattle.insn.specs.declared.instruction.Form.TheVariants.{Alu, Neg, MovSx, Swap, Load, Store, Imm64, MapRef, Ja, Branch, Call, Exit}
use Rattle.insn.specs.declared.instruction.Operation.{Operation}
use Rattle.insn.specs.declared.instruction.Operation.TheVariants.{Smod}
use Rattle.insn.specs.declared.instruction.Order.{Order}
use Rattle.insn.specs.declared.instruction.Order.TheVariants.{Always}
use Rattle.insn.specs.declared.instruction.Size.{Size}
use Rattle.insn.specs.declared.instruction.Size.TheVariants.{Double}
use Rattle.insn.specs.declared.instruction.Condition.{Condition}
use Rattle.insn.specs.declared.instruction.Condition.TheVariants.{Jsle}
use Rattle.insn.specs.declared.instruction.Source.TheVariants.{Reg, Imm}
use Rattle.insn.specs.Encoding.{slot, slots, HasEncoding, alu_class, jump_class, operation_code, operation_offset, condition_code, swap_opcode, size_code, load_mode, low_imm, MayLoad, MayExtend}
use Rattle.insn.specs.Layout.{slot_count}
use Rattle.insn.specs.Refusal.{is_wide, is_bad_half}
use Rattle.insn.specs.Decoded.{narrow_form, wide_form}
use Rattle.insn.proofs.Rows.{own_fault}

-- one slot, which reads as the instruction
pub record Narrow (i : Form) : Type 0 where
  pub fields : Fields
  pub spelled : slots i ≡ fields ∷ []
  pub count : slot_count i ≡ 1
  pub narrow : is_wide fields ≡ false
  pub form : narrow_form fields ≡ Some i
  pub clean : own_fault fields ≡ None

-- two slots, which read as the instruction
pub record Wide (i : Form) : Type 0 where
  pub first : Fields
  pub second : Fields
  pub spelled : slots i ≡ first ∷ second ∷ []
  pub count : slot_count i ≡ 2
  pub wide : is_wide first ≡ true
  pub form : wide_form first second ≡ i
  pub clean : own_fault first ≡ None
  pub good : is_bad_half first second ≡ false

not_below : (n : ℕ) → n ≤ 10 → nat_lt 10 n ≡ false
not_below n h = grind (arith, nat_tests)

-- a slot that breaks no rule, and reads as the form
record IsGood (f : Fields) (i : Form) : Type 0 where
  narrow : is_wide f ≡ false
  form : narrow_form f ≡ Some i
  clean : own_fault f ≡ None

by_slot : (i : Form) (f : Fields) → slots i ≡ f ∷ [] → slot_count i ≡ 1 → IsGood f i → Narrow i ⊎ Wide i
by_slot i f s c good =
    inl (record { fields = f; spelled = s; count = c; narrow = good.narrow; form = good.form; clean = good.clean })

-- ---- one slot, with these registers

alu_imm : (w64 : Bool) (op : Operation) (dst : ℕ) (imm : ℤ) → nat_lt 10 dst ≡ false → IsGood (slot (16 * operation_code op + alu_class w64) dst 0 (operation_offset op) imm) (Alu w64 op dst (Imm imm))
alu_imm false Smod dst imm h = record { narrow = refl; form = refl; clean = rw h refl }
alu_imm true Smod dst imm h = record { narrow = refl; form = refl; clean = rw h refl }
alu_imm w64 op dst imm h = record { narrow = refl; form = refl; clean = rw h refl }

alu_reg : (w64 : Bool) (op : Operation) (dst src : ℕ) → nat_lt 10 dst ≡ false → nat_lt 10 src ≡ false → IsGood (slot (16 * operation_code op + alu_class w64 + 8) dst src (operation_offset op) (pos 0)) (Alu w64 op dst (Reg src))
alu_reg false Smod dst src h k = record { narrow = refl; form = refl; clean = rw (h, k) refl }
alu_reg true Smod dst src h k = record { narrow = refl; form = refl; clean = rw (h, k) refl }
alu_reg w64 op dst src h k = record { narrow = refl; form = refl; clean = rw (h, k) refl }

neg : (w64 : Bool) (dst : ℕ) → nat_lt 10 dst ≡ false → IsGood (slot (0x80 + alu_class w64) dst 0 (pos 0) (pos 0)) (Neg w64 dst)
neg false dst h = record { narrow = refl; form = refl; clean = rw h refl }
neg true dst h = record { narrow = refl; form = refl; clean = rw h refl }

-- MOVSX with these bits, and a swap with these
abbrev Extends : Bool → ℕ → ℕ → ℕ → Type 0
Extends w64 dst src bits = IsGood (slot (0xb8 + alu_class w64) dst src (pos bits) (pos 0)) (MovSx w64 bits dst src)

extension : (w64 : Bool) (bits dst src : ℕ) → MayExtend w64 bits → nat_lt 10 dst ≡ false → nat_lt 10 src ≡ false → Extends w64 dst src bits
extension false bits dst src (inl e) h k = subst (Extends false dst src) (sym e) (record { narrow = refl; form = refl; clean = rw (h, k) refl })
extension false bits dst src (inr e) h k = subst (Extends false dst src) (sym e) (record { narrow = refl; form = refl; clean = rw (h, k) refl })
extension true bits dst src (inl (inl e)) h k = subst (Extends true dst src) (sym e) (record { narrow = refl; form = refl; clean = rw (h, k) refl })
extension true bits dst src (inl (inr e)) h k = subst (Extends true dst src) (sym e) (record { narrow = refl; form = refl; clean = rw (h, k) refl })
extension true bits dst src (inr e) h k = subst (Extends true dst src) (sym e) (record { narrow = refl; form = refl; clean = rw (h, k) refl })

abbrev Swaps : Order → ℕ → ℕ → Type 0
Swaps order dst bits = IsGood (slot (swap_opcode order) dst 0 (pos 0) (pos bits)) (Swap order bits dst)

swap_by : (order : Order) (dst : ℕ) → nat_lt 10 dst ≡ false → Swaps order dst 16 × Swaps order dst 32 × Swaps order dst 64
swap_by Always dst h = (record { narrow = refl; form = refl; clean = rw h refl }, record { narrow = refl; form = refl; clean = rw h refl }, record { narrow = refl; form = refl; clean = rw h refl })
swap_by order dst h = (record { narrow = refl; form = refl; clean = rw h refl }, record { narrow = refl; form = refl; clean = rw h refl }, record { narrow = refl; form = refl; clean = rw h refl })

swap : (order : Order) (bits dst : ℕ) → ((bits ≡ 16) ⊎ (bits ≡ 32)) ⊎ (bits ≡ 64) → nat_lt 10 dst ≡ false → Swaps order dst bits
swap order bits dst (inl (inl e)) h = subst (Swaps order dst) (sym e) (swap_by order dst h).0
swap order bits dst (inl (inr e)) h = subst (Swaps order dst) (sym e) (swap_by order dst h).1
swap order bits dst (inr e) h = subst (Swaps order dst) (sym e) (swap_by order dst h).2

load : (size : Size) (signed : Bool) (dst src : ℕ) (off : ℤ) → MayLoad size signed → nat_lt 10 dst ≡ false → nat_lt 10 src ≡ false → IsGood (slot (load_mode signed + size_code size) dst src off (pos 0)) (Load size signed dst src off)
load Double true dst src off may h k = absurd may
load Double false dst src off may h k = record { narrow = refl; form = refl; clean = rw (h, k) refl }
load size false dst src off may h k = record { narrow = refl; form = refl; clean = rw (h, k) refl }
load size true dst src off may h k = record { narrow = refl; form = refl; clean = rw (h, k) refl }

store_imm : (size : Size) (dst : ℕ) (off imm : ℤ) → nat_lt 10 dst ≡ false → IsGood (slot (0x62 + size_code size) dst 0 off imm) (Store size dst off (Imm imm))
store_imm Double dst off imm h = record { narrow = refl; form = refl; clean = rw h refl }
store_imm size dst off imm h = record { narrow = refl; form = refl; clean = rw h refl }

store_reg : (size : Size) (dst src : ℕ) (off : ℤ) → nat_lt 10 dst ≡ false → nat_lt 10 src ≡ false → IsGood (slot (0x63 + size_code size) dst src off (pos 0)) (Store size dst off (Reg src))
store_reg Double dst src off h k = record { narrow = refl; form = refl; clean = rw (h, k) refl }
store_reg size dst src off h k = record { narrow = refl; form = refl; clean = rw (h, k) refl }

branch_imm : (w64 : Bool) (cond : Condition) (dst : ℕ) (off imm : ℤ) → nat_lt 10 dst ≡ false → IsGood (slot (16 * condition_code cond + jump_class w64) dst 0 off imm) (Branch w64 cond dst (Imm imm) off)
branch_imm false Jsle dst off imm h = record { narrow = refl; form = refl; clean = rw h refl }
branch_imm true Jsle dst off imm h = record { narrow = refl; form = refl; clean = rw h refl }
branch_imm w64 cond dst off imm h = record { narrow = refl; form = refl; clean = rw h refl }

branch_reg : (w64 : Bool) (cond : Condition) (dst src : ℕ) (off : ℤ) → nat_lt 10 dst ≡ false → nat_lt 10 src ≡ false → IsGood (slot (16 * condition_code cond + jump_class w64 + 8) dst src off (pos 0)) (Branch w64 cond dst (Reg src) off)
branch_reg false Jsle dst src off h k = record { narrow = refl; form = refl; clean = rw (h, k) refl }
branch_reg true Jsle dst src off h k = record { narrow = refl; form = refl; clean = rw (h, k) refl }
branch_reg w64 cond dst src off h k = record { narrow = refl; form = refl; clean = rw (h, k) refl }

-- ---- two slots

joined : (value : ℕ) → value < 2 ^ 64 → cast_unsigned w32 (low_imm (value / 2 ^ 32)) * 2 ^ 32 + cast_unsigned w32 (low_imm value) ≡ value
joined value h =
    let low : cast_unsigned w32 (low_imm value) ≡ value % 2 ^ 32 = of_z-to_z w32 (value % 2 ^ 32) (omega arith) in
    let high : cast_unsigned w32 (low_imm (value / 2 ^ 32)) ≡ value / 2 ^ 32 % 2 ^ 32 = of_z-to_z w32 (value / 2 ^ 32 % 2 ^ 32) (omega arith) in
    omega (arith, low, high)

imm64 : (dst value : ℕ) → dst ≤ 10 → value < 2 ^ 64 → Wide (Imm64 dst value)
imm64 dst value d h = record {
  first = slot 0x18 dst 0 (pos 0) (low_imm value);
  second = slot 0 0 0 (pos 0) (low_imm (value / 2 ^ 32));
  spelled = refl;
  count = refl;
  wide = refl;
  form = ap (Imm64 dst) (joined value h);
  clean = rw (not_below dst d) refl;
  good = refl;
}

map_ref : (dst : ℕ) (index : ℤ) → dst ≤ 10 → Wide (MapRef dst index)
map_ref dst index d = record {
  first = slot 0x18 dst 5 (pos 0) index;
  second = slot 0 0 0 (pos 0) (pos 0);
  spelled = refl;
  count = refl;
  wide = refl;
  form = refl;
  clean = rw (not_below dst d) refl;
  good = refl;
}

-- ---- each instruction

pub spelled : (i : Form) → HasEncoding i → Narrow i ⊎ Wide i
spelled (Alu w64 op dst (Imm imm)) h = by_slot (Alu w64 op dst (Imm imm)) _ refl refl (alu_imm w64 op dst imm (not_below dst h.0))
spelled (Alu w64 op dst (Reg src)) h = by_slot (Alu w64 op dst (Reg src)) _ refl refl (alu_reg w64 op dst src (not_below dst h.0) (not_below src h.1))
spelled (Neg w64 dst) h = by_slot (Neg w64 dst) _ refl refl (neg w64 dst (not_below dst h))
spelled (MovSx w64 bits dst src) h = by_slot (MovSx w64 bits dst src) _ refl refl (extension w64 bits dst src h.2 (not_below dst h.0) (not_below src h.1))
spelled (Swap order bits dst) h = by_slot (Swap order bits dst) _ refl refl (swap order bits dst h.1 (not_below dst h.0))
spelled (Load size signed dst src off) h = by_slot (Load size signed dst src off) _ refl refl (load size signed dst src off h.3 (not_below dst h.0) (not_below src h.1))
spelled (Store size dst off (Imm imm)) h = by_slot (Store size dst off (Imm imm)) _ refl refl (store_imm size dst off imm (not_below dst h.0))
spelled (Store size dst off (Reg src)) h = by_slot (Store size dst off (Reg src)) _ refl refl (store_reg size dst src off (not_below dst h.0) (not_below src h.1))
spelled (Imm64 dst value) h = inr (imm64 dst value h.0 h.1)
spelled (MapRef dst index) h = inr (map_ref dst index h.0)
spelled (Ja false by) h = by_slot (Ja false by) (slot 0x05 0 0 by (pos 0)) refl refl (record { narrow = refl; form = refl; clean = refl })
spelled (Ja true by) h = by_slot (Ja true by) (slot 0x06 0 0 (pos 0) by) refl refl (record { narrow = refl; form = refl; clean = refl })
spelled (Branch w64 cond dst (Imm imm) off) h = by_slot (Branch w64 cond dst (Imm imm) off) _ refl refl (branch_imm w64 cond dst off imm (not_below dst h.0))
spelled (Branch w64 cond dst (Reg src) off) h = by_slot (Branch w64 cond dst (Reg src) off) _ refl refl (branch_reg w64 cond dst src off (not_below dst h.0) (not_below src h.1))
spelled (Call id) h = by_slot (Call id) (slot 0x85 0 0 (pos 0) id) refl refl (record { narrow = refl; form = refl; clean = refl })
spelled Exit h = by_slot Exit (slot 0x95 0 0 (pos 0) (pos 0)) refl refl (record { narrow = refl; form = refl; clean = refl })
