-- What a word and its operands mean.
use Rattle.std.specs.Prelude.{ℕ, ◌+◌, ◌-◌, ◌^◌, Bool, true, false, ◌&&◌, ◌||◌, ℤ, pos, negsuc, neg_ℤ, ◌-ℤ◌, unsigned_abs, Option, Some, None, Result, Ok, Err, if◌then◌else◌}
use Rattle.std.specs.Int.{w64 as bits_64, cast_unsigned}
use Rattle.std.specs.Ordering.{int_eq}
use Rattle.insn.specs.declared.instruction.Source.{Source}
use Rattle.insn.specs.declared.instruction.Source.TheVariants as sources
use Rattle.insn.specs.declared.instruction.Operation.{Operation}
use Rattle.insn.specs.declared.instruction.Order.{Order}
use Rattle.insn.specs.declared.instruction.Size.{Size}
use Rattle.insn.specs.declared.instruction.Condition.{Condition}
use Rattle.insn.specs.declared.instruction.Form.{Form}
use Rattle.insn.specs.declared.instruction.Form.TheVariants as forms
use Rattle.asm.specs.declared.refusals.AsmFault.{AsmFault}
use Rattle.asm.specs.declared.refusals.AsmFault.TheVariants.{OutOfRange, UnknownLabel, JumpTooFar}
use Rattle.asm.specs.declared.words.Mnemonic.{Mnemonic}
use Rattle.asm.specs.declared.words.Mnemonic.TheVariants as words
use Rattle.asm.specs.declared.operands.Written.{Written}
use Rattle.asm.specs.declared.operands.Written.TheVariants.{Reg, Number}
use Rattle.asm.specs.Tokens.{◌>>=◌, Parts}
use Rattle.asm.specs.Operands.{register_of, number_of, source_of, address_of, target_of, Goal, By, Label, within}
use Rattle.asm.specs.declared.labels.Mark.{Mark}
use Rattle.asm.specs.Labels.{Marks}

-- 32 signed bits
abbrev pub imm_of : ℤ → Result ℤ AsmFault
imm_of z = within (neg_ℤ (pos (2 ^ 31))) (pos (2 ^ 31 - 1)) OutOfRange z

-- 16 signed bits
abbrev pub off_of : ℤ → Result ℤ AsmFault
off_of z = within (neg_ℤ (pos (2 ^ 15))) (pos (2 ^ 15 - 1)) OutOfRange z

abbrev pub source_form : Written → Result Source AsmFault
source_form (Reg r) = Ok (sources.Reg r)
source_form (Number z) = imm_of z >>= (λ imm. Ok (sources.Imm imm))

abbrev pub to_mark : ℕ → Option Mark → Result ℤ AsmFault
to_mark slot None = Err UnknownLabel
to_mark slot (Some m) = Ok (pos m.slot -ℤ pos (slot + 1))

-- how many slots a jump goes, counted from the slot behind it
abbrev pub distance_of : Marks → ℕ → Goal → Result ℤ AsmFault
distance_of marks slot (By d) = Ok d
distance_of marks slot (Label name) = to_mark slot (marks name)

unfoldable pub alu_of : Bool → Operation → Parts → Result Form AsmFault
alu_of w64 op o = do
  dst ← register_of o.first
  written ← source_of o.second
  src ← source_form written
  Ok (forms.Alu w64 op dst src)

abbrev pub neg_of : Bool → Parts → Result Form AsmFault
neg_of w64 o = register_of o.first >>= (λ dst. Ok (forms.Neg w64 dst))

unfoldable pub movsx_of : Bool → Parts → Result Form AsmFault
movsx_of w64 o = do
  dst ← register_of o.first
  src ← register_of o.second
  bits ← number_of o.third
  if int_eq bits (pos 8) || int_eq bits (pos 16) || (w64 && int_eq bits (pos 32)) then Ok (forms.MovSx w64 (unsigned_abs bits) dst src) else Err OutOfRange

abbrev pub swap_of : Order → ℕ → Parts → Result Form AsmFault
swap_of order bits o = register_of o.first >>= (λ dst. Ok (forms.Swap order bits dst))

unfoldable pub load_of : Size → Bool → Parts → Result Form AsmFault
load_of size signed o = do
  dst ← register_of o.first
  address ← address_of o.second
  off ← off_of address.off
  Ok (forms.Load size signed dst address.base off)

unfoldable pub store_imm_of : Size → Parts → Result Form AsmFault
store_imm_of size o = do
  address ← address_of o.first
  number ← number_of o.second
  off ← off_of address.off
  imm ← imm_of number
  Ok (forms.Store size address.base off (sources.Imm imm))

unfoldable pub store_reg_of : Size → Parts → Result Form AsmFault
store_reg_of size o = do
  address ← address_of o.first
  src ← register_of o.second
  off ← off_of address.off
  Ok (forms.Store size address.base off (sources.Reg src))

-- a negative number stands for its 64 bits
abbrev pub bits_of : ℤ → ℕ
bits_of (pos n) = n
bits_of (negsuc n) = cast_unsigned bits_64 (negsuc n)

unfoldable pub imm64_of : Parts → Result Form AsmFault
imm64_of o = do
  dst ← register_of o.first
  number ← number_of o.second
  value ← within (neg_ℤ (pos (2 ^ 63))) (pos (2 ^ 64 - 1)) OutOfRange number
  Ok (forms.Imm64 dst (bits_of value))

unfoldable pub map_ref_of : Parts → Result Form AsmFault
map_ref_of o = do
  dst ← register_of o.first
  number ← number_of o.second
  index ← imm_of number
  Ok (forms.MapRef dst index)

-- a jump goes by 16 signed bits, or by 32
abbrev pub jump_of : Bool → ℤ → Result ℤ AsmFault
jump_of true z = within (neg_ℤ (pos (2 ^ 31))) (pos (2 ^ 31 - 1)) JumpTooFar z
jump_of false z = within (neg_ℤ (pos (2 ^ 15))) (pos (2 ^ 15 - 1)) JumpTooFar z

unfoldable pub ja_of : Marks → ℕ → Bool → Parts → Result Form AsmFault
ja_of marks slot long o = do
  target ← target_of o.first
  by ← distance_of marks slot target
  fits ← jump_of long by
  Ok (forms.Ja long fits)

unfoldable pub branch_of : Marks → ℕ → Bool → Condition → Parts → Result Form AsmFault
branch_of marks slot w64 cond o = do
  dst ← register_of o.first
  written ← source_of o.second
  target ← target_of o.third
  src ← source_form written
  by ← distance_of marks slot target
  off ← jump_of false by
  Ok (forms.Branch w64 cond dst src off)

abbrev pub call_of : Parts → Result Form AsmFault
call_of o = number_of o.first >>= (λ number. imm_of number >>= (λ id. Ok (forms.Call id)))

-- the instruction of this word and these operands, at this slot
unfoldable pub form_of : Marks → ℕ → Mnemonic → Parts → Result Form AsmFault
form_of marks slot (words.Alu w64 op) o = alu_of w64 op o
form_of marks slot (words.Neg w64) o = neg_of w64 o
form_of marks slot (words.MovSx w64) o = movsx_of w64 o
form_of marks slot (words.Swap order bits) o = swap_of order bits o
form_of marks slot (words.Load size signed) o = load_of size signed o
form_of marks slot (words.StoreImm size) o = store_imm_of size o
form_of marks slot (words.StoreReg size) o = store_reg_of size o
form_of marks slot words.Imm64 o = imm64_of o
form_of marks slot words.MapRef o = map_ref_of o
form_of marks slot (words.Ja long) o = ja_of marks slot long o
form_of marks slot (words.Branch w64 cond) o = branch_of marks slot w64 cond o
form_of marks slot words.Call o = call_of o
form_of marks slot words.Exit o = Ok forms.Exit
