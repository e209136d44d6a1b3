-- Where a line is wrong by a rule.
use Rattle.std.specs.Prelude.{ℕ, ◌-◌, ◌^◌, Bool, true, false, ◌&&◌, ◌||◌, ◌==◌, nat_lt, ℤ, pos, neg_ℤ, List, [], ◌∷◌, length, drop, slice_index, Option, Some, None, Result, Ok, Err, if◌then◌else◌}
use Rattle.std.specs.Ordering.{int_eq}
use Rattle.asm.specs.declared.refusals.AsmFault.{AsmFault}
use Rattle.asm.specs.declared.refusals.AsmFault.TheVariants.{UnknownWord, OutOfRange, UnknownLabel, LabelTwice, JumpTooFar, TooLong, TextBehind}
use Rattle.asm.specs.declared.words.Mnemonic.{Mnemonic}
use Rattle.asm.specs.declared.words.Mnemonic.TheVariants.{Alu, Neg, MovSx, Swap, Load, StoreImm, StoreReg, Imm64, MapRef, Ja, Branch, Call, Exit}
use Rattle.asm.specs.declared.tokens.Stop.TheVariants.{Semicolon, Visible, TokenEnd, Colon}
use Rattle.asm.specs.declared.places.OperandKind.{OperandKind}
use Rattle.asm.specs.declared.places.OperandKind.TheVariants.{Register, Source, Number, Long, Bits, Address, Target}
use Rattle.asm.specs.declared.places.Place.{Place}
use Rattle.asm.specs.Tokens.{◌>>=◌, before, rest_from}
use Rattle.asm.specs.Words.{meaning_of}
use Rattle.asm.specs.Operands.{register_of, source_of, number_of, address_of, target_of, within}
use Rattle.asm.specs.Forms.{imm_of, off_of, source_form}
use Rattle.asm.specs.Refusal.{fault_number}

-- ---- operands

-- what stands behind a word
abbrev pub operand_kinds : Mnemonic → List OperandKind
operand_kinds (Alu w64 op) = Register ∷ Source ∷ []
operand_kinds (Neg w64) = Register ∷ []
operand_kinds (MovSx w64) = Register ∷ Register ∷ Bits w64 ∷ []
operand_kinds (Swap order bits) = Register ∷ []
operand_kinds (Load size signed) = Register ∷ Address ∷ []
operand_kinds (StoreImm size) = Address ∷ Number ∷ []
operand_kinds (StoreReg size) = Address ∷ Register ∷ []
operand_kinds Imm64 = Register ∷ Long ∷ []
operand_kinds MapRef = Register ∷ Number ∷ []
operand_kinds (Ja long) = Target ∷ []
operand_kinds (Branch w64 cond) = Register ∷ Source ∷ Target ∷ []
operand_kinds Call = Number ∷ []
operand_kinds Exit = []

abbrev pub kinds_said : Option Mnemonic → List OperandKind
kinds_said None = []
kinds_said (Some m) = operand_kinds m

-- a sign is extended from 8 or 16 bits, or in 64 bits from 32
abbrev pub bits_of : Bool → ℤ → Result (Unit {0}) AsmFault
bits_of w64 z = if int_eq z (pos 8) || int_eq z (pos 16) || (w64 && int_eq z (pos 32)) then Ok tt else Err OutOfRange

-- 64 bits, signed or not
abbrev pub long_of : ℤ → Result ℤ AsmFault
long_of z = within (neg_ℤ (pos (2 ^ 63))) (pos (2 ^ 64 - 1)) OutOfRange z

abbrev pub source_checked : List ℕ → Result (Unit {0}) AsmFault
source_checked token = source_of token >>= (λ written. source_form written >>= (λ _. Ok tt))

abbrev pub number_checked : List ℕ → Result (Unit {0}) AsmFault
number_checked token = number_of token >>= (λ number. imm_of number >>= (λ _. Ok tt))

abbrev pub long_checked : List ℕ → Result (Unit {0}) AsmFault
long_checked token = number_of token >>= (λ number. long_of number >>= (λ _. Ok tt))

abbrev pub address_checked : List ℕ → Result (Unit {0}) AsmFault
address_checked token = address_of token >>= (λ address. off_of address.off >>= (λ _. Ok tt))

-- an operand is right by itself, or by which rule it is not
unfoldable pub checked : OperandKind → List ℕ → Result (Unit {0}) AsmFault
checked Register token = register_of token >>= (λ _. Ok tt)
checked Source token = source_checked token
checked Number token = number_checked token
checked Long token = long_checked token
checked (Bits w64) token = number_of token >>= (λ number. bits_of w64 number)
checked Address token = address_checked token
checked Target token = target_of token >>= (λ _. Ok tt)

-- this rule refuses it
abbrev pub is_refused_by : AsmFault → Result (Unit {0}) AsmFault → Bool
is_refused_by why (Ok _) = false
is_refused_by why (Err fault) = fault_number fault == fault_number why

abbrev pub is_target : OperandKind → Bool
is_target Target = true
is_target kind = false

-- an operand is wrong by a rule: the target by A4 and A6, and else one that the rule refuses by itself
abbrev pub is_wrong : AsmFault → OperandKind → List ℕ → Bool
is_wrong UnknownLabel kind token = is_target kind
is_wrong JumpTooFar kind token = is_target kind
is_wrong why kind token = is_refused_by why (checked kind token)

-- ---- places

-- the text from the place on that is wrong, and the operand that is wanted there, if one is
pub record Wrong : Type 0 where
  pub from : List ℕ
  pub wanted : Option OperandKind

abbrev pub wrong : List ℕ → Option OperandKind → Wrong
wrong from wanted = record { from = from; wanted = wanted }

-- one more operand stands behind a comma
abbrev pub has_next : List OperandKind → List ℕ → Bool
has_next kinds text = nat_lt 0 (length kinds) && slice_index (rest_from Visible text) 0 == 44

-- of operands of these kinds the first one that is wrong; where none is, the end of the last one that stands there
unfoldable pub wrong_operand : AsmFault → List OperandKind → List ℕ → Wrong
wrong_operand why [] text = wrong text None
wrong_operand why (kind ∷ kinds) text =
    if is_wrong why kind (before TokenEnd (rest_from Visible text)) then wrong (rest_from Visible text) (Some kind)
    else if has_next kinds (rest_from TokenEnd (rest_from Visible text))
    then wrong_operand why kinds (drop 1 (rest_from Visible (rest_from TokenEnd (rest_from Visible text))))
    else wrong (rest_from TokenEnd (rest_from Visible text)) None

-- the word of a line, which has no comment, and what stands behind it
abbrev pub word_in : List ℕ → List ℕ
word_in code = before TokenEnd (rest_from Visible code)

abbrev pub behind_word : List ℕ → List ℕ
behind_word code = rest_from TokenEnd (rest_from Visible code)

unfoldable pub wrong_behind : AsmFault → List ℕ → Wrong
wrong_behind why code = wrong_operand why (kinds_said (meaning_of (word_in code))) (behind_word code)

-- what stands behind a label, or else behind the last operand
unfoldable pub rest_of : List ℕ → List ℕ
rest_of code =
    if nat_lt 0 (length (rest_from Colon (word_in code))) then drop 1 (rest_from Colon (rest_from Visible code)) else (wrong_behind TextBehind code).from

-- what is wrong: the word where it is unknown, twice a label, or behind the last slot; the first visible byte behind the end; or an operand
abbrev pub wrong_in : AsmFault → List ℕ → Wrong
wrong_in UnknownWord code = wrong (rest_from Visible code) None
wrong_in LabelTwice code = wrong (rest_from Visible code) None
wrong_in TooLong code = wrong (rest_from Visible code) None
wrong_in TextBehind code = wrong (rest_from Visible (rest_of code)) None
wrong_in why code = wrong_behind why code

-- how many bytes of a line stand before the place that is wrong, and the operand that is wanted there, if one is
abbrev pub place_in : AsmFault → List ℕ → Place
place_in why line =
    let code = before Semicolon line in
    record { at = length code - length (wrong_in why code).from; wanted = (wrong_in why code).wanted }
