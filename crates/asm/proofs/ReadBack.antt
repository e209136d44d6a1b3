-- Operands are read as they are written.
use Rattle.std.proofs.Common.{◌≡◌, ◌≢◌, ◌⊎◌, inl, inr, ℕ, zero, suc, ◌+◌, ◌-◌, ◌^◌, ◌<◌, ◌≤◌, Bool, true, false, not, cond, ◌&&◌, ◌||◌, ltb, leb, eqb, ℤ, pos, negsuc, neg_ℤ, List, [], ◌∷◌, ◌++◌, length, get_or, take, drop, Result, Ok, Err, codes, refl, sym, ap, ◌∙◌, arith, append_assoc, lit<, lit≤, FitsSigned}
use Rattle.std.specs.Int.{w16, w32}
use Rattle.std.specs.Fmt.{decimal, signed_decimal}
use Rattle.std.specs.List.{list_all}
use Rattle.std.specs.Str.{bytes_eq}
use Rattle.std.specs.Str.Parse.{AllDigits}
use Rattle.std.specs.Char.{digit_value}
use Rattle.std.proofs.lemmas.Bool.{lt-ltb, le-ltb, le-leb, ne_eqb, cases_lt, and_left}
use Rattle.std.proofs.lemmas.List.{length-append}
use Rattle.std.proofs.Math.Seq.{get_or-append_seam}
use Rattle.std.proofs.lemmas.Fmt.{decimal_digit, decimal_step, decimal_is_IsNumeral}
use Rattle.std.proofs.lemmas.Str.Parse.{digit_from_value}
use mathlib.Core.Bool.{and-false}
use Rattle.insn.specs.declared.instruction.Source.{Source}
use Rattle.insn.specs.declared.instruction.Source.TheVariants as sources
use Rattle.insn.specs.Encoding.{IsSource}
use Rattle.asm.specs.declared.refusals.AsmFault.{AsmFault}
use Rattle.asm.specs.declared.refusals.AsmFault.TheVariants.{BadOperand, OutOfRange, JumpTooFar}
use Rattle.asm.specs.declared.operands.Address.{Address}
use Rattle.asm.specs.declared.operands.Written.{Written}
use Rattle.asm.specs.declared.operands.Written.TheVariants.{Reg, Number}
use Rattle.asm.specs.declared.tokens.Stop.TheVariants.{Sign}
use Rattle.asm.specs.Tokens.{◌>>=◌, result_map, stops, before, rest_from}
use Rattle.asm.specs.Operands.{register_of, are_digits, magnitude_of, unsigned_of, number_of, signed_of, source_of, address_of, target_of, By, within}
use Rattle.asm.specs.Forms.{imm_of, off_of, source_form, jump_of}
use Rattle.asm.specs.Text.{register, source, with_sign, address}
use Rattle.asm.proofs.Parts.{is_plain, IsToken, passes, ends, list_all-append, take-append, before-cut, rest-cut}

-- ---- digits

digits_pass : (ds : List ℕ) → AllDigits 10 ds → are_digits 10 ds ≡ true
digits_pass [] h = refl
digits_pass (c ∷ cs) h = rw (lt-ltb (digit_value c) 10 h.0, digits_pass cs h.1) refl

digits_are_plain : (c : ℕ) → digit_value c < 10 → is_plain c ≡ true
digits_are_plain c h =
    let range = digit_from_value c h in
    rw (lt-ltb 32 c (omega (arith, range.0)), ne_eqb c 44 (λ e. absurd (omega (arith, e, range.0))), ne_eqb c 58 (λ e. absurd (omega (arith, e, range.1))), ne_eqb c 59 (λ e. absurd (omega (arith, e, range.1)))) refl

pub plain_digits : (ds : List ℕ) → AllDigits 10 ds → list_all is_plain ds ≡ true
plain_digits [] h = refl
plain_digits (c ∷ cs) h = rw (digits_are_plain c h.0) (plain_digits cs h.1)

no_sign : (c : ℕ) → digit_value c < 10 → not (stops Sign c) ≡ true
no_sign c h =
    let range = digit_from_value c h in
    rw (ne_eqb c 43 (λ e. absurd (omega (arith, e, range.0))), ne_eqb c 45 (λ e. absurd (omega (arith, e, range.0)))) refl

digits_no_sign : (ds : List ℕ) → AllDigits 10 ds → passes Sign ds
digits_no_sign [] h = refl
digits_no_sign (c ∷ cs) h = rw (no_sign c h.0) (digits_no_sign cs h.1)

-- a byte of digits, or 0 behind them, is none below 48 but 0, and none above 57
digit_or_past : (ds : List ℕ) (i : ℕ) → AllDigits 10 ds → (get_or ds i 0 ≡ 0) ⊎ ((48 ≤ get_or ds i 0) × (get_or ds i 0 ≤ 57))
digit_or_past [] i h = inl refl
digit_or_past (c ∷ cs) zero h = let range = digit_from_value c h.0 in inr (range.0, range.1)
digit_or_past (c ∷ cs) (suc i) h = digit_or_past cs i h.1

not_at : (ds : List ℕ) (i k : ℕ) → AllDigits 10 ds → (k ≢ 0) → ((48 ≤ k) → (k ≤ 57) → ⊥) → eqb (get_or ds i 0) k ≡ false
not_at ds i k h nonzero out =
    ne_eqb (get_or ds i 0) k (λ e. elim (digit_or_past ds i h) [ inl z ↦ nonzero (sym e ∙ z) | inr range ↦ out (omega (arith, e, range.0)) (omega (arith, e, range.1)) ])

pub magnitude-decimal : (n : ℕ) → n < 2 ^ 64 → magnitude_of 10 (decimal n) ≡ Ok (pos n)
unfolding magnitude_of
magnitude-decimal n small =
    let numeral = decimal_is_IsNumeral n small in
    rw (lt-ltb 0 (length (decimal n)) numeral.0.0, digits_pass (decimal n) numeral.0.1, numeral.1, lt-ltb n (2 ^ 127) (omega arith)) refl

unsigned-decimal : (n : ℕ) → n < 2 ^ 64 → unsigned_of (decimal n) ≡ Ok (pos n)
unfolding unsigned_of
unsigned-decimal n small =
    let digits = (decimal_is_IsNumeral n small).0.1 in
    by (eqb (get_or (decimal n) 0 0) 48) (eqb (get_or (decimal n) 1 0) 120) (not_at (decimal n) 1 120 digits (λ e. absurd (omega (arith, e))) (λ low high. omega (arith, high)))
  where
    by : (a b : Bool) → b ≡ false → cond (a && b) (magnitude_of 16 (drop 2 (decimal n))) (magnitude_of 10 (decimal n)) ≡ Ok (pos n)
    by true b e = rw e (magnitude-decimal n small)
    by false b e = magnitude-decimal n small

pub number-decimal : (n : ℕ) → n < 2 ^ 64 → number_of (decimal n) ≡ Ok (pos n)
unfolding number_of
number-decimal n small =
    let digits = (decimal_is_IsNumeral n small).0.1 in
    rw (not_at (decimal n) 0 45 digits (λ e. absurd (omega (arith, e))) (λ low high. omega (arith, low))) (unsigned-decimal n small)

number-minus : (n : ℕ) → suc n < 2 ^ 64 → number_of (45 ∷ decimal (suc n)) ≡ Ok (negsuc n)
unfolding number_of
number-minus n small = ap (result_map neg_ℤ) (unsigned-decimal (suc n) small)

-- the sizes of numbers
abbrev pub IsSmall : ℤ → Type 0
IsSmall (pos n) = n < 2 ^ 64
IsSmall (negsuc n) = suc n < 2 ^ 64

pub number-signed_decimal : (z : ℤ) → IsSmall z → number_of (signed_decimal z) ≡ Ok z
number-signed_decimal (pos n) h = number-decimal n h
number-signed_decimal (negsuc n) h = number-minus n h

pub signed-with_sign : (z : ℤ) → IsSmall z → signed_of (with_sign z) ≡ Ok z
unfolding signed_of
signed-with_sign (pos n) h = number-decimal n h
signed-with_sign (negsuc n) h = ap (result_map neg_ℤ) (number-decimal (suc n) h)

pub target-with_sign : (z : ℤ) → IsSmall z → target_of (with_sign z) ≡ Ok (By z)
unfolding target_of
target-with_sign (pos n) h = ap (result_map By) (magnitude-decimal n h)
target-with_sign (negsuc n) h = ap (result_map (λ d. By (neg_ℤ d))) (magnitude-decimal (suc n) h)

-- ---- registers

decimal_ten : decimal 10 ≡ codes "10"
decimal_ten = decimal_step 10 (lit≤ tt) (lit< tt) ∙ ap (λ ds. ds ++ (48 ∷ [])) (decimal_digit 1 (lit< tt))

one_digit : (d : ℕ) → 48 ≤ d → d ≤ 57 → register_of (114 ∷ d ∷ []) ≡ Ok (d - 48)
unfolding register_of
one_digit d low high =
    rw (and-false (eqb d 49), le-leb 48 d low, le-leb d 57 high) refl

ten_is_read : register_of (codes "r10") ≡ Ok 10
unfolding register_of
ten_is_read = refl

pub register-register : (r : ℕ) → r ≤ 10 → register_of (register r) ≡ Ok r
register-register r le = elim (cases_lt r 10) [
  | inl lt ↦ ap (λ ds. register_of (114 ∷ ds)) (decimal_digit r lt) ∙ one_digit (48 + r) (omega arith) (omega arith) ∙ ap Ok (omega arith)
  | inr ge ↦ let ten : r ≡ 10 = omega arith in rw ten (ap (λ ds. register_of (114 ∷ ds)) decimal_ten ∙ ten_is_read)
]

-- what does not begin with r is no register
not_r10 : (token : List ℕ) → eqb (get_or token 0 0) 114 ≡ false → bytes_eq token (codes "r10") ≡ false
not_r10 [] e = refl
not_r10 (c ∷ cs) e = rw e refl

second_false : (a b d : Bool) → b ≡ false → (((a && b) && d) ≡ false)
second_false true b d e = rw e refl
second_false false b d e = refl

pub not_r : (token : List ℕ) → eqb (get_or token 0 0) 114 ≡ false → register_of token ≡ Err BadOperand
unfolding register_of
not_r token e =
    rw (not_r10 token e, and_left _ (leb (get_or token 1 0) 57) (second_false (eqb (length token) 2) (eqb (get_or token 0 0) 114) (leb 48 (get_or token 1 0)) e)) refl

first_of_signed : (z : ℤ) → IsSmall z → eqb (get_or (signed_decimal z) 0 0) 114 ≡ false
first_of_signed (pos n) h = not_at (decimal n) 0 114 (decimal_is_IsNumeral n h).0.1 (λ e. absurd (omega (arith, e))) (λ low high. omega (arith, high))
first_of_signed (negsuc n) h = refl

-- ---- ranges

abbrev pub IsWithin : ℕ → ℤ → Type 0
IsWithin most (pos n) = n ≤ most
IsWithin most (negsuc n) = n ≤ most

within-range : (most : ℕ) (why : AsmFault) (z : ℤ) → IsWithin most z → within (negsuc most) (pos most) why z ≡ Ok z
within-range most why (pos n) h = rw (le-leb n most h) refl
within-range most why (negsuc n) h = rw (le-leb n most h) refl

small_from : (most : ℕ) (z : ℤ) → most < 2 ^ 32 → IsWithin most z → IsSmall z
small_from most (pos n) few h = omega (arith, h)
small_from most (negsuc n) few h = omega (arith, h)

pub fits_32 : (z : ℤ) → FitsSigned w32 z → IsWithin (2 ^ 31 - 1) z
fits_32 (pos n) h = omega (arith, h.sfits)
fits_32 (negsuc n) h = omega (arith, h.sfits)

pub fits_16 : (z : ℤ) → FitsSigned w16 z → IsWithin (2 ^ 15 - 1) z
fits_16 (pos n) h = omega (arith, h.sfits)
fits_16 (negsuc n) h = omega (arith, h.sfits)

pub small_32 : (z : ℤ) → FitsSigned w32 z → IsSmall z
small_32 z h = small_from (2 ^ 31 - 1) z (omega arith) (fits_32 z h)

pub small_16 : (z : ℤ) → FitsSigned w16 z → IsSmall z
small_16 z h = small_from (2 ^ 15 - 1) z (omega arith) (fits_16 z h)

pub imm-fits : (z : ℤ) → FitsSigned w32 z → imm_of z ≡ Ok z
imm-fits z h = within-range (2 ^ 31 - 1) OutOfRange z (fits_32 z h)

pub off-fits : (z : ℤ) → FitsSigned w16 z → off_of z ≡ Ok z
off-fits z h = within-range (2 ^ 15 - 1) OutOfRange z (fits_16 z h)

pub near-fits : (z : ℤ) → FitsSigned w16 z → jump_of false z ≡ Ok z
near-fits z h = within-range (2 ^ 15 - 1) JumpTooFar z (fits_16 z h)

pub far-fits : (z : ℤ) → FitsSigned w32 z → jump_of true z ≡ Ok z
far-fits z h = within-range (2 ^ 31 - 1) JumpTooFar z (fits_32 z h)

-- ---- sources and addresses

abbrev pub written : Source → Written
written (sources.Reg r) = Reg r
written (sources.Imm z) = Number z

pub source-source : (s : Source) → IsSource s → source_of (source s) ≡ Ok (written s)
unfolding source_of
source-source (sources.Reg r) h = rw (register-register r h) refl
source-source (sources.Imm z) h = rw (not_r (signed_decimal z) (first_of_signed z (small_32 z h)), number-signed_decimal z (small_32 z h)) refl

pub written-form : (s : Source) → IsSource s → source_form (written s) ≡ Ok s
written-form (sources.Reg r) h = refl
written-form (sources.Imm z) h = rw (imm-fits z h) refl

-- an address of so many bytes, its last byte at this place, and so many bytes between the brackets
address_parts : Bool → ℕ → ℕ → List ℕ → Result Address AsmFault
address_parts short last count token =
    cond (short || not (eqb (get_or token 0 0) 91) || not (eqb (get_or token last 0) 93)) (Err BadOperand)
    (register_of (before Sign (take count (drop 1 token))) >>= (λ base. signed_of (rest_from Sign (take count (drop 1 token))) >>= (λ off. Ok (record { base = base; off = off }))))

address_of-parts : (token : List ℕ) → address_of token ≡ address_parts (ltb (length token) 2) (length token - 1) (length token - 1 - 1) token
unfolding address_of address_parts
address_of-parts token = refl

bracketed : (inner : List ℕ) → address_of (91 ∷ (inner ++ 93 ∷ [])) ≡ (register_of (before Sign inner) >>= (λ base. signed_of (rest_from Sign inner) >>= (λ off. Ok (record { base = base; off = off }))))
unfolding address_parts
bracketed inner =
    let token : List ℕ = 91 ∷ (inner ++ 93 ∷ []) in
    let len : length token ≡ suc (length inner) + 1 = omega (arith, length-append inner (93 ∷ [])) in
    let short : ltb (length token) 2 ≡ false = le-ltb (length token) 2 (omega (arith, len)) in
    let last : length token - 1 ≡ suc (length inner) = omega (arith, len) in
    let count : length token - 1 - 1 ≡ length inner = omega (arith, len) in
    let end : get_or (inner ++ 93 ∷ []) (length inner) 0 ≡ 93 = get_or-append_seam inner 93 [] 0 in
    address_of-parts token
    ∙ ap (λ b. address_parts b (length token - 1) (length token - 1 - 1) token) short
    ∙ ap (λ m. address_parts false m (length token - 1 - 1) token) last
    ∙ ap (λ k. address_parts false (suc (length inner)) k token) count
    ∙ ap (λ c. cond (not (eqb c 93)) (Err BadOperand)
    (register_of (before Sign (take (length inner) (inner ++ 93 ∷ []))) >>= (λ base. signed_of (rest_from Sign (take (length inner) (inner ++ 93 ∷ []))) >>= (λ off. Ok (record { base = base; off = off }))))) end
    ∙ ap (λ xs. register_of (before Sign xs) >>= (λ base. signed_of (rest_from Sign xs) >>= (λ off. Ok (record { base = base; off = off })))) (take-append inner (93 ∷ []))

register_no_sign : (r : ℕ) → r ≤ 10 → passes Sign (register r)
register_no_sign r le = digits_no_sign (decimal r) (decimal_is_IsNumeral r (omega arith)).0.1

begins_with_sign : (z : ℤ) → ends Sign (with_sign z) ≡ true
begins_with_sign (pos n) = refl
begins_with_sign (negsuc n) = refl

pub address-address : (base : ℕ) (off : ℤ) → base ≤ 10 → FitsSigned w16 off → address_of (address base off) ≡ Ok (record { base = base; off = off })
address-address base off le h =
    ap (λ xs. address_of (91 ∷ xs)) (sym (append_assoc (register base) (with_sign off) (93 ∷ [])))
    ∙ bracketed (register base ++ with_sign off)
    ∙ rw (before-cut Sign (register base) (with_sign off) (register_no_sign base le) (begins_with_sign off), rest-cut Sign (register base) (with_sign off) (register_no_sign base le) (begins_with_sign off), register-register base le, signed-with_sign off (small_16 off h)) refl

-- ---- operands are tokens

pub decimal-token : (n : ℕ) → n < 2 ^ 64 → IsToken (decimal n)
decimal-token n small = let numeral = decimal_is_IsNumeral n small in record { some = numeral.0.0; plain = plain_digits (decimal n) numeral.0.1 }

behind-token : (c : ℕ) (t : List ℕ) → is_plain c ≡ true → IsToken t → IsToken (c ∷ t)
behind-token c t e h = record { some = omega arith; plain = rw e h.plain }

pub register-token : (r : ℕ) → r ≤ 10 → IsToken (register r)
register-token r le = behind-token 114 (decimal r) refl (decimal-token r (omega arith))

pub signed-token : (z : ℤ) → IsSmall z → IsToken (signed_decimal z)
signed-token (pos n) h = decimal-token n h
signed-token (negsuc n) h = behind-token 45 (decimal (suc n)) refl (decimal-token (suc n) h)

pub with_sign-token : (z : ℤ) → IsSmall z → IsToken (with_sign z)
with_sign-token (pos n) h = behind-token 43 (decimal n) refl (decimal-token n h)
with_sign-token (negsuc n) h = signed-token (negsuc n) h

pub source-token : (s : Source) → IsSource s → IsToken (source s)
source-token (sources.Reg r) h = register-token r h
source-token (sources.Imm z) h = signed-token z (small_32 z h)

pub address-token : (base : ℕ) (off : ℤ) → base ≤ 10 → FitsSigned w16 off → IsToken (address base off)
address-token base off le h =
    record { some = omega arith; plain = list_all-append is_plain (register base) (with_sign off ++ (93 ∷ [])) (register-token base le).plain (list_all-append is_plain (with_sign off) (93 ∷ []) (with_sign-token off (small_16 off h)).plain refl) }
