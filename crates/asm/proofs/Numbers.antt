-- Digits and the numbers that they say.
use Rattle.std.proofs.Common.{◌≡◌, ℕ, ◌-◌, ◌^◌, ◌<◌, ◌≤◌, true, false, eqb, ℤ, pos, List, [], ◌∷◌, length, Result, Ok, Err, refl, ap, subst, arith, FitsSigned}
use Rattle.std.specs.Int.{w128}
use Rattle.std.specs.Char.{digit_value}
use Rattle.std.specs.Result.{result_unwrap_or, OkIff}
use Rattle.std.specs.Str.Parse.{AllDigits, digits_value, ParsesSigned, IsNumeral, without_leading_sign, signed_digits_value}
use Rattle.std.proofs.lemmas.Bool.{lt-ltb, le-ltb, ne_eqb}
use Rattle.text.proofs.Export.{all_digits}
use Rattle.asm.specs.Operands.{are_digits, capped, magnitude_of}

-- a digit is no sign
no_plus : (c radix : ℕ) → digit_value c < radix → radix ≤ 36 → eqb c 43 ≡ false
no_plus c radix h most = ne_eqb c 43 (λ e. let lt : digit_value 43 < radix = subst (λ x. digit_value x < radix) e h in absurd (omega arith))

no_minus : (c radix : ℕ) → digit_value c < radix → radix ≤ 36 → eqb c 45 ≡ false
no_minus c radix h most = ne_eqb c 45 (λ e. let lt : digit_value 45 < radix = subst (λ x. digit_value x < radix) e h in absurd (omega arith))

no_sign : (radix c : ℕ) (cs : List ℕ) → AllDigits radix (c ∷ cs) → radix ≤ 36 → (without_leading_sign (c ∷ cs) ≡ c ∷ cs) × (signed_digits_value radix (c ∷ cs) ≡ pos (digits_value radix (c ∷ cs)))
no_sign radix c cs all most =
    let plus = no_plus c radix all.0 most in
    let minus = no_minus c radix all.0 most in
    (rw (minus, plus) refl, rw (minus, plus) refl)

by_result : {E : Type 0} (r : Result ℤ E) (P : Type 0) (n : ℕ) → P → OkIff r (P × FitsSigned w128 (pos n)) (pos n) → result_unwrap_or r (pos (2 ^ 127 - 1)) ≡ pos (capped n)
by_result (Ok x) P n p h =
    let small : n < 2 ^ 127 = h.0.1.sfits in
    rw (lt-ltb n (2 ^ 127) small) h.1
by_result (Err e) P n p h =
    let large : 2 ^ 127 ≤ n = omega (arith, λ (small : n < 2 ^ 127). h (p, record { sfits = small })) in
    rw (le-ltb n (2 ^ 127) large) refl

-- what parse reads of digits, or else the largest number, is their magnitude
pub magnitude_from_parse : {E : Type 0} (radix : ℕ) (ds : List ℕ) (r : Result ℤ E) → radix ≤ 36 → are_digits radix ds ≡ true → 0 < length ds → ParsesSigned w128 radix ds r → Ok (result_unwrap_or r (pos (2 ^ 127 - 1))) ≡ magnitude_of radix ds
unfolding magnitude_of
magnitude_from_parse radix [] r most e some h = absurd (omega arith)
magnitude_from_parse {E} radix (c ∷ cs) r most e some h =
    let all = all_digits radix (c ∷ cs) e in
    let plain = no_sign radix c cs all most in
    let P : List ℕ → ℤ → Type 0 = λ bs z. OkIff r (IsNumeral radix bs × FitsSigned w128 z) z in
    let parsed : P (c ∷ cs) (pos (digits_value radix (c ∷ cs))) = subst (λ z. P (c ∷ cs) z) plain.1 (subst (λ bs. P bs (signed_digits_value radix (c ∷ cs))) plain.0 h) in
    rw (e, lt-ltb 0 (length (c ∷ cs)) some) (ap Ok (by_result r (IsNumeral radix (c ∷ cs)) (digits_value radix (c ∷ cs)) (some, all) parsed))
