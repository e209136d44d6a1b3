-- Digits and the numbers that they say.
use Rattle.std.specs.Prelude.{if◌then◌else◌}
use Rattle.std.proofs.Common.{◌≡◌, ◌≢◌, ℕ, ◌^◌, ◌<◌, ◌≤◌, true, ltb, List, [], ◌∷◌, length, get_or, Some, None, Result, Ok, Err, refl, ap, subst, arith}
use Rattle.std.specs.Char.{digit_value}
use Rattle.std.specs.Result.{OkIff, result_ok}
use Rattle.std.specs.Str.Parse.{AllDigits, digits_value, ParsesUnsigned, IsNumeral, without_leading_plus}
use Rattle.std.proofs.lemmas.Bool.{lt-ltb, le-ltb}
use Rattle.std.proofs.lemmas.Str.Parse.{without_leading_plus_none}
use Rattle.text.proofs.Export.{all_digits}
use Rattle.encoding.specs.Values.{are_digits, magnitude_of}

-- a digit is no plus
no_plus : (radix c : ℕ) (cs : List ℕ) → AllDigits radix (c ∷ cs) → radix ≤ 36 → get_or (c ∷ cs) 0 0 ≢ 43
no_plus radix c cs all most e = let lt : digit_value 43 < radix = subst (λ x. digit_value x < radix) e all.0 in absurd (omega arith)

by_result : {E : Type 0} (r : Result ℕ E) (P : Type 0) (n : ℕ) → P → OkIff r (P × (n < 2 ^ 64)) n → result_ok r ≡ (if ltb n (2 ^ 64) then Some n else None)
by_result (Ok x) P n p h = rw (lt-ltb n (2 ^ 64) h.0.1) (ap Some h.1)
by_result (Err e) P n p h =
    let large : 2 ^ 64 ≤ n = omega (arith, λ (small : n < 2 ^ 64). h (p, small)) in
    rw (le-ltb n (2 ^ 64) large) refl

-- what parse reads of digits is their number, where it is below 2^64
pub magnitude_from_parse : {E : Type 0} (radix : ℕ) (ds : List ℕ) (r : Result ℕ E) → radix ≤ 36 → are_digits radix ds ≡ true → 0 < length ds → ParsesUnsigned 64 radix ds r → result_ok r ≡ magnitude_of radix ds
unfolding magnitude_of
magnitude_from_parse radix [] r most e some h = absurd (omega arith)
magnitude_from_parse {E} radix (c ∷ cs) r most e some h =
    let all = all_digits radix (c ∷ cs) e in
    let plain : without_leading_plus (c ∷ cs) ≡ c ∷ cs = without_leading_plus_none (c ∷ cs) (no_plus radix c cs all most) in
    let parsed : OkIff r (IsNumeral radix (c ∷ cs) × (digits_value radix (c ∷ cs) < 2 ^ 64)) (digits_value radix (c ∷ cs)) =
    subst (λ bs. OkIff r (IsNumeral radix bs × (digits_value radix bs < 2 ^ 64)) (digits_value radix bs)) plain h in
    rw (e, lt-ltb 0 (length (c ∷ cs)) some) (by_result r (IsNumeral radix (c ∷ cs)) (digits_value radix (c ∷ cs)) (some, all) parsed)
