-- What parse reads of a numeral.
use Rattle.std.proofs.Common.{◌≡◌, ◌≢◌, ℕ, ◌^◌, ◌<◌, ◌≤◌, Bool, true, false, cond, ltb, ◌&&◌, List, [], ◌∷◌, length, get_or, Some, None, Result, Ok, Err, refl, ap, arith}
use Rattle.std.specs.Result.{OkIff, result_ok}
use Rattle.std.specs.Str.{all_ascii_digits}
use Rattle.std.specs.Str.Parse.{ParsesUnsigned, digits_value}
use Rattle.std.proofs.lemmas.Bool.{lt-ltb, le-ltb}
use Rattle.std.proofs.lemmas.Str.Parse.{IsNumeralModel, numerals_by_value, tells_all_ascii_digits, parse_plain}
use Rattle.text.specs.Words.{starts_plain, number_of}

pub own : IsNumeralModel (λ ds. all_ascii_digits ds ≡ true) (digits_value 10)
own = numerals_by_value _ tells_all_ascii_digits

by_cases : {E : Type 0} (r : Result ℕ E) (d : Bool) (v n : ℕ) → OkIff r ((d ≡ true) × (0 < n) × (v < 2 ^ 64)) v → 0 < n → result_ok r ≡ cond (d && ltb v (2 ^ 64)) (Some v) None
by_cases (Ok x) d v n h pos =
    let small : ltb v (2 ^ 64) ≡ true = lt-ltb _ _ h.0.2 in
    rw (h.0.0, small) (ap Some h.1)
by_cases (Err e) true v n h pos =
    let large : 2 ^ 64 ≤ v = omega (arith, λ (s : v < 2 ^ 64). h (refl, pos, s)) in
    let off : ltb v (2 ^ 64) ≡ false = le-ltb _ _ large in
    rw off refl
by_cases (Err e) false v n h pos = refl

pub number_from_parse : {E : Type 0} (bs : List ℕ) (r : Result ℕ E) → ParsesUnsigned 64 10 bs r → starts_plain bs ≡ true → 0 < length bs → get_or bs 0 0 ≢ 43 → result_ok r ≡ number_of bs
unfolding number_of
number_from_parse bs r parsed plain pos no_plus =
    rw plain (by_cases r (all_ascii_digits bs) (digits_value 10 bs) (length bs) (parse_plain own 64 bs r parsed no_plus) pos)

pub plain_nonempty : (bs : List ℕ) → starts_plain bs ≡ true → 0 < length bs
plain_nonempty [] e = absurd cc
plain_nonempty (b ∷ bs) e = omega arith
