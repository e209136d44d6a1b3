-- A numeral is the decimal of its number, and of no other.
use Rattle.std.proofs.Common.{◌≡◌, ℕ, zero, suc, ◌^◌, ◌<◌, Bool, true, false, cond, ltb, ◌&&◌, List, length, get_or, Some, None, refl, sym, ap, ◌∙◌, arith, decimal, lit<}
use Rattle.std.specs.Str.{all_ascii_digits}
use Rattle.std.specs.Str.Parse.{digits_value}
use Rattle.std.proofs.lemmas.Bool.{lt-ltb, ltb-true}
use Rattle.std.proofs.lemmas.Bool.Decides.{nat_tests}
use Rattle.std.proofs.lemmas.Fmt.{decimal-digits_value, digits_decimal, digits_value-decimal, decimal_nonempty, decimal_digit, first_decimal}
use Rattle.text.specs.Words.{starts_plain, number_of}
use Rattle.text.proofs.Numbers.{own, plain_nonempty}

chosen : (a b c : Bool) (v n : ℕ) → cond (a && b && c) (Some v) None ≡ Some n → (a ≡ true) × (b ≡ true) × (c ≡ true) × (v ≡ n)
chosen true true true v n e = (refl, refl, refl, cc)
chosen true true false v n e = absurd cc
chosen true false c v n e = absurd cc
chosen false b c v n e = absurd cc

plain_first : (bs : List ℕ) → starts_plain bs ≡ true → get_or bs 0 0 ≡ 48 → length bs ≡ 1
plain_first bs e z = grind (arith, nat_tests)

is_decimal : (text : List ℕ) (n : ℕ) → number_of text ≡ Some n → (text ≡ decimal n) × (n < 2 ^ 64)
unfolding number_of
is_decimal text n e =
    let parts = chosen (starts_plain text) (all_ascii_digits text) (ltb (digits_value 10 text) (2 ^ 64)) (digits_value 10 text) n e in
    let small : digits_value 10 text < 2 ^ 64 = ltb-true _ _ parts.2 in
    let same : decimal (digits_value 10 text) ≡ text = decimal-digits_value own text parts.1 (plain_nonempty text parts.0) (plain_first text parts.0) small in
    (sym same ∙ ap decimal parts.3, rw (← parts.3) small)

decimal_plain : (n : ℕ) → n < 2 ^ 64 → starts_plain (decimal n) ≡ true
decimal_plain zero small = rw (decimal_digit 0 (lit< tt)) refl
decimal_plain (suc n) small =
    let first : 48 < get_or (decimal (suc n)) 0 0 = first_decimal (suc n) (omega arith) small in
    let some : 0 < length (decimal (suc n)) = decimal_nonempty (suc n) small in
    plain_by (decimal (suc n)) first some
  where
    plain_by : (bs : List ℕ) → 48 < get_or bs 0 0 → 0 < length bs → starts_plain bs ≡ true
    plain_by bs first some = grind (arith, nat_tests)

of_decimal : (n : ℕ) → n < 2 ^ 64 → number_of (decimal n) ≡ Some n
unfolding number_of
of_decimal n small =
    let value : digits_value 10 (decimal n) ≡ n = digits_value-decimal own n small in
    let fits : ltb n (2 ^ 64) ≡ true = lt-ltb n (2 ^ 64) small in
    rw (decimal_plain n small, digits_decimal own n small, value, fits) refl

pub numerals_are_decimals : (text : List ℕ) (n : ℕ) → ((number_of text ≡ Some n) → (text ≡ decimal n) × (n < 2 ^ 64)) × ((text ≡ decimal n) × (n < 2 ^ 64) → number_of text ≡ Some n)
numerals_are_decimals text n = (is_decimal text n, λ h. ap number_of h.0 ∙ of_decimal n h.1)
