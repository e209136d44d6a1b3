-- Digits of a radix are ASCII, and so text.
use Rattle.std.proofs.Common.{◌≡◌, ℕ, ◌<◌, ◌≤◌, true, List, [], ◌∷◌, arith}
use Rattle.std.specs.Char.{digit_value, is_digit}
use Rattle.std.specs.List.{list_all}
use Rattle.std.specs.Str.{IsAscii, IsUtf8}
use Rattle.std.specs.Str.Parse.{AllDigits}
use Rattle.std.proofs.lemmas.Bool.{and_parts, ltb-true}
use Rattle.std.proofs.lemmas.Bool.Decides.{nat_tests}
use Rattle.std.proofs.lemmas.Str.{IsUtf8-from_ascii}
use Rattle.std.proofs.lemmas.Str.Ascii.{IsAscii-cons, IsAscii-nil}

digit_is_ascii : (c : ℕ) → digit_value c < 36 → c < 128
digit_is_ascii c h = grind (arith, nat_tests)

pub all_digits : (radix : ℕ) (ds : List ℕ) → list_all (λ c. is_digit c radix) ds ≡ true → AllDigits radix ds
all_digits radix [] e = tt
all_digits radix (c ∷ cs) e =
    let both = and_parts (is_digit c radix) (list_all (λ d. is_digit d radix) cs) e in
    (ltb-true (digit_value c) radix both.0, all_digits radix cs both.1)

digits_are_ascii : (radix : ℕ) (ds : List ℕ) → AllDigits radix ds → radix ≤ 36 → IsAscii ds
digits_are_ascii radix [] all most = IsAscii-nil
digits_are_ascii radix (c ∷ cs) all most = IsAscii-cons c cs (digit_is_ascii c (omega (arith, all.0))) (digits_are_ascii radix cs all.1 most)

pub digits_are_text : (radix : ℕ) (ds : List ℕ) → list_all (λ c. is_digit c radix) ds ≡ true → radix ≤ 36 → IsUtf8 ds
digits_are_text radix ds e most = IsUtf8-from_ascii ds (digits_are_ascii radix ds (all_digits radix ds e) most)
