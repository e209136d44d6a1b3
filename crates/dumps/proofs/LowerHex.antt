-- Bytes as digits in lower case, and back.
use Rattle.std.proofs.Common.{◌≡◌, ℕ, zero, suc, ◌+◌, ◌*◌, ◌/◌, ◌%◌, ◌<◌, ◌≤◌, inl, inr, Bool, true, false, cond, eqb, ltb, leb, ◌&&◌, List, [], ◌∷◌, length, get_or, codes, bytes_eq, Option, Some, None, Result, Ok, Err, refl, sym, ap, ap₂, ◌∙◌, arith}
use Rattle.std.specs.List.{list_all}
use Rattle.std.specs.Result.{result_unwrap_or}
use Rattle.std.proofs.lemmas.Bool.{and_parts, cases_lt, eqb-true, le-leb, leb-true, ne_eqb}
use Rattle.std.proofs.lemmas.Bool.Decides.{nat_tests}
use Rattle.std.proofs.lemmas.Slice.Eq.{bytes_eq-Decides}
use Rattle.hex.specs.declared.error.FromHexError.{FromHexError}
use Rattle.hex.specs.Hex.{IsBytes, decode_of, decode_pairs, digit_or_error, hex_digit_value, encode_lower, encode_with, lower_digits, pair_value, value_at, ◌>>=◌}
use Rattle.hex.proofs.HexLemmas.{decode_of-ok, decode_of-even, decode_of-encode_lower, length-encode_with}
use Rattle.text.specs.Digits.{good, field_bytes}
use Rattle.text.proofs.Export.{if_true}
use Rattle.dumps.specs.Grammar.{is_lower_digit, lower_bytes}

-- ---- the sixteen digits

-- the digit of a value
digit : ℕ → ℕ
digit d = cond (ltb d 10) (48 + d) (87 + d)

same_at : ℕ → Bool
same_at d = eqb (get_or lower_digits d 0) (digit d)

all_same : ℕ → Bool
all_same zero = true
all_same (suc n) = same_at n && all_same n

each_same : (n d : ℕ) → all_same n ≡ true → d < n → get_or lower_digits d 0 ≡ digit d
unfolding all_same same_at
each_same zero d h lt = absurd (omega arith)
each_same (suc n) d h lt =
    let parts = and_parts (same_at n) (all_same n) h in
    elim (cases_lt d n) [
      | inl below ↦ each_same n d parts.1 below
      | inr top ↦
          let e : d ≡ n = omega arith in
          rw e (eqb-true _ _ parts.0)
    ]

digit_at : (d : ℕ) → d < 16 → get_or lower_digits d 0 ≡ digit d
unfolding all_same same_at digit
digit_at d lt = each_same 16 d refl lt

-- what a digit in lower case reads as is spelled by that digit
digit_back : (c v : ℕ) → is_lower_digit c ≡ true → hex_digit_value c ≡ Some v → (digit v ≡ c) × (v < 16)
unfolding digit
digit_back c v lower read = grind (arith, nat_tests)

digit_is_lower : (d : ℕ) → d < 16 → is_lower_digit (digit d) ≡ true
unfolding digit
digit_is_lower d lt = grind (arith, nat_tests)

-- ---- pairs

bound : {A B : Type 0} (r : Result A FromHexError) (f : A → Result B FromHexError) (y : B) → (r >>= f) ≡ Ok y → (x : A) × (r ≡ Ok x) × (f x ≡ Ok y)
bound (Ok x) f y h = (x, refl, h)
bound (Err e) f y h = absurd cc

digit_read : (c i : ℕ) (o : Option ℕ) (v : ℕ) → digit_or_error c i o ≡ Ok v → o ≡ Some v
digit_read c i (Some w) v h = cc
digit_read c i None v h = absurd cc

high_of : (h l b : ℕ) → h < 16 → l < 16 → h * 16 + l ≡ b → (b / 16 ≡ h) × (b % 16 ≡ l)
high_of h l b p q e = (omega arith, omega arith)

pairs_back : (i : ℕ) (s bytes : List ℕ) → list_all is_lower_digit s ≡ true → decode_pairs i s ≡ Ok bytes → s ≡ encode_lower bytes
unfolding decode_pairs encode_with
pairs_back i [] bytes lower h =
    let e : [] ≡ bytes = ap (λ (r : Result (List ℕ) FromHexError). result_unwrap_or r []) h in
    rw (← e) refl
pairs_back i (a ∷ []) bytes lower h = absurd cc
pairs_back i (a ∷ b ∷ rest) bytes lower h =
    let pair = bound (pair_value a b i) _ bytes h in
    let high = bound (value_at a i) _ pair.0 pair.1 in
    let low = bound (value_at b (i + 1)) _ pair.0 high.2 in
    let behind = bound (decode_pairs (i + 2) rest) _ bytes pair.2 in
    let la = and_parts (is_lower_digit a) _ lower in
    let lb = and_parts (is_lower_digit b) (list_all is_lower_digit rest) la.1 in
    let va = digit_back a high.0 la.0 (digit_read a i (hex_digit_value a) high.0 high.1) in
    let vb = digit_back b low.0 lb.0 (digit_read b (i + 1) (hex_digit_value b) low.0 low.1) in
    let byte : high.0 * 16 + low.0 ≡ pair.0 = ap (λ (r : Result ℕ FromHexError). result_unwrap_or r 0) low.2 in
    let whole : pair.0 ∷ behind.0 ≡ bytes = ap (λ (r : Result (List ℕ) FromHexError). result_unwrap_or r []) behind.2 in
    let halves = high_of high.0 low.0 pair.0 va.1 vb.1 byte in
    let ea : a ≡ get_or lower_digits (pair.0 / 16) 0 = rw halves.0 (sym va.0 ∙ sym (digit_at high.0 va.1)) in
    let eb : b ≡ get_or lower_digits (pair.0 % 16) 0 = rw halves.1 (sym vb.0 ∙ sym (digit_at low.0 vb.1)) in
    let ih = pairs_back (i + 2) rest behind.0 lb.1 behind.1 in
    rw (← whole) (ap₂ (λ u v. u ∷ v) ea (ap₂ (λ u v. u ∷ v) eb ih))

pub lower_all : (bytes : List ℕ) → IsBytes bytes → list_all is_lower_digit (encode_lower bytes) ≡ true
unfolding encode_with
lower_all [] h = refl
lower_all (b ∷ bytes) h =
    let fits : b < 256 = h 0 in
    let high : is_lower_digit (get_or lower_digits (b / 16) 0) ≡ true = rw (digit_at (b / 16) (omega arith)) (digit_is_lower (b / 16) (omega arith)) in
    let low : is_lower_digit (get_or lower_digits (b % 16) 0) ≡ true = rw (digit_at (b % 16) (omega arith)) (digit_is_lower (b % 16) (omega arith)) in
    rw (high, low, lower_all bytes (λ k. h (suc k))) refl

-- ---- fields

good_ok : (r : Result (List ℕ) FromHexError) (bytes : List ℕ) → good r ≡ Some bytes → r ≡ Ok bytes
good_ok (Ok x) bytes h = cc
good_ok (Err e) bytes h = absurd cc

no_dash : (field : List ℕ) → list_all is_lower_digit field ≡ true → bytes_eq field (codes "-") ≡ true → ⊥
no_dash field lower is =
    let e : field ≡ codes "-" = (bytes_eq-Decides field (codes "-")).0 is in
    let wrong : list_all is_lower_digit (codes "-") ≡ true = rw e at lower in
    cc wrong

not_empty : (field : List ℕ) → 0 < length field → eqb (length field) 0 ≡ false
not_empty field some = ne_eqb (length field) 0 (λ e. omega (arith, some, e))

long : (dash : Bool) (field : List ℕ) (o : Option (List ℕ)) → (dash ≡ true → ⊥) → 0 < length field → cond dash (Some []) (cond (eqb (length field) 0) None o) ≡ o
long true field o never some = absurd (never refl)
long false field o never some = rw (not_empty field some) refl

some_left : (dash : Bool) (field : List ℕ) (o : Option (List ℕ)) (bytes : List ℕ) → (dash ≡ true → ⊥) → cond dash (Some []) (cond (eqb (length field) 0) None o) ≡ Some bytes → o ≡ Some bytes
some_left true field o bytes never h = absurd (never refl)
some_left false [] o bytes never h = absurd cc
some_left false (x ∷ xs) o bytes never h = sym (long false (x ∷ xs) o never (omega arith)) ∙ h

pub lower_from : (most : ℕ) (field bytes : List ℕ) → lower_bytes most field ≡ Some bytes → (field ≡ encode_lower bytes) × IsBytes bytes × (length bytes ≤ most)
unfolding lower_bytes field_bytes
lower_from most field bytes h =
    let first = if_true (leb (length field) (2 * most) && list_all is_lower_digit field) (field_bytes field) bytes h in
    let lower = and_parts (leb (length field) (2 * most)) (list_all is_lower_digit field) first.0 in
    let read = good_ok (decode_of field) bytes (some_left (bytes_eq field (codes "-")) field (good (decode_of field)) bytes (no_dash field lower.1) first.1) in
    let ok = decode_of-ok field bytes read in
    let spelled = pairs_back 0 field bytes lower.1 (sym (decode_of-even field ok.0) ∙ read) in
    let few = leb-true (length field) (2 * most) lower.0 in
    (spelled, ok.3, omega (arith, few, ap length spelled, length-encode_with lower_digits bytes))

pub lower_to : (most : ℕ) (bytes : List ℕ) → IsBytes bytes → 0 < length bytes → length bytes ≤ most → lower_bytes most (encode_lower bytes) ≡ Some bytes
unfolding lower_bytes field_bytes
lower_to most bytes are some few =
    let size : length (encode_lower bytes) ≡ 2 * length bytes = length-encode_with lower_digits bytes in
    let lower = lower_all bytes are in
    let fits : leb (length (encode_lower bytes)) (2 * most) ≡ true = le-leb _ _ (omega (arith, size, few)) in
    let read : good (decode_of (encode_lower bytes)) ≡ Some bytes = ap good (decode_of-encode_lower bytes are) in
    rw (fits, lower) (long (bytes_eq (encode_lower bytes) (codes "-")) (encode_lower bytes) (good (decode_of (encode_lower bytes))) (no_dash (encode_lower bytes) lower) (omega (arith, size, some)) ∙ read)
