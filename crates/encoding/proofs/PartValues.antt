-- The value of a part spells the bytes that it is written of.
use Rattle.std.proofs.Common.{◌≡◌, inl, inr, ℕ, zero, suc, ◌+◌, ◌-◌, ◌*◌, ◌/◌, ◌%◌, ◌^◌, ◌<◌, ◌≤◌, Bool, true, false, cond, ltb, ℤ, pos, negsuc, List, [], ◌∷◌, length, decimal, Some, refl, sym, ap, ap₂, ◌∙◌, subst, arith}
use Rattle.std.specs.Prelude.{neg_ℤ, ◌≤ℤ◌, ◌<ℤ◌, ◌-ℤ◌}
use Rattle.std.specs.Char.{is_digit, digit_value}
use Rattle.std.specs.Fmt.{signed_decimal}
use Rattle.std.specs.Int.{byte_at, bytes_low_first}
use Rattle.std.specs.Str.Parse.{AllDigits}
use Rattle.std.proofs.Math.Nat.{div-div-eq-div-mul, pow-succ'}
use Rattle.std.proofs.lemmas.Bool.{and_from, lt-ltb, ltb-true, ltb-false}
use Rattle.std.proofs.lemmas.Fmt.{decimal_is_IsNumeral}
use Rattle.std.proofs.lemmas.Int.{ints}
use Rattle.byteorder.specs.Endian.{little_bytes, little_number, twos_complement}
use Rattle.byteorder.specs.Numbers.{length-bytes_low_first, little_from-cons, little_from-lt}
use Rattle.byteorder.proofs.Bytes.{pow256}
use Rattle.hex.specs.Hex.{IsBytes}
use Rattle.hex.proofs.HexLemmas.{decode_of-encode_lower}
use Rattle.text.specs.Digits.{good}
use Rattle.encoding.specs.declared.kinds.Kind.{Kind}
use Rattle.encoding.specs.declared.kinds.Kind.TheVariants as kinds
use Rattle.encoding.specs.declared.layouts.Part.{Part}
use Rattle.encoding.specs.declared.layouts.Part.TheVariants.{U8, U16, U32, U64, S8, S16, S32, S64, Bytes}
use Rattle.encoding.specs.Calls.{AreDigits, IsValue}
use Rattle.encoding.specs.Decoded.{field_text, part_kind, part_size, signed_text, unsigned_text, value_text}
use Rattle.encoding.specs.Laws.{IsSize, IsSignedOf}
use Rattle.encoding.specs.Values.{are_digits, bits_of, kind_name, kind_named, number_bytes, number_of, signed_bytes, spelled, unsigned_bytes}
use Rattle.encoding.proofs.ArgumentBytes.{are_to, low_bytes}
use Rattle.encoding.proofs.NumberTexts.{numbers_are_spelled, signed_are_taken, unsigned_are_taken}
use Rattle.encoding.proofs.ReadBack.{signed_back}

-- ---- bytes of a number that bytes say

-- a byte below moves the places on
moved_byte : (j b y : ℕ) → b < 256 → byte_at (suc j) (b + 256 * y) ≡ byte_at j y
moved_byte zero b y small = omega (arith, small)
moved_byte (suc i) b y small =
    let whole : (b + 256 * y) / 256 ≡ y = omega (arith, small) in
    ap (λ (p : ℕ). (b + 256 * y) / p % 256) (pow-succ' 256 (suc i))
    ∙ ap (λ (q : ℕ). q % 256) (sym (div-div-eq-div-mul (b + 256 * y) 256 (256 ^ suc i)))
    ∙ ap (λ (q : ℕ). q / 256 ^ suc i % 256) whole

moved : (n j b y : ℕ) → b < 256 → bytes_low_first (suc j) n (b + 256 * y) ≡ bytes_low_first j n y
moved zero j b y small = refl
moved (suc n) j b y small = ap₂ (λ u v. u ∷ v) (moved_byte j b y small) (moved n (suc j) b y small)

little_back : (bs : List ℕ) → IsBytes bs → little_bytes (length bs) (little_number (length bs) bs) ≡ bs
little_back [] h = refl
little_back (b ∷ bs) h =
    let small : b < 256 = h 0 in
    let y = little_number (length bs) bs in
    let x : little_number (length (b ∷ bs)) (b ∷ bs) ≡ b + 256 * y = ap (λ (r : ℕ). b + 256 * r) (little_from-cons 0 (length bs) b bs) in
    let low : (b + 256 * y) % 256 ≡ b = omega (arith, small) in
    ap (little_bytes (suc (length bs))) x
    ∙ ap₂ (λ u v. u ∷ v) low (moved (length bs) 0 b y small ∙ little_back bs (λ i. h (suc i)))

-- ---- decimals

all_back : (ds : List ℕ) → AllDigits 10 ds → are_digits 10 ds ≡ true
all_back [] all = refl
all_back (c ∷ cs) all = and_from (is_digit c 10) (are_digits 10 cs) (lt-ltb (digit_value c) 10 all.0) (all_back cs all.1)

digits : (n : ℕ) → n < 2 ^ 64 → AreDigits 10 (decimal n) n
digits n small = let is = decimal_is_IsNumeral n small in record { some = is.0.0; each = all_back (decimal n) is.0.1; value = is.1; small = small }

unsigned_says : (n : ℕ) → n < 2 ^ 64 → number_of (decimal n) ≡ Some (pos n)
unsigned_says n small = (numbers_are_spelled (decimal n) (pos n)).1 (inl (n, refl, inl (digits n small)))

signed_says : (z : ℤ) → neg_ℤ (pos (2 ^ 63)) ≤ℤ z → z <ℤ pos (2 ^ 63) → number_of (signed_decimal z) ≡ Some z
signed_says (pos n) least most = unsigned_says n (omega (arith, ints, most))
signed_says (negsuc m) least most =
    let small : suc m < 2 ^ 64 = omega (arith, ints, least) in
    (numbers_are_spelled (45 ∷ decimal (suc m)) (negsuc m)).1 (inr (suc m, decimal (suc m), refl, refl, inl (digits (suc m) small)))

-- ---- numbers

below : (bs : List ℕ) → IsBytes bs → little_number (length bs) bs < 2 ^ (8 * length bs)
below bs h = subst (λ m. little_number (length bs) bs < m) (pow256 (length bs)) (little_from-lt 0 (length bs) bs h)

unsigned : (n : ℕ) (bs : List ℕ) → length bs ≡ n → IsBytes bs → 2 ^ (8 * n) ≤ 2 ^ 64 → unsigned_bytes n (unsigned_text bs) ≡ Some bs
unsigned n bs size h few =
    subst (λ k. 2 ^ (8 * k) ≤ 2 ^ 64 → unsigned_bytes k (unsigned_text bs) ≡ Some bs) size by few
  where
    by : 2 ^ (8 * length bs) ≤ 2 ^ 64 → unsigned_bytes (length bs) (unsigned_text bs) ≡ Some bs
    by most =
        let x = little_number (length bs) bs in
        let small = below bs h in
        unsigned_are_taken (length bs) x (decimal x) (unsigned_says x (omega (arith, small, most))) small ∙ ap Some (little_back bs h)

twos_alike : (u v half : ℕ) → u < half + half → v < half + half
    → cond (ltb u half) (pos u) (pos u -ℤ pos (half + half)) ≡ cond (ltb v half) (pos v) (pos v -ℤ pos (half + half)) → u ≡ v
twos_alike u v half lu lv = by (ltb u half) (ltb v half) (ltb-true u half) (ltb-true v half)
  where
    by : (a b : Bool) → (a ≡ true → u < half) → (b ≡ true → v < half) → cond a (pos u) (pos u -ℤ pos (half + half)) ≡ cond b (pos v) (pos v -ℤ pos (half + half)) → u ≡ v
    by true true p q e = omega (arith, ints, e)
    by true false p q e = absurd (omega (arith, ints, e, lv))
    by false true p q e = absurd (omega (arith, ints, e, lu))
    by false false p q e = omega (arith, ints, e)

module _ (n : ℕ) (size : IsSize n) (half : ℕ) (is_half : 2 ^ (8 * n - 1) ≡ half) (twice : 2 ^ (8 * n) ≡ half + half) (few : half ≤ 2 ^ 63) where
  twos_within : (u : ℕ) → u < half + half → (neg_ℤ (pos half) ≤ℤ cond (ltb u half) (pos u) (pos u -ℤ pos (half + half))) × (cond (ltb u half) (pos u) (pos u -ℤ pos (half + half)) <ℤ pos half)
  twos_within u lt = by (ltb u half) (ltb-true u half) (ltb-false u half)
    where
      by : (a : Bool) → (a ≡ true → u < half) → (a ≡ false → half ≤ u) → (neg_ℤ (pos half) ≤ℤ cond a (pos u) (pos u -ℤ pos (half + half))) × (cond a (pos u) (pos u -ℤ pos (half + half)) <ℤ pos half)
      by true p q = let small = p refl in (omega (arith, ints), omega (arith, ints, small))
      by false p q = let large = q refl in (omega (arith, ints, large, lt), omega (arith, ints, large, lt))

  twos_is : (u : ℕ) → twos_complement n u ≡ cond (ltb u half) (pos u) (pos u -ℤ pos (half + half))
  twos_is u = rw (is_half, twice) refl

  signed_of : (bs : List ℕ) → length bs ≡ n → IsBytes bs → signed_bytes n (signed_decimal (twos_complement n (little_number n bs))) ≡ Some bs
  signed_of bs long h =
      let u = little_number n bs in
      let z = twos_complement n u in
      let lt : u < half + half = subst (λ m. u < m) twice (subst (λ k. little_number k bs < 2 ^ (8 * k)) long (below bs h)) in
      let within : (neg_ℤ (pos half) ≤ℤ z) × (z <ℤ pos half) = subst (λ (y : ℤ). (neg_ℤ (pos half) ≤ℤ y) × (y <ℤ pos half)) (sym (twos_is u)) (twos_within u lt) in
      let fits : IsSignedOf n z = subst (λ m. (neg_ℤ (pos m) ≤ℤ z) × (z <ℤ pos m)) (sym is_half) within in
      let least : neg_ℤ (pos (2 ^ 63)) ≤ℤ z = (let low = within.0 in omega (arith, ints, low, few)) in
      let most : z <ℤ pos (2 ^ 63) = (let high = within.1 in omega (arith, ints, high, few)) in
      let cs = number_bytes n z in
      let count : length cs ≡ n = length-bytes_low_first 0 n (bits_of z) in
      let bytes : IsBytes cs = are_to cs (low_bytes 0 n (bits_of z)) in
      let v = little_number n cs in
      let small : v < half + half = subst (λ m. v < m) twice (subst (λ k. little_number k cs < 2 ^ (8 * k)) count (below cs bytes)) in
      let same : u ≡ v = twos_alike u v half lt small (sym (twos_is u) ∙ sym (signed_back n z size fits.0 fits.1) ∙ twos_is v) in
      let back : (ds : List ℕ) → length ds ≡ n → IsBytes ds → little_bytes n (little_number n ds) ≡ ds = λ ds e k. subst (λ (m : ℕ). little_bytes m (little_number m ds) ≡ ds) e (little_back ds k) in
      let is : cs ≡ bs = sym (back cs count bytes) ∙ ap (little_bytes n) (sym same) ∙ back bs long h in
      signed_are_taken n z (signed_decimal z) (signed_says z least most) fits ∙ ap Some is

  signed : (bs : List ℕ) → length bs ≡ n → IsBytes bs → signed_bytes n (signed_text bs) ≡ Some bs
  signed bs long h = subst (λ (k : ℕ). signed_bytes n (signed_decimal (twos_complement k (little_number k bs))) ≡ Some bs) (sym long) (signed_of bs long h)

-- ---- values

pub part_spelled : (p : Part) (bs : List ℕ) → length bs ≡ part_size p → IsBytes bs → spelled (part_kind p) (field_text p bs) ≡ Some bs
unfolding spelled
part_spelled U8 bs long h = unsigned 1 bs long h (omega arith)
part_spelled U16 bs long h = unsigned 2 bs long h (omega arith)
part_spelled U32 bs long h = unsigned 4 bs long h (omega arith)
part_spelled U64 bs long h = unsigned 8 bs long h (omega arith)
part_spelled S8 bs long h = signed 1 (inl refl) (2 ^ 7) refl refl (omega arith) bs long h
part_spelled S16 bs long h = signed 2 (inr (inl refl)) (2 ^ 15) refl refl (omega arith) bs long h
part_spelled S32 bs long h = signed 4 (inr (inr (inl refl))) (2 ^ 31) refl refl (omega arith) bs long h
part_spelled S64 bs long h = signed 8 (inr (inr (inr refl))) (2 ^ 63) refl refl (omega arith) bs long h
part_spelled (Bytes count) bs long h = ap good (decode_of-encode_lower bs h)

pub named : (k : Kind) → kind_named (kind_name k) ≡ Some k
unfolding kind_named
named kinds.U8 = refl
named kinds.U16 = refl
named kinds.U32 = refl
named kinds.U64 = refl
named kinds.S8 = refl
named kinds.S16 = refl
named kinds.S32 = refl
named kinds.S64 = refl
named kinds.Str = refl
named kinds.Hex = refl

pub is_value : (p : Part) (bs : List ℕ) → length bs ≡ part_size p → IsBytes bs → IsValue (value_text p bs) bs
is_value p bs long h = record {
  kind = part_kind p;
  name = kind_name (part_kind p);
  field = field_text p bs;
  split = refl;
  named = named (part_kind p);
  value = part_spelled p bs long h;
}
