-- A number's bytes, read back.
use Rattle.std.proofs.Common.{◌≡◌, inl, inr, ℕ, ◌+◌, ◌-◌, ◌*◌, ◌/◌, ◌%◌, ◌^◌, ◌<◌, true, false, ℤ, pos, negsuc, [], refl, sym, ap, subst, ◌∙◌, append-nil, arith}
use Rattle.std.specs.Prelude.{neg_ℤ, ◌≤ℤ◌, ◌<ℤ◌, ◌-ℤ◌, nat_lt}
use Rattle.std.specs.Int.{w64, cast_unsigned}
use Rattle.std.proofs.lemmas.Bool.{lt-ltb, le-ltb}
use Rattle.std.proofs.lemmas.Int.{ints}
use Rattle.byteorder.specs.Endian.{little_number, little_bytes, little_from, twos_complement}
use Rattle.byteorder.specs.Numbers.{little_number-reads_back, little_from-bytes}
use Rattle.byteorder.proofs.Bytes.{pow256}
use Rattle.encoding.specs.Values.{number_bytes}
use Rattle.encoding.specs.Laws.{IsSize}

pub unsigned_back : (n x : ℕ) → x < 2 ^ (8 * n) → little_number n (number_bytes n (pos x)) ≡ x
unsigned_back n x small =
    ap (little_from 0 n) (sym (append-nil (little_bytes n x))) ∙ little_number-reads_back n x [] (subst (λ m. x < m) (sym (pow256 n)) small)

-- ---- numbers with a sign

-- the lowest n bytes of negative numbers are what is left to 2^(8n)
abbrev HasLowBytes : ℕ → Type 0
HasLowBytes n = (m : ℕ) → m < 2 ^ (8 * n - 1) → little_number n (number_bytes n (negsuc m)) ≡ 2 ^ (8 * n) - 1 - m

low : (n m : ℕ) → little_number n (number_bytes n (negsuc m)) ≡ cast_unsigned w64 (negsuc m) / 256 ^ 0 % 256 ^ n
low n m = ap (little_from 0 n) (sym (append-nil (number_bytes n (negsuc m)))) ∙ little_from-bytes n 0 (cast_unsigned w64 (negsuc m)) []

low_8 : HasLowBytes 1
low_8 m small = omega (arith, ints, small, low 1 m)

low_16 : HasLowBytes 2
low_16 m small = omega (arith, ints, small, low 2 m)

low_32 : HasLowBytes 4
low_32 m small = omega (arith, ints, small, low 4 m)

low_64 : HasLowBytes 8
low_64 m small = omega (arith, ints, small, low 8 m)

below_zero : (m top : ℕ) → m < top → pos (top - 1 - m) -ℤ pos top ≡ negsuc m
below_zero m top h = omega (arith, ints, h)

module _ (n : ℕ) (twice : 2 ^ (8 * n) ≡ 2 ^ (8 * n - 1) + 2 ^ (8 * n - 1)) (low_bytes : HasLowBytes n) where
  back : (z : ℤ) → neg_ℤ (pos (2 ^ (8 * n - 1))) ≤ℤ z → z <ℤ pos (2 ^ (8 * n - 1)) → twos_complement n (little_number n (number_bytes n z)) ≡ z
  back (pos k) least most =
      let small : k < 2 ^ (8 * n - 1) = omega (arith, ints, most) in
      let same = unsigned_back n k (omega (arith, small, twice)) in
      let below : nat_lt k (2 ^ (8 * n - 1)) ≡ true = lt-ltb k (2 ^ (8 * n - 1)) small in
      rw (same, below) refl
  back (negsuc m) least most =
      let small : m < 2 ^ (8 * n - 1) = omega (arith, ints, least) in
      let above : nat_lt (2 ^ (8 * n) - 1 - m) (2 ^ (8 * n - 1)) ≡ false = le-ltb (2 ^ (8 * n) - 1 - m) (2 ^ (8 * n - 1)) (omega (arith, small, twice)) in
      rw (low_bytes m small, above) (below_zero m (2 ^ (8 * n)) (omega (arith, small, twice)))

pub signed_back : (n : ℕ) (z : ℤ) → IsSize n → neg_ℤ (pos (2 ^ (8 * n - 1))) ≤ℤ z → z <ℤ pos (2 ^ (8 * n - 1)) → twos_complement n (little_number n (number_bytes n z)) ≡ z
signed_back n z (inl is) = subst (λ k. neg_ℤ (pos (2 ^ (8 * k - 1))) ≤ℤ z → z <ℤ pos (2 ^ (8 * k - 1)) → twos_complement k (little_number k (number_bytes k z)) ≡ z) (sym is) (back 1 refl low_8 z)
signed_back n z (inr (inl is)) = subst (λ k. neg_ℤ (pos (2 ^ (8 * k - 1))) ≤ℤ z → z <ℤ pos (2 ^ (8 * k - 1)) → twos_complement k (little_number k (number_bytes k z)) ≡ z) (sym is) (back 2 refl low_16 z)
signed_back n z (inr (inr (inl is))) = subst (λ k. neg_ℤ (pos (2 ^ (8 * k - 1))) ≤ℤ z → z <ℤ pos (2 ^ (8 * k - 1)) → twos_complement k (little_number k (number_bytes k z)) ≡ z) (sym is) (back 4 refl low_32 z)
signed_back n z (inr (inr (inr is))) = subst (λ k. neg_ℤ (pos (2 ^ (8 * k - 1))) ≤ℤ z → z <ℤ pos (2 ^ (8 * k - 1)) → twos_complement k (little_number k (number_bytes k z)) ≡ z) (sym is) (back 8 refl low_64 z)
