-- The texts of numbers, and their bytes.
use Rattle.std.proofs.Common.{inl, inr, cond, ltb, drop, Option, None, ◌≡◌, ℕ, ◌-◌, ◌*◌, ◌^◌, ◌<◌, Bool, true, false, eqb, ◌&&◌, ℤ, pos, negsuc, List, [], ◌∷◌, length, get_or, Some, refl, sym, ap, ◌∙◌, subst, arith}
use Rattle.std.specs.Prelude.{neg_ℤ, ◌≤ℤ◌, ◌<ℤ◌, int_le, option_map}
use Rattle.std.specs.Char.{is_digit}
use Rattle.std.specs.Str.Parse.{digits_value}
use Rattle.std.proofs.lemmas.Bool.{ltb-true, eqb-true, and_parts, lt-ltb, ne_eqb, and_right}
use Rattle.std.proofs.lemmas.Int.{ints}
use Rattle.std.proofs.Math.Pow.{suc_ones}
use Rattle.std.proofs.lemmas.Option.{cond_some}
use Rattle.byteorder.specs.Endian.{little_number, twos_complement}
use Rattle.byteorder.specs.Numbers.{length-bytes_low_first}
use Rattle.text.proofs.Export.{steps}
use Rattle.encoding.specs.Calls.{AreDigits, NumbersAreSpelled, SpellsMagnitude, SpellsNumber, UnsignedAreReadBack, SignedAreReadBack, UnsignedHaveBytes, SignedHaveBytes}
use Rattle.encoding.specs.Values.{are_digits, bits_of, magnitude_of, number_bytes, number_of, number_within, unsigned_of}
use Rattle.encoding.proofs.ReadBack.{unsigned_back, signed_back}

-- ---- texts

-- the number of digits
magnitude : (radix : ℕ) (digits : List ℕ) (n : ℕ) → AreDigits radix digits n → magnitude_of radix digits ≡ Some n
unfolding magnitude_of
magnitude radix digits n are =
    let small : digits_value radix digits < 2 ^ 64 = subst (λ x. x < 2 ^ 64) (sym are.value) are.small in
    rw (lt-ltb 0 (length digits) are.some, are.each, lt-ltb (digits_value radix digits) (2 ^ 64) small) (ap Some are.value)

-- a digit of the radix is none of the bytes that are no digits of it
no_digit : (c d : ℕ) → (is_digit d 10 ≡ false) → is_digit c 10 ≡ true → eqb c d ≡ false
no_digit c d none is = ne_eqb c d (λ e. let other : is_digit d 10 ≡ true = subst (λ x. is_digit x 10 ≡ true) e is in cc)

second : (cs : List ℕ) → are_digits 10 cs ≡ true → eqb (get_or cs 0 0) 120 ≡ false
second [] h = refl
second (c ∷ cs) h = no_digit c 120 refl (and_parts (is_digit c 10) (are_digits 10 cs) h).0

unsigned_decimal : (c : ℕ) (cs : List ℕ) (n : ℕ) → AreDigits 10 (c ∷ cs) n → unsigned_of (c ∷ cs) ≡ Some n
unfolding unsigned_of
unsigned_decimal c cs n are =
    let parts = and_parts (is_digit c 10) (are_digits 10 cs) are.each in
    rw (and_right (eqb c 48) (eqb (get_or cs 0 0) 120) (second cs parts.1)) (magnitude 10 (c ∷ cs) n are)

unsigned_to : (n : ℕ) (field : List ℕ) → SpellsMagnitude n field → unsigned_of field ≡ Some n
unfolding unsigned_of
unsigned_to n [] (inl are) = let some = are.some in absurd (omega arith)
unsigned_to n (c ∷ cs) (inl are) = unsigned_decimal c cs n are
unsigned_to n field (inr (digits, is, are)) = rw is (magnitude 16 digits n are)

-- neither digits nor 0x begin with -
no_minus : (n : ℕ) (field : List ℕ) → SpellsMagnitude n field → eqb (get_or field 0 0) 45 ≡ false
no_minus n [] (inl are) = refl
no_minus n (c ∷ cs) (inl are) = no_digit c 45 refl (and_parts (is_digit c 10) (are_digits 10 cs) are.each).0
no_minus n field (inr (digits, is, are)) = rw is refl

number_to : (field : List ℕ) (z : ℤ) → SpellsNumber z field → number_of field ≡ Some z
unfolding number_of
number_to field z (inl (n, is, spells)) = rw (no_minus n field spells) (ap (option_map pos) (unsigned_to n field spells) ∙ ap Some (sym is))
number_to field z (inr (n, rest, is, text, spells)) = rw text (ap (option_map (λ k. neg_ℤ (pos k))) (unsigned_to n rest spells) ∙ ap Some (sym is))

magnitude_from : (radix : ℕ) (digits : List ℕ) (n : ℕ) → magnitude_of radix digits ≡ Some n → AreDigits radix digits n
unfolding magnitude_of
magnitude_from radix digits n h =
    let parts = cond_some (ltb 0 (length digits) && are_digits radix digits && ltb (digits_value radix digits) (2 ^ 64)) (digits_value radix digits) n h in
    let two = and_parts (ltb 0 (length digits) && are_digits radix digits) (ltb (digits_value radix digits) (2 ^ 64)) parts.0 in
    let one = and_parts (ltb 0 (length digits)) (are_digits radix digits) two.0 in
    record { some = ltb-true 0 (length digits) one.0; each = one.1; value = parts.1; small = subst (λ x. x < 2 ^ 64) parts.1 (ltb-true (digits_value radix digits) (2 ^ 64) two.1) }

unsigned_from : (n : ℕ) (field : List ℕ) → unsigned_of field ≡ Some n → SpellsMagnitude n field
unfolding unsigned_of
unsigned_from n [] h = inl (magnitude_from 10 [] n h)
unsigned_from n (c ∷ []) h = inl (magnitude_from 10 (c ∷ []) n (sym (ap (λ b. cond b (magnitude_of 16 (drop 2 (c ∷ []))) (magnitude_of 10 (c ∷ []))) (and_right (eqb c 48) false refl)) ∙ h))
unsigned_from n (c ∷ d ∷ rest) h = by (eqb c 48) (eqb d 120) (eqb-true c 48) (eqb-true d 120) h
  where
    by : (a b : Bool) → (a ≡ true → c ≡ 48) → (b ≡ true → d ≡ 120) → cond (a && b) (magnitude_of 16 rest) (magnitude_of 10 (c ∷ d ∷ rest)) ≡ Some n → SpellsMagnitude n (c ∷ d ∷ rest)
    by true true p q h = inr (rest, ap (λ x. x ∷ d ∷ rest) (p refl) ∙ ap (λ x. 48 ∷ x ∷ rest) (q refl), magnitude_from 16 rest n h)
    by true false p q h = inl (magnitude_from 10 (c ∷ d ∷ rest) n h)
    by false b p q h = inl (magnitude_from 10 (c ∷ d ∷ rest) n h)

mapped : (f : ℕ → ℤ) (o : Option ℕ) (z : ℤ) → option_map f o ≡ Some z → (n : ℕ) × (o ≡ Some n) × (z ≡ f n)
mapped f None z h = absurd cc
mapped f (Some n) z h = (n, refl, let same : f n ≡ z = cc in sym same)

number_from : (field : List ℕ) (z : ℤ) → number_of field ≡ Some z → SpellsNumber z field
unfolding number_of
number_from [] z h = let m = mapped pos (unsigned_of []) z h in inl (m.0, m.2, unsigned_from m.0 [] m.1)
number_from (c ∷ cs) z h = by (eqb c 45) (eqb-true c 45) h
  where
    by : (b : Bool) → (b ≡ true → c ≡ 45) → cond b (option_map (λ n. neg_ℤ (pos n)) (unsigned_of cs)) (option_map pos (unsigned_of (c ∷ cs))) ≡ Some z → SpellsNumber z (c ∷ cs)
    by true p h = let m = mapped (λ n. neg_ℤ (pos n)) (unsigned_of cs) z h in inr (m.0, cs, m.2, ap (λ x. x ∷ cs) (p refl), unsigned_from m.0 cs m.1)
    by false p h = let m = mapped pos (unsigned_of (c ∷ cs)) z h in inl (m.0, m.2, unsigned_from m.0 (c ∷ cs) m.1)

pub numbers_are_spelled : NumbersAreSpelled
numbers_are_spelled field z = (number_from field z, number_to field z)

-- ---- and their bytes

record Within (n : ℕ) (low high : ℤ) (field bytes : List ℕ) : Type 0 where
  number : ℤ
  says : number_of field ≡ Some number
  least : low ≤ℤ number
  most : number ≤ℤ high
  is : number_bytes n number ≡ bytes

le_of : (a b : ℤ) → int_le a b ≡ true → a ≤ℤ b
le_of a b h = grind (arith, ints)

le_to : (a b : ℤ) → a ≤ℤ b → int_le a b ≡ true
le_to a b h = grind (arith, ints)

within : (n : ℕ) (low high : ℤ) (field bytes : List ℕ) → number_within n low high field ≡ Some bytes → Within n low high field bytes
unfolding number_within
within n low high field bytes h =
    let read = steps (number_of field) _ bytes h in
    let parts = cond_some (int_le low read.0 && int_le read.0 high) (number_bytes n read.0) bytes read.2 in
    let limits = and_parts (int_le low read.0) (int_le read.0 high) parts.0 in
    record { number = read.0; says = read.1; least = le_of low read.0 limits.0; most = le_of read.0 high limits.1; is = parts.1 }

taken : (n : ℕ) (low high z : ℤ) (field : List ℕ) → number_of field ≡ Some z → low ≤ℤ z → z ≤ℤ high → number_within n low high field ≡ Some (number_bytes n z)
unfolding number_within
taken n low high z field says least most = rw (says, le_to low z least, le_to z high most) refl

pow_some : (k : ℕ) → 0 < 2 ^ k
pow_some k = omega (arith, suc_ones k)

-- a number that isn't negative
positive : (n : ℕ) (z : ℤ) → pos 0 ≤ℤ z → z ≤ℤ pos (2 ^ (8 * n) - 1) → 0 < 2 ^ (8 * n) → (x : ℕ) × (z ≡ pos x) × (x < 2 ^ (8 * n))
positive n (pos x) least most some = (x, refl, omega (arith, ints, most, some))
positive n (negsuc m) least most some = absurd (omega (arith, ints, least))

pub unsigned_are_back : UnsignedAreReadBack
unsigned_are_back n field bytes h =
    let w = within n (pos 0) (pos (2 ^ (8 * n) - 1)) field bytes h in
    let p = positive n w.number w.least w.most (pow_some (8 * n)) in
    let is : number_bytes n (pos p.0) ≡ bytes = ap (number_bytes n) (sym p.1) ∙ w.is in
    record {
      number = p.0;
      says = w.says ∙ ap Some p.1;
      small = p.2;
      count = ap length (sym is) ∙ length-bytes_low_first 0 n (bits_of (pos p.0));
      back = ap (little_number n) (sym is) ∙ unsigned_back n p.0 p.2;
    }

below : (z : ℤ) (top : ℕ) → 0 < top → z ≤ℤ pos (top - 1) → z <ℤ pos top
below z top some h = omega (arith, ints)

up_to : (z : ℤ) (top : ℕ) → z <ℤ pos top → z ≤ℤ pos (top - 1)
up_to z top h = omega (arith, ints)

pub signed_are_back : SignedAreReadBack
signed_are_back n field bytes size h =
    let w = within n (neg_ℤ (pos (2 ^ (8 * n - 1)))) (pos (2 ^ (8 * n - 1) - 1)) field bytes h in
    let most : w.number <ℤ pos (2 ^ (8 * n - 1)) = below w.number (2 ^ (8 * n - 1)) (pow_some (8 * n - 1)) w.most in
    record {
      number = w.number;
      says = w.says;
      small = (w.least, most);
      count = ap length (sym w.is) ∙ length-bytes_low_first 0 n (bits_of w.number);
      back = ap (λ b. twos_complement n (little_number n b)) (sym w.is) ∙ signed_back n w.number size w.least most;
    }

pub unsigned_are_taken : UnsignedHaveBytes
unsigned_are_taken n x field says small = taken n (pos 0) (pos (2 ^ (8 * n) - 1)) (pos x) field says (omega (arith, ints)) (omega (arith, ints, small))

pub signed_are_taken : SignedHaveBytes
signed_are_taken n z field says small = taken n (neg_ℤ (pos (2 ^ (8 * n - 1)))) (pos (2 ^ (8 * n - 1) - 1)) z field says small.0 (up_to z (2 ^ (8 * n - 1)) small.1)
