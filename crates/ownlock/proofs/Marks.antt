-- Where the places of a line have their marks, and what steps on its word leave of them.
use Rattle.std.proofs.Common.{◌≡◌, ◌≢◌, ℕ, zero, suc, ◌+◌, ◌-◌, ◌/◌, ◌%◌, ◌^◌, ◌<◌, ◌≤◌, ◌⊎◌, Bool, true, false, List, length, get_or, set, sym, refl, ap, ◌∙◌, inl, inr, arith, bit_and, bit_or, if◌then◌else◌, get_or-set_same, get_or-set_other}
use Rattle.std.specs.Prelude.{nat_lt, nat_eq}
use Rattle.std.specs.Int.{bit_at}
use Rattle.std.proofs.lemmas.Bool.Decides.{nat_tests}
use Rattle.std.proofs.lemmas.Nat.{and_mask, and_shr, or_comm, or_shr}
use Rattle.std.proofs.lemmas.Nat.Bits.{bit_at_and, bit_at_or, bit_at-pow_same, bit_at-pow_other, bit_at-lt, bit_at-zero}
use mathlib.Core.Logic.{dite}
use native.Mathlib.Decide.{ℕ_discrete}
use Rattle.ownlock.specs.Words.{IsFree, bit_of, line_of, line_word, row_length, winner_at, winner_in, won_by, word_of}

-- ---- where a place is

-- what its line and its bit are
data Stands (places p line bit : ℕ) : Type 0 where
  Leads : p ≡ 0 → bit ≡ 2 → (row_length places ≡ 1) × (line ≡ 1) ⊎ (line ≡ 0) → Stands places p line bit
  First : 0 < p → p ≤ row_length places → line ≡ p → bit ≡ 0 → Stands places p line bit
  Second : row_length places < p → line + row_length places ≡ p → bit ≡ 1 → Stands places p line bit

stands : (places p : ℕ) → Stands places p (line_of places p) (bit_of places p)
stands places zero = by (nat_eq (row_length places) 1) refl
  where
    by : (b : Bool) → nat_eq (row_length places) 1 ≡ b → Stands places 0 (if b then 1 else 0) 2
    by true is = Leads refl refl (inl (grind (arith, nat_tests), refl))
    by false is = Leads refl refl (inr refl)
stands places (suc n) = by (nat_lt n (row_length places)) refl
  where
    by : (b : Bool) → nat_lt n (row_length places) ≡ b
        → Stands places (suc n) (if b then suc n else suc n - row_length places) (if b then 0 else 1)
    by true is = First (omega arith) (grind (arith, nat_tests)) refl refl
    by false is =
        let over : row_length places ≤ n = grind (arith, nat_tests) in
        Second (omega (arith, over)) (omega (arith, over)) refl

few_bits : (places p line bit : ℕ) → Stands places p line bit → bit < 3
few_bits places p line bit (Leads at b l) = omega (arith, b)
few_bits places p line bit (First low high l b) = omega (arith, b)
few_bits places p line bit (Second far l b) = omega (arith, b)

pub bit_below : (places p : ℕ) → bit_of places p < 3
bit_below places p = few_bits places p (line_of places p) (bit_of places p) (stands places p)

below : (places p line bit : ℕ) → p < places → Stands places p line bit → line < places
below places p line bit few (Leads at b (inl (one, l))) = omega (arith, one, l)
below places p line bit few (Leads at b (inr l)) = omega (arith, l, few)
below places p line bit few (First low high l b) = omega (arith, l, few)
below places p line bit few (Second far l b) = omega (arith, l, few)

pub line_below : (places p : ℕ) → p < places → line_of places p < places
line_below places p few = below places p (line_of places p) (bit_of places p) few (stands places p)

one : (places p q lp lq bp bq : ℕ) → p < places → q < places → Stands places p lp bp → Stands places q lq bq → lp ≡ lq
    → bp ≡ bq → p ≡ q
one places p q lp lq bp bq x y (Leads at b l) (Leads at2 b2 l2) same bits = at ∙ sym at2
one places p q lp lq bp bq x y (First low high l b) (First low2 high2 l2 b2) same bits = sym l ∙ (same ∙ l2)
one places p q lp lq bp bq x y (Second far l b) (Second far2 l2 b2) same bits = omega (arith, l, l2, same)
one places p q lp lq bp bq x y (Leads at b l) (First low high l2 b2) same bits = absurd (omega (arith, b, b2, bits))
one places p q lp lq bp bq x y (Leads at b l) (Second far l2 b2) same bits = absurd (omega (arith, b, b2, bits))
one places p q lp lq bp bq x y (First low high l b) (Leads at2 b2 l2) same bits = absurd (omega (arith, b, b2, bits))
one places p q lp lq bp bq x y (First low high l b) (Second far2 l2 b2) same bits = absurd (omega (arith, b, b2, bits))
one places p q lp lq bp bq x y (Second far l b) (Leads at2 b2 l2) same bits = absurd (omega (arith, b, b2, bits))
one places p q lp lq bp bq x y (Second far l b) (First low2 high2 l2 b2) same bits = absurd (omega (arith, b, b2, bits))

-- two places of one line have two bits
pub bits_apart : (places p q : ℕ) → p < places → q < places → q ≢ p → line_of places q ≡ line_of places p
    → bit_of places q ≢ bit_of places p
bits_apart places p q x y other line bit =
    other (one places q p _ _ _ _ y x (stands places q) (stands places p) line bit)

-- ---- what a step leaves of a word

-- the other bits of a word are as they were, and so is the winner
pub record Remarks (bit old new : ℕ) : Type 0 where
  pub others : (c : ℕ) → c < 3 → c ≢ bit → bit_at new c ≡ bit_at old c
  pub winner : winner_in new ≡ winner_in old

pub looked : (bit n : ℕ) → Remarks bit n n
looked bit n = record { others = λ c few other. refl; winner = refl }

-- the words are as they were, but for this place's mark
pub record Rewords (places p : ℕ) (old new : List ℕ) : Type 0 where
  pub others : (q : ℕ) → q < places → q ≢ p
      → bit_at (get_or new (line_word places q) 0) (bit_of places q) ≡ bit_at (get_or old (line_word places q) 0)
      (bit_of places q)
  pub winners : (q : ℕ) → q < places → winner_at places new q ≡ winner_at places old q

there : (words : List ℕ) (i n : ℕ) → i < length words → get_or (set words i n) i 0 ≡ n
there words i n few = get_or-set_same words i n 0 few

pub reworded : (places p : ℕ) (words : List ℕ) (n : ℕ) → p < places → line_word places p < length words
    → Remarks (bit_of places p) (get_or words (line_word places p) 0) n
    → Rewords places p words (set words (line_word places p) n)
reworded places p words n few inside r = record {
  others = λ q small other. dite (ℕ_discrete (line_of places q) (line_of places p))
      (λ e. same_bit q e
      ∙ (r.others (bit_of places q) (bit_below places q) (bits_apart places p q few small other e) ∙ sym (was q e)))
      (λ ne. ap (λ z. bit_at z (bit_of places q)) (elsewhere q ne));
  winners = λ q small. dite (ℕ_discrete (line_of places q) (line_of places p))
      (λ e. ap winner_in (now q e) ∙ (r.winner ∙ sym (ap winner_in (before q e))))
      (λ ne. ap winner_in (elsewhere q ne));
}
  where
    at : ℕ
    at = line_word places p

    now : (q : ℕ) → line_of places q ≡ line_of places p → get_or (set words at n) (line_word places q) 0 ≡ n
    now q e = ap (λ z. get_or (set words at n) (word_of z) 0) e ∙ there words at n inside

    before : (q : ℕ) → line_of places q ≡ line_of places p → get_or words (line_word places q) 0 ≡ get_or words at 0
    before q e = ap (λ z. get_or words (word_of z) 0) e

    same_bit : (q : ℕ) (e : line_of places q ≡ line_of places p)
        → bit_at (get_or (set words at n) (line_word places q) 0) (bit_of places q) ≡ bit_at n (bit_of places q)
    same_bit q e = ap (λ z. bit_at z (bit_of places q)) (now q e)

    was : (q : ℕ) (e : line_of places q ≡ line_of places p)
        → bit_at (get_or words (line_word places q) 0) (bit_of places q) ≡ bit_at (get_or words at 0) (bit_of places q)
    was q e = ap (λ z. bit_at z (bit_of places q)) (before q e)

    elsewhere : (q : ℕ) → line_of places q ≢ line_of places p
        → get_or (set words at n) (line_word places q) 0 ≡ get_or words (line_word places q) 0
    elsewhere q ne = get_or-set_other words at (line_word places q) n 0 (λ e. ne (omega (arith, e)))

-- a step on the word of the completed tail leaves those of all lines
pub tail_rewords : (places p : ℕ) (words : List ℕ) (n : ℕ) → Rewords places p words (set words (word_of places) n)
tail_rewords places p words n = record {
  others = λ q small other. ap (λ z. bit_at z (bit_of places q)) (kept q small);
  winners = λ q small. ap winner_in (kept q small);
}
  where
    kept : (q : ℕ) → q < places
        → get_or (set words (word_of places) n) (line_word places q) 0 ≡ get_or words (line_word places q) 0
    kept q small =
        get_or-set_other words (word_of places) (line_word places q) n 0
        (λ e. let low = line_below places q small in absurd (omega (arith, e, low)))

-- ---- the bits themselves

by_bit : (P : ℕ → Type 0) (b : ℕ) → b < 3 → P 0 → P 1 → P 2 → P b
by_bit P zero few a b c = a
by_bit P (suc zero) few a b c = b
by_bit P (suc (suc zero)) few a b c = c
by_bit P (suc (suc (suc n))) few a b c = absurd (omega (arith, few))

-- a bit that is set, and the others
pub set_bit : (n b : ℕ) → b < 3 → bit_at (bit_or n (2 ^ b)) b ≡ 1
set_bit n b few =
    let one = bit_at-pow_same b in
    let low = bit_at-lt n b in let or = bit_at_or n (2 ^ b) b in omega (arith, or, one, low)

pub set_remarks : (n b : ℕ) → b < 3 → Remarks b n (bit_or n (2 ^ b))
set_remarks n b few = record {
  others = λ c small other. let none = bit_at-pow_other b c other in let or =
      bit_at_or n (2 ^ b) c in omega (arith, or, none);
  winner = or_shr n (2 ^ b) 8 ∙ ap (bit_or (n / 256)) (by_bit (λ z. 2 ^ z / 256 ≡ 0) b few refl refl refl)
      ∙ none (n / 256);
}
  where
    none : (m : ℕ) → bit_or m 0 ≡ m
    none m = or_comm m 0

-- a bit that is taken away, and the others
abbrev unmark : ℕ → ℕ
unmark b = 18446744073709551615 - 2 ^ b

unmark_bits : (b c : ℕ) → b < 3 → c < 3 → c ≢ b → bit_at (unmark b) c ≡ 1
unmark_bits b c few small other = by_bit (λ z. c ≢ z → bit_at (unmark z) c ≡ 1) b few
    (by_bit (λ w. w ≢ 0 → bit_at (unmark 0) w ≡ 1) c small (λ no. absurd (no refl)) (λ _. refl) (λ _. refl))
    (by_bit (λ w. w ≢ 1 → bit_at (unmark 1) w ≡ 1) c small (λ _. refl) (λ no. absurd (no refl)) (λ _. refl))
    (by_bit (λ w. w ≢ 2 → bit_at (unmark 2) w ≡ 1) c small (λ _. refl) (λ _. refl) (λ no. absurd (no refl))) other

unmark_here : (b : ℕ) → b < 3 → bit_at (unmark b) b ≡ 0
unmark_here b few = by_bit (λ z. bit_at (unmark z) z ≡ 0) b few refl refl refl

pub clear_bit : (n b : ℕ) → b < 3 → bit_at (bit_and n (18446744073709551615 - 2 ^ b)) b ≡ 0
clear_bit n b few = let none = unmark_here b few in let and = bit_at_and n (unmark b) b in omega (arith, and, none)

pub clear_remarks : (n b : ℕ) → b < 3 → n < 18446744073709551616
    → Remarks b n (bit_and n (18446744073709551615 - 2 ^ b))
clear_remarks n b few low = record {
  others = λ c small other. let one = unmark_bits b c few small other in let and =
      bit_at_and n (unmark b) c in let lt = bit_at-lt n c in omega (arith, and, one, lt);
  winner = and_shr n (unmark b) 8
      ∙ (ap (bit_and (n / 256)) (by_bit (λ z. unmark z / 256 ≡ 2 ^ 56 - 1) b few refl refl refl)
      ∙ (and_mask (n / 256) 56 ∙ whole));
}
  where
    whole : (n / 256) % 2 ^ 56 ≡ n / 256
    whole = omega (arith, low)

-- a mark that is all that a word has
pub alone_remarks : (b : ℕ) → b < 3 → Remarks b (2 ^ b) 0
alone_remarks b few = record {
  others = λ c small other. bit_at-zero c ∙ sym (bit_at-pow_other b c other);
  winner = by_bit (λ z. 0 ≡ 2 ^ z / 256) b few refl refl refl;
}

-- by a word by which it is free, a place is marked by one sum
pub free_bit : (n b : ℕ) → IsFree n (2 ^ b) → bit_at n b ≡ 0
free_bit n b free =
    let e = bit_at_and n (2 ^ b) b in
    let one = bit_at-pow_same b in
    let lt = bit_at-lt n b in let none = ap (λ z. bit_at z b) free.0 ∙ bit_at-zero b in omega (arith, e, one, lt, none)

marked_sum : (n b : ℕ) → b < 3 → bit_at n b ≡ 0 → n < 256 → Remarks b n (n + 2 ^ b) × (bit_at (n + 2 ^ b) b ≡ 1)
marked_sum n zero few free low = (
  record {
    others =
        λ c small other. by_bit (λ z. z ≢ 0 → bit_at (n + 1) z ≡ bit_at n z) c small (λ no. absurd (no refl))
        (λ _. omega (arith, free)) (λ _. omega (arith, free)) other;
    winner = omega (arith, free, low);
  },
  omega
      (arith, free),
)
marked_sum n (suc zero) few free low = (
  record {
    others =
        λ c small other. by_bit (λ z. z ≢ 1 → bit_at (n + 2) z ≡ bit_at n z) c small (λ _. omega (arith, free))
        (λ no. absurd (no refl)) (λ _. omega (arith, free)) other;
    winner = omega (arith, free, low);
  },
  omega
      (arith, free),
)
marked_sum n (suc (suc zero)) few free low = (
  record {
    others =
        λ c small other. by_bit (λ z. z ≢ 2 → bit_at (n + 4) z ≡ bit_at n z) c small (λ _. omega (arith, free))
        (λ _. omega (arith, free)) (λ no. absurd (no refl)) other;
    winner = omega (arith, free, low);
  },
  omega
      (arith, free),
)
marked_sum n (suc (suc (suc b))) few free low = absurd (omega (arith, few))

pub sum_remarks : (n b : ℕ) → b < 3 → IsFree n (2 ^ b) → Remarks b n (n + 2 ^ b)
sum_remarks n b few free = (marked_sum n b few (free_bit n b free) free.1).0

pub sum_bit : (n b : ℕ) → b < 3 → IsFree n (2 ^ b) → bit_at (n + 2 ^ b) b ≡ 1
sum_bit n b few free = (marked_sum n b few (free_bit n b free) free.1).1

-- a word that is won has no mark, and its winner
pub won_bit : (s b : ℕ) → b < 3 → bit_at (won_by s) b ≡ 0
won_bit s b few = by_bit (λ z. bit_at (won_by s) z ≡ 0) b few (omega arith) (omega arith) (omega arith)

pub won_winner : (s : ℕ) → winner_in (won_by s) ≡ suc s
won_winner s = omega arith

-- ---- the rows
