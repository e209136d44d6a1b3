-- Lists by their places.
use Rattle.std.proofs.Common.{◌≡◌, ℕ, zero, suc, ◌+◌, ◌-◌, ◌≤◌, List, [], ◌∷◌, length, take, drop, refl, ap, ◌∙◌, subst, arith}
use Rattle.ownlock.specs.Seats.{At}
use Rattle.accounts.proofs.Export.{at_none}

module _ {A : Type 0} where
  pub at_drop : (t : ℕ) (xs : List A) (i : ℕ) (a : A) → At i a (drop t xs) → At (t + i) a xs
  at_drop zero xs i a e = subst (λ z. At z a xs) (plus i) e
    where
      plus : (i : ℕ) → i ≡ 0 + i
      plus i = omega arith
  at_drop (suc t) [] i a e = absurd (at_none i a e)
  at_drop (suc t) (x ∷ xs) i a e = subst (λ z. At z a (x ∷ xs)) (plus t i) (at_drop t xs i a e)
    where
      plus : (t i : ℕ) → suc (t + i) ≡ suc t + i
      plus t i = omega arith

  pub drop_at : (t : ℕ) (xs : List A) (i : ℕ) (a : A) → At (t + i) a xs → At i a (drop t xs)
  drop_at zero xs i a e = subst (λ z. At z a xs) (plus i) e
    where
      plus : (i : ℕ) → 0 + i ≡ i
      plus i = omega arith
  drop_at (suc t) [] i a e = absurd (at_none (suc t + i) a e)
  drop_at (suc t) (x ∷ xs) i a e = drop_at t xs i a (subst (λ z. At z a (x ∷ xs)) (plus t i) e)
    where
      plus : (t i : ℕ) → suc t + i ≡ suc (t + i)
      plus t i = omega arith

  pub long_drop : (k : ℕ) (xs : List A) → k ≤ length xs → k + length (drop k xs) ≡ length xs
  long_drop zero xs h = omega arith
  long_drop (suc k) [] h = absurd (omega arith)
  long_drop (suc k) (x ∷ xs) h = let e = long_drop k xs (omega arith) in omega (arith, e)

  pub take_whole : (xs : List A) → take (length xs) xs ≡ xs
  take_whole [] = refl
  take_whole (x ∷ xs) = ap (λ z. x ∷ z) (take_whole xs)

  abbrev none : List A
  none = []

  drop_none : (n : ℕ) → drop n none ≡ none
  drop_none zero = refl
  drop_none (suc n) = refl

  -- from b on, and then from t on
  pub drop_drop : (b t : ℕ) (xs : List A) → b ≤ t → drop (t - b) (drop b xs) ≡ drop t xs
  drop_drop zero t xs h = let e : t - 0 ≡ t = omega arith in ap (λ n. drop n xs) e
  drop_drop (suc b) zero xs h = absurd (omega arith)
  drop_drop (suc b) (suc t) [] h = drop_none (suc t - suc b)
  drop_drop (suc b) (suc t) (x ∷ xs) h = let e : suc t - suc b ≡ t - b = omega arith in ap (λ n. drop n (drop b xs)) e ∙ drop_drop b t xs (omega arith)

  pub drop_all : (t : ℕ) (xs : List A) → length xs ≤ t → drop t xs ≡ []
  drop_all t [] h = drop_none t
  drop_all zero (x ∷ xs) h = absurd (omega arith)
  drop_all (suc t) (x ∷ xs) h = drop_all t xs (omega arith)
