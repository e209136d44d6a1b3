-- Lists by where their elements stand.
use Rattle.std.proofs.Common.{◌≡◌, ℕ, zero, suc, ◌+◌, ◌<◌, ◌⊎◌, inl, inr, ⊎_elim, List, [], ◌∷◌, ◌++◌, length, drop, set, refl, ap, ◌∙◌, arith}
use mathlib.Core.Option as kernel
use Rattle.std.specs.Prelude.{slice_index_or}
use Rattle.ownlock.specs.Seats.{At}
use Rattle.accounts.proofs.Export.{at_joined, at_none, at_one}

module _ {A : Type 0} where
  pub read : (xs : List A) (i : ℕ) (x : A) → At i x xs → slice_index_or xs i x ≡ x
  read [] i x at = refl
  read (y ∷ ys) zero x at = at_one (y ∷ ys) 0 y x refl at
  read (y ∷ ys) (suc i) x at = read ys i x at

  pub stands : (xs : List A) (i : ℕ) (d : A) → i < length xs → At i (slice_index_or xs i d) xs
  stands [] i d below = absurd (omega (arith, below))
  stands (y ∷ ys) zero d below = refl
  stands (y ∷ ys) (suc i) d below = stands ys i d (omega (arith, below))

  -- behind what stands there
  pub at_dropped : (xs : List A) (i : ℕ) (x : A) → At i x xs → drop i xs ≡ x ∷ drop (suc i) xs
  at_dropped [] i x at = absurd (at_none i x at)
  at_dropped (y ∷ ys) zero x at = ap (λ z. z ∷ ys) (at_one (y ∷ ys) 0 y x refl at)
  at_dropped (y ∷ ys) (suc i) x at = at_dropped ys i x at

  -- one element more
  pub at_pushed : (xs : List A) (y : A) (i : ℕ) (x : A) → At i x (xs ++ y ∷ []) → At i x xs ⊎ ((i ≡ length xs) × (y ≡ x))
  at_pushed xs y i x at = ⊎_elim inl (λ h. last h.0 h.1 h.2) (at_joined xs (y ∷ []) i x at)
    where
      last : (j : ℕ) → i ≡ length xs + j → At j x (y ∷ []) → At i x xs ⊎ ((i ≡ length xs) × (y ≡ x))
      last zero e at = inr (omega (arith, e), at_one (y ∷ []) 0 y x refl at)
      last (suc j) e at = absurd (at_none j x at)

  -- one element changed
  pub at_set : (xs : List A) (k : ℕ) (y : A) (i : ℕ) (x : A) → At i x (set xs k y) → ((i ≡ k) × (y ≡ x)) ⊎ ((i ≡ k → ⊥) × At i x xs)
  at_set [] k y i x at = absurd (at_none i x at)
  at_set (z ∷ zs) zero y zero x at = inl (refl, at_one (y ∷ zs) 0 y x refl at)
  at_set (z ∷ zs) zero y (suc i) x at = inr (λ e. omega (arith, e), at)
  at_set (z ∷ zs) (suc k) y zero x at = inr (λ e. omega (arith, e), at)
  at_set (z ∷ zs) (suc k) y (suc i) x at =
      ⊎_elim (λ h. let e = h.0 in inl (omega (arith, e), h.1)) (λ h. inr (λ e. h.0 (omega (arith, e)), h.1)) (at_set zs k y i x at)

  pub set_else : (xs : List A) (k : ℕ) (y : A) (i : ℕ) (x : A) → (i ≡ k → ⊥) → At i x xs → At i x (set xs k y)
  set_else [] k y i x other at = absurd (at_none i x at)
  set_else (z ∷ zs) zero y zero x other at = absurd (other refl)
  set_else (z ∷ zs) zero y (suc i) x other at = at
  set_else (z ∷ zs) (suc k) y zero x other at = at
  set_else (z ∷ zs) (suc k) y (suc i) x other at = set_else zs k y i x (λ e. other (omega (arith, e))) at
