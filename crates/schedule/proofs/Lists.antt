-- Lists, by their elements.
use Rattle.std.proofs.Common.{◌≡◌, ◌≢◌, ℕ, zero, suc, ◌+◌, ◌<◌, List, [], ◌∷◌, ◌++◌, length, take, drop, Some, refl, sym, ap, ◌∙◌, inl, inr, ⊎_elim, arith}
use Rattle.std.specs.Prelude.{slice_get, slice_set, ◌⊎◌}
use Rattle.std.proofs.lemmas.Option.{none-some, same_Some}

pub get_snoc : {A : Type 0} (xs : List A) (y : A) (i : ℕ) (v : A) → slice_get (xs ++ y ∷ []) i ≡ Some v → (slice_get xs i ≡ Some v) ⊎ ((i ≡ length xs) × (y ≡ v))
get_snoc [] y zero v h = inr (refl, same_Some y v h)
get_snoc [] y (suc i) v h = absurd (none-some v h)
get_snoc (x ∷ xs) y zero v h = inl h
get_snoc (x ∷ xs) y (suc i) v h = ⊎_elim inl (λ p. inr (ap suc p.0, p.1)) (get_snoc xs y i v h)

pub get_drop : {A : Type 0} (xs : List A) (i j : ℕ) → slice_get (drop i xs) j ≡ slice_get xs (i + j)
get_drop [] zero j = refl
get_drop [] (suc i) j = refl
get_drop (x ∷ xs) zero j = let e : j ≡ 0 + j = omega arith in ap (λ k. slice_get (x ∷ xs) k) e
get_drop (x ∷ xs) (suc i) j = let e : suc (i + j) ≡ suc i + j = omega arith in get_drop xs i j ∙ ap (λ k. slice_get (x ∷ xs) k) e

pub get_take : {A : Type 0} (n : ℕ) (xs : List A) (j : ℕ) (v : A) → slice_get (take n xs) j ≡ Some v → (slice_get xs j ≡ Some v) × (j < n)
get_take zero [] j v h = absurd (none-some v h)
get_take (suc n) [] j v h = absurd (none-some v h)
get_take zero (x ∷ xs) j v h = absurd (none-some v h)
get_take (suc n) (x ∷ xs) zero v h = (h, omega arith)
get_take (suc n) (x ∷ xs) (suc j) v h = let r = get_take n xs j v h in let l = r.1 in (r.0, omega arith)

pub get_taken : {A : Type 0} (n : ℕ) (xs : List A) (j : ℕ) (v : A) → slice_get xs j ≡ Some v → j < n → slice_get (take n xs) j ≡ Some v
get_taken n [] j v h l = absurd (none-some v h)
get_taken zero (x ∷ xs) j v h l = absurd (omega arith)
get_taken (suc n) (x ∷ xs) zero v h l = h
get_taken (suc n) (x ∷ xs) (suc j) v h l = get_taken n xs j v h (omega arith)

pub get_set : {A : Type 0} (xs : List A) (i : ℕ) (v : A) (j : ℕ) (u : A) → slice_get (slice_set xs i v) j ≡ Some u → ((j ≡ i) × (u ≡ v)) ⊎ ((j ≢ i) × (slice_get xs j ≡ Some u))
get_set [] i v j u h = absurd (none-some u h)
get_set (x ∷ xs) zero v zero u h = inl (refl, sym (same_Some v u h))
get_set (x ∷ xs) zero v (suc j) u h = inr ((λ e. absurd (omega arith)), h)
get_set (x ∷ xs) (suc i) v zero u h = inr ((λ e. absurd (omega arith)), h)
get_set (x ∷ xs) (suc i) v (suc j) u h = ⊎_elim (λ p. inl (ap suc p.0, p.1)) (λ p. inr ((λ e. p.0 (omega arith)), p.1)) (get_set xs i v j u h)

pub set_same : {A : Type 0} (xs : List A) (i : ℕ) (u v : A) → slice_get xs i ≡ Some u → slice_get (slice_set xs i v) i ≡ Some v
set_same [] i u v h = absurd (none-some u h)
set_same (x ∷ xs) zero u v h = refl
set_same (x ∷ xs) (suc i) u v h = set_same xs i u v h

pub set_back : {A : Type 0} (xs : List A) (i : ℕ) (v : A) → slice_get xs i ≡ Some v → slice_set xs i v ≡ xs
set_back [] i v g = refl
set_back (x ∷ xs) zero v g = ap (λ y. y ∷ xs) (sym (same_Some x v g))
set_back (x ∷ xs) (suc i) v g = ap (λ ys. x ∷ ys) (set_back xs i v g)
