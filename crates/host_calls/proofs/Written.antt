-- A list is written over the first of another, one more at a time.
use Rattle.std.proofs.Common.{◌≡◌, ℕ, zero, suc, ◌+◌, ◌<◌, ◌≤◌, List, [], ◌∷◌, ◌++◌, length, get_or, set, map, take, drop, refl, ap, ◌∙◌, arith}

module _ {A B : Type 0} (f : A → B) where
  put_one : (xs : List A) (ys : List B) (k : ℕ) (d : A) → k < length xs → length xs ≤ length ys
      → set (map f (take k xs) ++ drop k ys) k (f (get_or xs k d)) ≡ map f (take (suc k) xs) ++ drop (suc k) ys
  put_one [] ys k d below room = absurd (omega (arith, below))
  put_one (x ∷ xs) [] k d below room = absurd (omega (arith, room))
  put_one (x ∷ xs) (y ∷ ys) zero d below room = refl
  put_one (x ∷ xs) (y ∷ ys) (suc k) d below room = ap (λ z. f x ∷ z) (put_one xs ys k d (omega (arith, below)) (omega (arith, room)))

  pub put : (xs : List A) (ys : List B) (k : ℕ) (d : A) → k < length xs → length xs ≤ length ys
      → set (map f (take k xs) ++ drop k ys) k (f (get_or xs k d)) ≡ map f (take (k + 1) xs) ++ drop (k + 1) ys
  put xs ys k d below room = let next : suc k ≡ k + 1 = omega arith in put_one xs ys k d below room ∙ ap (λ m. map f (take m xs) ++ drop m ys) next

  pub put_on : (xs : List A) (ys : List B) (k : ℕ) (d : A) → k < length xs → length xs ≤ length ys → (zs : List B)
      → zs ≡ map f (take k xs) ++ drop k ys
      → set zs k (f (get_or xs k d)) ≡ map f (take (k + 1) xs) ++ drop (k + 1) ys
  put_on xs ys k d below room zs is = ap (λ z. set z k (f (get_or xs k d))) is ∙ put xs ys k d below room

  whole : (xs : List A) → take (length xs) xs ≡ xs
  whole [] = refl
  whole (x ∷ xs) = ap (λ z. x ∷ z) (whole xs)

  pub all_put : (xs : List A) (ys : List B) (k : ℕ) → k ≡ length xs
      → map f (take k xs) ++ drop k ys ≡ map f xs ++ drop (length xs) ys
  all_put xs ys k is = ap (λ m. map f (take m xs) ++ drop m ys) is ∙ ap (λ z. map f z ++ drop (length xs) ys) (whole xs)
