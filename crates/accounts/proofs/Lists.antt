-- Lists by their places, and numbers by node and slot.
use Rattle.std.proofs.Common.{◌≡◌, ℕ, zero, suc, ◌+◌, ◌*◌, ◌<◌, ◌≤◌, ◌⊎◌, List, [], ◌∷◌, ◌++◌, length, take, drop, sym, refl, ap, subst, inl, inr, ⊎_elim, arith, mul-le-mul_right, suc-mul, Some, slice_get}
use Rattle.std.proofs.lemmas.Bool.{cases_lt}
use mathlib.Core.Option.{some-injective, some-ne-none}
use Rattle.ownlock.specs.Seats.{At}
use mathlib.Core.Option as kernel
use Rattle.std.proofs.lemmas.Option.{none-some, same_Some}

zero_plus : (j : ℕ) → j ≡ 0 + j
zero_plus j = omega arith

suc_plus : (n j : ℕ) → suc (n + j) ≡ suc n + j
suc_plus n j = omega arith

module _ {A : Type 0} where
  pub at_none : (i : ℕ) (a : A) → At i a [] → ⊥
  at_none i a e = some-ne-none a (sym e)

  pub take_front : (t : ℕ) (xs ys : List A) → t ≤ length xs → take t (xs ++ ys) ≡ take t xs
  take_front zero xs ys h = refl
  take_front (suc t) [] ys h = absurd (omega arith)
  take_front (suc t) (x ∷ xs) ys h = ap (λ l. x ∷ l) (take_front t xs ys (omega arith))

  pub drop_front : (k : ℕ) (xs ys : List A) → k ≤ length xs → drop k (xs ++ ys) ≡ drop k xs ++ ys
  drop_front zero xs ys h = refl
  drop_front (suc k) [] ys h = absurd (omega arith)
  drop_front (suc k) (x ∷ xs) ys h = drop_front k xs ys (omega arith)

  -- an element of a joined list is of the first, or of the second
  pub at_joined : (xs ys : List A) (i : ℕ) (a : A) → At i a (xs ++ ys) → At i a xs ⊎ ((j : ℕ) × (i ≡ length xs + j) × At j a ys)
  at_joined [] ys i a e = inr (i, omega arith, e)
  at_joined (x ∷ xs) ys zero a e = inl e
  at_joined (x ∷ xs) ys (suc i) a e = ⊎_elim (λ h. inl h) (λ t. let long = t.1 in inr (t.0, omega (arith, long), t.2)) (at_joined xs ys i a e)

  pub at_front : (xs ys : List A) (i : ℕ) (a : A) → At i a xs → At i a (xs ++ ys)
  at_front [] ys i a e = absurd (some-ne-none a (sym e))
  at_front (x ∷ xs) ys zero a e = e
  at_front (x ∷ xs) ys (suc i) a e = at_front xs ys i a e

  pub at_behind : (xs ys : List A) (j : ℕ) (a : A) → At j a ys → At (length xs + j) a (xs ++ ys)
  at_behind [] ys j a e = subst (λ i. At i a ys) (zero_plus j) e
  at_behind (x ∷ xs) ys j a e = subst (λ i. At i a (x ∷ xs ++ ys)) (suc_plus (length xs) j) (at_behind xs ys j a e)

  -- an element that is read stands at its place
  pub at_of : (xs : List A) (i : ℕ) (a : A) → slice_get xs i ≡ Some a → At i a xs
  at_of [] i a e = absurd (none-some a e)
  at_of (x ∷ xs) zero a e = ap kernel.some (same_Some x a e)
  at_of (x ∷ xs) (suc i) a e = at_of xs i a e

  pub get_of : (xs : List A) (i : ℕ) (a : A) → At i a xs → slice_get xs i ≡ Some a
  get_of [] i a e = absurd (at_none i a e)
  get_of (x ∷ xs) zero a e = ap Some (some-injective x a e)
  get_of (x ∷ xs) (suc i) a e = get_of xs i a e

-- a node's slots stand between its first number and the next node's
further : (x y n : ℕ) → x < y → x * n + n ≤ y * n
further x y n h = let a : suc x * n ≤ y * n = mul-le-mul_right n h in omega (arith, suc-mul x n)

-- a number has one node
pub one_node : (m n s t slots : ℕ) → s < slots → t < slots → m * slots + s ≡ n * slots + t → m ≡ n
one_node m n s t slots hs ht e = ⊎_elim (λ lt. absurd (below m n s t lt hs e)) (λ le. ⊎_elim (λ lt. absurd (below n m t s lt ht (sym e))) (λ le2. omega arith) (cases_lt n m)) (cases_lt m n)
  where
    apart : (x y s t : ℕ) → x + slots ≤ y → s < slots → x + s ≡ y + t → ⊥
    apart x y s t f h e = omega (arith, e)

    below : (m n s t : ℕ) → m < n → s < slots → m * slots + s ≡ n * slots + t → ⊥
    below m n s t lt h e = apart (m * slots) (n * slots) s t (further m n slots lt) h e
