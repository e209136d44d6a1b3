-- What holds of each element of a list, by its index and by where it stands: of each session of a store, say.
use Rattle.std.proofs.Common.{◌≡◌, ℕ, zero, suc, ◌<◌, List, [], ◌∷◌, length, get_or, refl, subst}
use mathlib.Core.Option.{some-injective}
use native.Mathlib.Nat.{not-suc-le-zero, le_of_suc-le-suc}
use Rattle.std.specs.List.{All}
use Rattle.ownlock.specs.Seats.{At}
use Rattle.accounts.proofs.Export.{at_below}

module _ {A : Type 0} where
  pub stands : (xs : List A) (k : ℕ) (d : A) → k < length xs → At k (get_or xs k d) xs
  stands [] k d below = absurd (not-suc-le-zero below)
  stands (x ∷ xs) zero d below = refl
  stands (x ∷ xs) (suc k) d below = stands xs k d (le_of_suc-le-suc below)

  pub is_read : (xs : List A) (k : ℕ) (x : A) → At k x xs → get_or xs k x ≡ x
  is_read [] k x at = refl
  is_read (y ∷ ys) zero x at = some-injective y x at
  is_read (y ∷ ys) (suc k) x at = is_read ys k x at

  pub all_of_at : (P : A → Type 0) (xs : List A) → ((k : ℕ) (x : A) → At k x xs → P x) → All P xs
  all_of_at P xs each k d below = each k (get_or xs k d) (stands xs k d below)

  pub at_of_all : (P : A → Type 0) (xs : List A) → All P xs → (k : ℕ) (x : A) → At k x xs → P x
  at_of_all P xs all k x at = subst P (is_read xs k x at) (all k x (at_below xs k x at))
