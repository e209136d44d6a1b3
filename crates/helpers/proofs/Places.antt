-- Maps by their numbers: one of them changed, the others kept.
use Rattle.std.proofs.Common.{◌≡◌, ℕ, zero, suc, List, [], ◌∷◌, Option, Some, None, refl, sym, ap, ◌∙◌}
use Rattle.std.specs.Prelude.{map, slice_get, slice_set}
use Rattle.std.specs.Option.{option_map}

-- ---- an element replaced

pub get_set_same : {A : Type 0} (xs : List A) (i : ℕ) (x y : A) → slice_get xs i ≡ Some x → slice_get (slice_set xs i y) i ≡ Some y
get_set_same [] i x y e = cc
get_set_same (z ∷ xs) zero x y e = refl
get_set_same (z ∷ xs) (suc i) x y e = get_set_same xs i x y e

pub map_set : {A B : Type 0} (f : A → B) (xs : List A) (i : ℕ) (x y : A) → slice_get xs i ≡ Some x → f y ≡ f x → map f (slice_set xs i y) ≡ map f xs
map_set f [] i x y e same = refl
map_set f (z ∷ xs) zero x y e same = let is : z ≡ x = cc in ap (λ b. b ∷ map f xs) (same ∙ ap f (sym is))
map_set f (z ∷ xs) (suc i) x y e same = ap (λ bs. f z ∷ bs) (map_set f xs i x y e same)

-- ---- an answer that is there

pub option_map_some : {A B : Type 0} (f : A → B) (o : Option A) (b : B) → option_map f o ≡ Some b → (a : A) × (o ≡ Some a) × (f a ≡ b)
option_map_some f None b e = absurd cc
option_map_some f (Some a) b e = (a, refl, cc)
