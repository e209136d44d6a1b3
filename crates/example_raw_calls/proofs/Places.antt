-- The two places of a pool, as sessions are taken from there and given back.
use Rattle.std.proofs.Common.{◌≡◌, ◌<◌, ◌/◌, zero, suc, List, [], ◌∷◌, length, set, get_or, refl, sym, ap, ◌∙◌, subst, arith, Option, None, Some}
use Rattle.std.proofs.lemmas.Option.{same_Some}
use Rattle.host_calls.specs.Stores.{IsGiven, IsOfNode, IsTaken, seated}
use Rattle.host_calls.specs.declared.attached.Attached.{Attached}
use Rattle.host_calls.specs.declared.pool.Pool.{Pool}

-- a list of two
pub two : {A : Type 0} (d : A) (xs : List A) → length xs ≡ 2 → xs ≡ get_or xs 0 d ∷ get_or xs 1 d ∷ []
two d [] e = absurd cc
two d (x ∷ []) e = absurd cc
two d (x ∷ y ∷ []) e = refl
two d (x ∷ y ∷ z ∷ xs) e = absurd cc

none_some : {A : Type 0} (x : A) → None ≡ Some x → ⊥
none_some x e = absurd cc

-- the pool has these two places
abbrev pub HasTwo : Pool → Option Attached → Option Attached → Type 0
HasTwo pool x y = pool.places.items ≡ x ∷ y ∷ []

module _ (p q : Pool) (slots : p.slots ≡ 2) (a : Attached) where
  at_zero : (x y : Option Attached) → HasTwo p x y → seated p 0 ≡ x
  at_zero x y is = ap (λ z. get_or z 0 None) is

  at_one : (x y : Option Attached) → HasTwo p x y → seated p 1 ≡ y
  at_one x y is = ap (λ z. get_or z 1 None) is

  of_node : (x y : Option Attached) → HasTwo p x y → IsOfNode p 0 0
  of_node x y is = (subst (λ z. 0 < length z) (sym is) (omega arith), subst (λ z. 0 < z) (sym slots) (omega arith), subst (λ z. 0 / z ≡ 0) (sym slots) refl)

  -- the first of two sessions is taken
  pub takes_first : (x : Attached) (y : Option Attached) → HasTwo p (Some x) y → IsTaken p q 0 a
      → (a ≡ x) × HasTwo q None y
  takes_first x y is (zero, of, before, seat, left) = (same_Some a x (sym seat ∙ at_zero (Some x) y is), left ∙ ap (λ z. set z 0 None) is)
  takes_first x y is (suc k, of, before, seat, left) = absurd (none_some x (sym (before 0 (omega arith) (of_node (Some x) y is)) ∙ at_zero (Some x) y is))

  -- and then the second
  pub takes_second : (y : Attached) → HasTwo p None (Some y) → IsTaken p q 0 a → (a ≡ y) × HasTwo q None None
  takes_second y is (zero, of, before, seat, left) = absurd (none_some a (sym (at_zero None (Some y) is) ∙ seat))
  takes_second y is (suc zero, of, before, seat, left) = (same_Some a y (sym seat ∙ at_one None (Some y) is), left ∙ ap (λ z. set z 1 None) is)
  takes_second y is (suc (suc k), of, before, seat, left) = absurd (let low = of.0 in let long = ap length is in omega (arith, low, long))

  -- and back
  pub gives_first : (y : Option Attached) → HasTwo p None y → a.place ≡ 0 → IsGiven p q a → HasTwo q (Some a) y
  gives_first y is at given = given.2 ∙ (λ j. set (is j) (at j) (Some a))

  pub gives_second : (x : Option Attached) → HasTwo p x None → a.place ≡ 1 → IsGiven p q a → HasTwo q x (Some a)
  gives_second x is at given = given.2 ∙ (λ j. set (is j) (at j) (Some a))
