-- An entry put behind all that are listed is listed last.
use Rattle.std.proofs.Common.{◌≡◌, ℕ, T, Bool, true, false, cond, ◌&&◌, List, [], ◌∷◌, ◌++◌, refl, sym, ap, ◌∙◌}
use Rattle.std.specs.Prelude.{filter}
use Rattle.std.specs.List.{AllByRecursion}
use Rattle.std.specs.declared.cmp.Ordering.{Ordering}
use Rattle.std.specs.declared.cmp.Ordering.TheVariants.{Less, Equal, Greater}
use Rattle.std.specs.Ordering.{is_lt, nat_cmp, ordering_reverse}
use Rattle.std.specs.Cmp.Lexicographic.{slice_cmp, nat_list_cmp_total}
use Rattle.std.specs.FinMap as finite_map
use Rattle.std.specs.FinMap.{put, is_sorted, slice_cmp-IsAntisymmetric, nat_cmp-IsAntisymmetric}
use Rattle.std.specs.FinMap.Entries.{below_all}

-- ---- the order of keys

abbrev pub by_bytes : List ℕ → List ℕ → Ordering
by_bytes = slice_cmp nat_cmp

abbrev pub Pair : Type 0
Pair = List ℕ × List ℕ

pub less : (o : Ordering) → T (is_lt o) → o ≡ Less
less Less h = refl
less Equal h = absurd h
less Greater h = absurd h

pub first : (a b : Bool) → T (a && b) → T a × T b
first true b h = (tt, h)
first false b h = absurd h

pub same_key : (x y : List ℕ) → by_bytes x y ≡ Equal → x ≡ y
same_key = slice_cmp-IsAntisymmetric nat_cmp-IsAntisymmetric

pub turned : (x y : List ℕ) (o : Ordering) → by_bytes x y ≡ o → by_bytes y x ≡ ordering_reverse o
turned x y o e = nat_list_cmp_total.antisymm y x ∙ ap ordering_reverse e

-- ---- the entries of one map that are kept

module _ (keep : List ℕ → Bool) where
  abbrev pub kept : List Pair → List Pair
  kept = filter (λ e. keep e.1)

  -- the entries that are kept have keys below this one
  abbrev pub KeptBelow : List ℕ → List Pair → Type 0
  KeptBelow k es = AllByRecursion (λ (e : Pair). keep e.1 ≡ true → by_bytes e.0 k ≡ Less) es

  -- an entry that is not below the key is not kept
  not_kept : (b : Bool) (e k : List ℕ) (o : Ordering) → by_bytes k e ≡ o → (ordering_reverse o ≡ Less → ⊥) → (b ≡ true → by_bytes e k ≡ Less) → b ≡ false
  not_kept false e k o is never h = refl
  not_kept true e k o is never h = absurd (never (sym (turned k e o is) ∙ h refl))

  none_kept : (k x : List ℕ) (es : List Pair) → T (below_all by_bytes x es) → ((y : List ℕ) → by_bytes x y ≡ Less → by_bytes k y ≡ Less) → KeptBelow k es → kept es ≡ []
  none_kept k x [] above le below = refl
  none_kept k x (e ∷ es) above le below =
      let parts = first (is_lt (by_bytes x e.0)) (below_all by_bytes x es) above in
      let no : keep e.1 ≡ false = not_kept (keep e.1) e.0 k Less (le e.0 (less _ parts.0)) (λ h. cc) below.0 in
      rw no (none_kept k x es parts.1 le below.1)

  module _ (k v : List ℕ) (keeps : keep v ≡ true) where
    before_all : (e : Pair) (es : List Pair) → by_bytes k e.0 ≡ Less → T (is_sorted by_bytes (e ∷ es)) → KeptBelow k (e ∷ es) → kept ((k, v) ∷ e ∷ es) ≡ kept (e ∷ es) ++ (k, v) ∷ []
    before_all e es is sorted below =
        let parts = first (below_all by_bytes e.0 es) (is_sorted by_bytes es) sorted in
        let no : keep e.1 ≡ false = not_kept (keep e.1) e.0 k Less is (λ h. cc) below.0 in
        let none : kept es ≡ [] = none_kept k e.0 es parts.0 (λ y lt. nat_list_cmp_total.trans k e.0 y is lt) below.1 in
        rw (keeps, no, none) refl

    in_place : (e : Pair) (es : List Pair) → by_bytes k e.0 ≡ Equal → T (is_sorted by_bytes (e ∷ es)) → KeptBelow k (e ∷ es) → kept ((e.0, v) ∷ es) ≡ kept (e ∷ es) ++ (k, v) ∷ []
    in_place e es is sorted below =
        let parts = first (below_all by_bytes e.0 es) (is_sorted by_bytes es) sorted in
        let no : keep e.1 ≡ false = not_kept (keep e.1) e.0 k Equal is (λ h. cc) below.0 in
        let none : kept es ≡ [] = none_kept k e.0 es parts.0 (λ y lt. nat_list_cmp_total.congr k e.0 y is ∙ lt) below.1 in
        rw (keeps, no, none) (ap (λ y. (y, v) ∷ []) (sym (same_key k e.0 is)))

    one_on : (b : Bool) (e : Pair) (xs ys : List Pair) → xs ≡ ys ++ (k, v) ∷ [] → cond b (e ∷ xs) xs ≡ cond b (e ∷ ys) ys ++ (k, v) ∷ []
    one_on true e xs ys is = ap (λ x. e ∷ x) is
    one_on false e xs ys is = is

    pub put_kept : (es : List Pair) → T (is_sorted by_bytes es) → KeptBelow k es → kept (put by_bytes k v es) ≡ kept es ++ (k, v) ∷ []
    put_kept [] sorted below = rw keeps refl
    put_kept (e ∷ es) sorted below =
        elim (by_bytes k e.0) as (λ o. by_bytes k e.0 ≡ o → kept (finite_map.Entries.by_order o ((k, v) ∷ e ∷ es) ((e.0, v) ∷ es) (e ∷ put by_bytes k v es)) ≡ kept (e ∷ es) ++ (k, v) ∷ []) [
          | Less ↦ λ is. before_all e es is sorted below
          | Equal ↦ λ is. in_place e es is sorted below
          | Greater ↦ λ is. one_on (keep e.1) e _ _ (put_kept es (first (below_all by_bytes e.0 es) (is_sorted by_bytes es) sorted).1 below.1)
        ] refl

  -- what is not kept leaves the others
  pub put_dropped : (k v : List ℕ) (es : List Pair) → keep v ≡ false → kept es ≡ [] → kept (put by_bytes k v es) ≡ []
  put_dropped k v [] absent none = rw absent refl
  put_dropped k v (e ∷ es) absent none =
      let rest = dropped (keep e.1) e (kept es) none in
      elim (by_bytes k e.0) as (λ o. kept (finite_map.Entries.by_order o ((k, v) ∷ e ∷ es) ((e.0, v) ∷ es) (e ∷ put by_bytes k v es)) ≡ []) [
        | Less ↦ rw absent none
        | Equal ↦ rw absent rest.1
        | Greater ↦ rw rest.0 (put_dropped k v es absent rest.1)
      ]
    where
      dropped : (b : Bool) (e : Pair) (xs : List Pair) → cond b (e ∷ xs) xs ≡ [] → (b ≡ false) × (xs ≡ [])
      dropped true e xs is = absurd cc
      dropped false e xs is = (refl, is)
