-- A stable sort by ranks leaves what has one rank in its order.
use Rattle.std.proofs.Common.{◌≡◌, ◌∙◌, ℕ, Bool, true, false, not, ◌&&◌, List, [], ◌∷◌, refl, sym, ap, subst, arith}
use Rattle.std.specs.Prelude.{filter, if◌then◌else◌, ◌==◌}
use Rattle.std.specs.List.Sorted.{IsStableByKey, ties}
use Rattle.std.specs.Ordering.{is_lt, nat_cmp}
use Rattle.std.proofs.lemmas.Bool.{eqb-true}
use Rattle.std.proofs.lemmas.Bool.Decides.{nat_tests}
use Rattle.std.proofs.lemmas.List.Elements.{filter_agree}

-- two ranks tie where they are one
tie_is : (a b : ℕ) → not (is_lt (nat_cmp a b)) && not (is_lt (nat_cmp b a)) ≡ (b == a)
tie_is a b = grind (arith, nat_tests)

module _ {X : Type 0} (rank : X → ℕ) where
  abbrev at : ℕ → List X → List X
  at r xs = filter (λ x. rank x == r) xs

  -- what is first of this rank has it
  head_ranks : (r : ℕ) (xs : List X) (x : X) (ys : List X) → at r xs ≡ x ∷ ys → rank x ≡ r
  head_ranks r [] x ys e = absurd cc
  head_ranks r (t ∷ ts) x ys e = by (rank t == r) refl e (head_ranks r ts x ys)
    where
      by : (b : Bool) → (rank t == r) ≡ b → (if b then t ∷ at r ts else at r ts) ≡ x ∷ ys → (at r ts ≡ x ∷ ys → rank x ≡ r) → rank x ≡ r
      by true is e rest = let same : t ≡ x = cc in ap rank (sym same) ∙ eqb-true _ _ is
      by false is e rest = rest e

  module _ (xs ys : List X) (stable : IsStableByKey rank nat_cmp xs ys) where
    one_rank : (r : ℕ) (x : X) → rank x ≡ r → at r ys ≡ at r xs
    one_rank r x is =
        let alike : (zs : List X) → at (rank x) zs ≡ filter (ties (λ (a b : X). is_lt (nat_cmp (rank a) (rank b))) x) zs = λ zs. filter_agree _ _ (λ (y : X). sym (tie_is (rank x) (rank y))) zs in
        subst (λ n. at n ys ≡ at n xs) is (alike ys ∙ stable x ∙ sym (alike xs))

    pub stays : (r : ℕ) → at r ys ≡ at r xs
    stays r = by (at r xs) (at r ys) refl refl
      where
        by : (one two : List X) → at r xs ≡ one → at r ys ≡ two → at r ys ≡ at r xs
        by [] [] e f = f ∙ sym e
        by (a ∷ rest) two e f = one_rank r a (head_ranks r xs a rest e)
        by [] (b ∷ rest) e f = one_rank r b (head_ranks r ys b rest f)
