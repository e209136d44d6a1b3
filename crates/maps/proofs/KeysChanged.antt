-- The finite map of keys at places where a key is put, or taken out with another moved to its place.
use Rattle.std.proofs.Common.{◌≡◌, ◌≢◌, ℕ, zero, suc, ◌+◌, Bool, true, false, cond, List, [], ◌∷◌, Option, Some, None, refl, sym, ap, ◌∙◌, arith, subst, inl, inr}
use Rattle.std.specs.Prelude.{slice_get}
use Rattle.std.specs.Ordering.{nat_cmp, eq_by_cmp}
use Rattle.std.specs.Cmp.Lexicographic.{slice_cmp, nat_list_cmp_total}
use Rattle.std.specs.FinMap as finite_map
use Rattle.std.specs.FinMap.{get-insert, get-remove, same_map, slice_cmp-IsAntisymmetric, nat_cmp-IsAntisymmetric}
use Rattle.std.proofs.lemmas.Bool.{cases_eq}
use Rattle.maps.specs.MapSets.{placed}
use Rattle.maps.proofs.Keys.{key_ties, key_same}
use Rattle.maps.proofs.Placed.{Distinct, get_placed, get_nowhere, found_at, same_key}

-- each key stands at one place
abbrev pub Once : List (Option (List ℕ)) → Type 0
Once ks = (p q : ℕ) (k : List ℕ) → slice_get ks p ≡ Some (Some k) → slice_get ks q ≡ Some (Some k) → p ≡ q

pub distinct_once : (ks : List (Option (List ℕ))) → Once ks → Distinct ks
distinct_once [] h = tt
distinct_once (None ∷ ks) h = distinct_once ks (λ p q k x y. let e = h (suc p) (suc q) k x y in omega (arith, e))
distinct_once (Some k ∷ ks) h =
    (λ p x. let e = h zero (suc p) k refl x in omega (arith, e), distinct_once ks (λ p q k x y. let e = h (suc p) (suc q) k x y in omega (arith, e)))

-- a key whose place and value move along
moved : (ks ls : List (Option (List ℕ))) (v w : ℕ → List ℕ) (q : List ℕ) → Distinct ks → Distinct ls
    → ((p : ℕ) → slice_get ks p ≡ Some (Some q) → (r : ℕ) × (slice_get ls r ≡ Some (Some q)) × (w r ≡ v p))
    → (((p : ℕ) → slice_get ks p ≢ Some (Some q)) → (r : ℕ) → slice_get ls r ≢ Some (Some q))
    → finite_map.get (placed ls w 0) q ≡ finite_map.get (placed ks v 0) q
moved ks ls v w q d e there nowhere = by (finite_map.get (placed ks v 0) q) refl
  where
    by : (o : Option (List ℕ)) → finite_map.get (placed ks v 0) q ≡ o → finite_map.get (placed ls w 0) q ≡ finite_map.get (placed ks v 0) q
    by None is = get_nowhere ls w 0 q (nowhere (λ p at. let x = get_placed ks v 0 p q d at in cc)) ∙ sym is
    by (Some x) is =
        let at = found_at ks v 0 q x is in
        let to = there at.0 at.1 in
        let value : w (0 + to.0) ≡ x = ap w (let z : 0 + to.0 ≡ to.0 = omega arith in z) ∙ (to.2 ∙ (ap v (let z : at.0 ≡ 0 + at.0 = omega arith in z) ∙ sym at.2)) in
        get_placed ls w 0 to.0 q e to.1 ∙ (ap Some value ∙ sym is)

by_key : (q k : List ℕ) (x y z : Option (List ℕ)) → (q ≡ k → x ≡ y) → (q ≢ k → x ≡ z) → x ≡ cond (eq_by_cmp (slice_cmp nat_cmp) q k) y z
by_key q k x y z same other = by (eq_by_cmp (slice_cmp nat_cmp) q k) refl
  where
    by : (b : Bool) → eq_by_cmp (slice_cmp nat_cmp) q k ≡ b → x ≡ cond (eq_by_cmp (slice_cmp nat_cmp) q k) y z
    by true e = same (key_same q k e) ∙ sym (ap (λ b. cond b y z) e)
    by false e = other (λ is. let t = subst (λ r. eq_by_cmp (slice_cmp nat_cmp) q r ≡ true) is (key_ties q) in let no : false ≡ true = sym e ∙ t in cc) ∙ sym (ap (λ b. cond b y z) e)

-- key k is at place p now, with the value there; what stood there was k or nothing
pub put_placed : (ks ls : List (Option (List ℕ))) (v w : ℕ → List ℕ) (p : ℕ) (k : List ℕ) → Distinct ks → Distinct ls → slice_get ls p ≡ Some (Some k) → ((q : List ℕ) → q ≢ k → slice_get ks p ≢ Some (Some q))
    → ((i : ℕ) → i ≢ p → slice_get ls i ≡ slice_get ks i) → ((i : ℕ) → i ≢ p → w i ≡ v i) → placed ls w 0 ≡ finite_map.insert (placed ks v 0) k (w p)
put_placed ks ls v w p k d e here was others values =
    same_map nat_list_cmp_total (slice_cmp-IsAntisymmetric nat_cmp-IsAntisymmetric) _ _ (λ q.
    by_key q k (finite_map.get (placed ls w 0) q) (Some (w p)) (finite_map.get (placed ks v 0) q)
    (λ is. ap (finite_map.get (placed ls w 0)) is ∙ (get_placed ls w 0 p k e here ∙ ap (λ i. Some (w i)) (let z : 0 + p ≡ p = omega arith in z)))
    (λ ne. moved ks ls v w q d e
    (λ i at. let other : i ≢ p = λ same. was q ne (ap (slice_get ks) (sym same) ∙ at) in (i, others i other ∙ at, values i other))
    (λ none r at. elim (cases_eq r p) [
      | inl same ↦ ne (same_key q k (sym at ∙ (ap (slice_get ls) same ∙ here)))
      | inr other ↦ none r (sym (others r other) ∙ at)
    ]))
    ∙ sym (get-insert nat_list_cmp_total (placed ks v 0) k (w p) q))

-- key k was at place a; what was at place f is at a now, with its value, and f is free
pub drop_placed : (ks ls : List (Option (List ℕ))) (v w : ℕ → List ℕ) (a f : ℕ) (k : List ℕ) → Once ks → Distinct ls → slice_get ks a ≡ Some (Some k) → slice_get ls f ≡ Some None → (a ≢ f → slice_get ls a ≡ slice_get ks f)
    → ((i : ℕ) → i ≢ a → i ≢ f → slice_get ls i ≡ slice_get ks i) → w a ≡ v f → ((i : ℕ) → i ≢ a → w i ≡ v i) → placed ls w 0 ≡ finite_map.remove (placed ks v 0) k
drop_placed ks ls v w a f k o e was free moves others value values =
    let d = distinct_once ks o in
    let gone : (r : ℕ) → slice_get ls r ≢ Some (Some k) = λ r at. elim (cases_eq r f) [
      | inl rf ↦ (let no : Some None ≡ Some (Some k) = sym free ∙ (ap (slice_get ls) (sym rf) ∙ at) in cc)
      | inr nf ↦ elim (cases_eq r a) [
        | inl ra ↦
            let af : a ≢ f = λ same. nf (ra ∙ same) in
            af (o a f k was (sym (moves af) ∙ (ap (slice_get ls) (sym ra) ∙ at)))
        | inr na ↦ na (o r a k (sym (others r na nf) ∙ at) was)
      ]
    ] in
    same_map nat_list_cmp_total (slice_cmp-IsAntisymmetric nat_cmp-IsAntisymmetric) _ _ (λ q.
    by_key q k (finite_map.get (placed ls w 0) q) None (finite_map.get (placed ks v 0) q)
    (λ is. ap (finite_map.get (placed ls w 0)) is ∙ get_nowhere ls w 0 k gone)
    (λ ne. moved ks ls v w q d e
    (λ i at.
    let na : i ≢ a = λ same. ne (same_key q k (sym at ∙ (ap (slice_get ks) same ∙ was))) in
    elim (cases_eq i f) [
      | inl same ↦
          let af : a ≢ f = λ x. na (same ∙ sym x) in
          (a, moves af ∙ (ap (slice_get ks) (sym same) ∙ at), value ∙ ap v (sym same))
      | inr nf ↦ (i, others i na nf ∙ at, values i na)
    ])
    (λ none r at. elim (cases_eq r f) [
      | inl rf ↦ (let no : Some None ≡ Some (Some q) = sym free ∙ (ap (slice_get ls) (sym rf) ∙ at) in cc)
      | inr nf ↦ elim (cases_eq r a) [
        | inl ra ↦ let af : a ≢ f = λ same. nf (ra ∙ same) in none f (sym (moves af) ∙ (ap (slice_get ls) (sym ra) ∙ at))
        | inr na ↦ none r (sym (others r na nf) ∙ at)
      ]
    ]))
    ∙ sym (get-remove nat_list_cmp_total (placed ks v 0) k q))
