-- The counters as a store opens with them, and after they went up.
use Rattle.std.proofs.Common.{◌≡◌, ◌∙◌, ℕ, suc, Bool, true, false, cond, List, [], ◌∷◌, Option, Some, None, refl, ap}
use Rattle.std.specs.Prelude.{not, ◌&&◌, replicate}
use Rattle.std.specs.FinMap as finite_map
use Rattle.std.specs.FinMap.{get-empty, get-insert}
use Rattle.std.specs.Ordering.{nat_cmp, eq_by_cmp}
use Rattle.std.specs.Cmp.Lexicographic.{slice_cmp, nat_list_cmp_total}
use Rattle.maps.specs.Maps.{Entries}
use Rattle.maps.specs.MapSets.{index_keys, placed}
use Rattle.helpers.proofs.Export.{inserted}
use Rattle.example_answers.proofs.Counting.{first, absent, value, put, counted}

abbrev is_same : List ℕ → List ℕ → Bool
is_same q k = eq_by_cmp (slice_cmp nat_cmp) q k

-- no such key is among these
abbrev is_other : List ℕ → List (Option (List ℕ)) → Bool
is_other q [] = true
is_other q (None ∷ ks) = is_other q ks
is_other q (Some k ∷ ks) = not (is_same q k) && is_other q ks

beside : (entries : Entries) (k v q : List ℕ) → is_same q k ≡ false
    → finite_map.get (finite_map.insert entries k v) q ≡ finite_map.get entries q
beside entries k v q e = get-insert nat_list_cmp_total entries k v q ∙ ap (λ b. cond b (Some v) (finite_map.get entries q)) e

both : (a b : Bool) → not a && b ≡ true → (a ≡ false) × (b ≡ true)
both false true e = (refl, refl)
both false false e = absurd cc
both true b e = absurd cc

not_placed : (q : List ℕ) (ks : List (Option (List ℕ))) (f : ℕ → List ℕ) (n : ℕ) → is_other q ks ≡ true
    → finite_map.get (placed ks f n) q ≡ None
not_placed q [] f n e = get-empty (slice_cmp nat_cmp) q
not_placed q (None ∷ ks) f n e = not_placed q ks f (suc n) e
not_placed q (Some k ∷ ks) f n e =
    let b = both (is_same q k) (is_other q ks) e in beside (placed ks f (suc n)) k (f n) q b.0 ∙ not_placed q ks f (suc n) b.1

-- sixteen counters, each 0
abbrev pub opening : Entries
opening = placed (index_keys 0 16) (λ _. replicate 8 0) 0

pub opens : finite_map.get opening first ≡ Some (value 0)
opens = inserted (placed (index_keys 1 15) (λ _. replicate 8 0) 1) first (value 0)

pub none_opens : finite_map.get opening absent ≡ None
none_opens = not_placed absent (index_keys 0 16) (λ _. replicate 8 0) 0 refl

pub counts : (entries : Entries) (n : ℕ) → finite_map.get (counted entries n) first ≡ Some (value n)
counts entries n = inserted _ first (value n)

aside : (entries : Entries) (n : ℕ) → finite_map.get (put entries n) absent ≡ finite_map.get entries absent
aside entries n = beside entries first (value n) absent refl

pub none_counts : (entries : Entries) (n : ℕ) → finite_map.get entries absent ≡ None
    → finite_map.get (counted entries n) absent ≡ None
none_counts entries n e = simp (aside, e) refl
