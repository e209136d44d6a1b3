-- The finite map of keys at places: its value at each key, and after a value is written.
use Rattle.std.proofs.Common.{◌≡◌, ◌≢◌, ℕ, zero, suc, ◌+◌, ◌<◌, ◌≤◌, Bool, true, false, cond, List, [], ◌∷◌, length, Option, Some, None, refl, sym, ap, ◌∙◌, arith, subst}
use Rattle.std.specs.Prelude.{◌^◌, slice_get, replicate, is_some}
use Rattle.std.specs.Ordering.{nat_cmp, eq_by_cmp}
use Rattle.std.specs.Cmp.Lexicographic.{slice_cmp, nat_list_cmp_total}
use Rattle.std.specs.FinMap as finite_map
use Rattle.std.specs.FinMap.{get-insert, get-empty, len-insert, len-empty, same_map, slice_cmp-IsAntisymmetric, nat_cmp-IsAntisymmetric}
use Rattle.std.proofs.lemmas.Option.{slice_get_within}
use Rattle.keyindex.specs.Places.{filled}
use Rattle.maps.specs.declared.shapes.Shape.TheVariants.{Hash}
use Rattle.maps.specs.Maps.{index_key}
use Rattle.maps.specs.MapSets.{placed, index_keys, opening_keys}
use Rattle.maps.proofs.Keys.{key_ties, key_differs, key_same, index_same}

-- each key stands at one place
abbrev pub Distinct : List (Option (List ℕ)) → Type 0
Distinct [] = Unit {0}
Distinct (None ∷ ks) = Distinct ks
Distinct (Some k ∷ ks) = ((p : ℕ) → slice_get ks p ≢ Some (Some k)) × Distinct ks

pub same_key : (q k : List ℕ) → Some (Some q) ≡ Some (Some k) → q ≡ k
same_key q k e = cc

-- ---- the value at a key

pub get_placed : (keys : List (Option (List ℕ))) (v : ℕ → List ℕ) (n p : ℕ) (k : List ℕ) → Distinct keys → slice_get keys p ≡ Some (Some k) → finite_map.get (placed keys v n) k ≡ Some (v (n + p))
get_placed [] v n p k d e = absurd cc
get_placed (None ∷ ks) v n zero k d e = absurd cc
get_placed (None ∷ ks) v n (suc p) k d e = get_placed ks v (suc n) p k d e ∙ ap (λ i. Some (v i)) (omega arith)
get_placed (Some q ∷ ks) v n zero k d e =
    let is : q ≡ k = same_key q k e in
    get-insert nat_list_cmp_total (placed ks v (suc n)) q (v n) k
    ∙ (ap (λ b. cond b (Some (v n)) (finite_map.get (placed ks v (suc n)) k)) (subst (λ r. eq_by_cmp (slice_cmp nat_cmp) k r ≡ true) (sym is) (key_ties k))
    ∙ ap (λ i. Some (v i)) (omega arith))
get_placed (Some q ∷ ks) v n (suc p) k d e =
    get-insert nat_list_cmp_total (placed ks v (suc n)) q (v n) k
    ∙ (ap (λ b. cond b (Some (v n)) (finite_map.get (placed ks v (suc n)) k)) (key_differs k q (λ is. d.0 p (subst (λ r. slice_get ks p ≡ Some (Some r)) is e)))
    ∙ (get_placed ks v (suc n) p k d.1 e ∙ ap (λ i. Some (v i)) (omega arith)))

-- a key that stands nowhere
pub get_nowhere : (keys : List (Option (List ℕ))) (v : ℕ → List ℕ) (n : ℕ) (k : List ℕ) → ((p : ℕ) → slice_get keys p ≢ Some (Some k)) → finite_map.get (placed keys v n) k ≡ None
get_nowhere [] v n k absent = get-empty (slice_cmp nat_cmp) k
get_nowhere (None ∷ ks) v n k absent = get_nowhere ks v (suc n) k (λ p. absent (suc p))
get_nowhere (Some q ∷ ks) v n k absent =
    get-insert nat_list_cmp_total (placed ks v (suc n)) q (v n) k
    ∙ (ap (λ b. cond b (Some (v n)) (finite_map.get (placed ks v (suc n)) k)) (key_differs k q (λ is. absent 0 (ap (λ r. Some (Some r)) (sym is))))
    ∙ get_nowhere ks v (suc n) k (λ p. absent (suc p)))

-- a key with a value stands somewhere, and that is the value of its place
pub found_at : (keys : List (Option (List ℕ))) (v : ℕ → List ℕ) (n : ℕ) (k x : List ℕ) → finite_map.get (placed keys v n) k ≡ Some x → (p : ℕ) × (slice_get keys p ≡ Some (Some k)) × (x ≡ v (n + p))
found_at [] v n k x e = absurd (let none : None ≡ Some x = sym (get-empty (slice_cmp nat_cmp) k) ∙ e in cc)
found_at (None ∷ ks) v n k x e =
    let rest = found_at ks v (suc n) k x e in
    (suc rest.0, rest.1, rest.2 ∙ ap v (let q : suc n + rest.0 ≡ n + suc rest.0 = omega arith in q))
found_at (Some q ∷ ks) v n k x e = by (found_at ks v (suc n) k x) (eq_by_cmp (slice_cmp nat_cmp) k q) refl (sym (get-insert nat_list_cmp_total (placed ks v (suc n)) q (v n) k) ∙ e)
  where
    by : (finite_map.get (placed ks v (suc n)) k ≡ Some x → (p : ℕ) × (slice_get ks p ≡ Some (Some k)) × (x ≡ v (suc n + p))) → (b : Bool) → eq_by_cmp (slice_cmp nat_cmp) k q ≡ b → cond b (Some (v n)) (finite_map.get (placed ks v (suc n)) k) ≡ Some x → (p : ℕ) × (slice_get (Some q ∷ ks) p ≡ Some (Some k)) × (x ≡ v (n + p))
    by more true same h = (0, ap (λ r. Some (Some r)) (sym (key_same k q same)), (let is : v n ≡ x = cc in sym is) ∙ ap v (let z : n ≡ n + 0 = omega arith in z))
    by more false same h =
        let rest = more h in
        (suc rest.0, rest.1, rest.2 ∙ ap v (let q : suc n + rest.0 ≡ n + suc rest.0 = omega arith in q))

-- ---- values changed

pub same_placed : (keys : List (Option (List ℕ))) (v w : ℕ → List ℕ) (n : ℕ) → ((i : ℕ) → i < length keys → w (n + i) ≡ v (n + i)) → placed keys w n ≡ placed keys v n
same_placed [] v w n same = refl
same_placed (None ∷ ks) v w n same = same_placed ks v w (suc n) (λ i h. subst (λ j. w j ≡ v j) (omega arith) (same (suc i) (omega arith)))
same_placed (Some k ∷ ks) v w n same =
    let first : w n ≡ v n = subst (λ j. w j ≡ v j) (omega arith) (same 0 (omega arith)) in
    let rest = same_placed ks v w (suc n) (λ i h. subst (λ j. w j ≡ v j) (omega arith) (same (suc i) (omega arith))) in
    ap (λ m. finite_map.insert m k (w n)) rest ∙ ap (finite_map.insert (placed ks v (suc n)) k) first

swapped : (a b : Bool) (x y g : Option (List ℕ)) → (a ≡ true → b ≢ true) → cond a y (cond b x g) ≡ cond b x (cond a y g)
swapped true true x y g ne = absurd (ne refl refl)
swapped true false x y g ne = refl
swapped false true x y g ne = refl
swapped false false x y g ne = refl

twice : (a : Bool) (x y g : Option (List ℕ)) → cond a x g ≡ cond a x (cond a y g)
twice true x y g = refl
twice false x y g = refl

get_changed : (keys : List (Option (List ℕ))) (v w : ℕ → List ℕ) (n p : ℕ) (k q : List ℕ) → Distinct keys → slice_get keys p ≡ Some (Some k)
    → ((i : ℕ) → i < length keys → i ≢ p → w (n + i) ≡ v (n + i))
    → finite_map.get (placed keys w n) q ≡ cond (eq_by_cmp (slice_cmp nat_cmp) q k) (Some (w (n + p))) (finite_map.get (placed keys v n) q)
get_changed [] v w n p k q d e same = absurd cc
get_changed (None ∷ ks) v w n zero k q d e same = absurd cc
get_changed (None ∷ ks) v w n (suc p) k q d e same =
    get_changed ks v w (suc n) p k q d e (λ i h ne. subst (λ j. w j ≡ v j) (omega arith) (same (suc i) (omega arith) (omega (arith, ne))))
    ∙ ap (λ j. cond (eq_by_cmp (slice_cmp nat_cmp) q k) (Some (w j)) (finite_map.get (placed ks v (suc n)) q)) (omega arith)
get_changed (Some r ∷ ks) v w n zero k q d e same =
    let is : r ≡ k = same_key r k e in
    let rest : placed ks w (suc n) ≡ placed ks v (suc n) = same_placed ks v w (suc n) (λ i h. subst (λ j. w j ≡ v j) (omega arith) (same (suc i) (omega arith) (omega arith))) in
    get-insert nat_list_cmp_total (placed ks w (suc n)) r (w n) q
    ∙ (ap (λ m. cond (eq_by_cmp (slice_cmp nat_cmp) q r) (Some (w n)) (finite_map.get m q)) rest
    ∙ (twice (eq_by_cmp (slice_cmp nat_cmp) q r) (Some (w n)) (Some (v n)) (finite_map.get (placed ks v (suc n)) q)
    ∙ (ap (cond (eq_by_cmp (slice_cmp nat_cmp) q r) (Some (w n))) (sym (get-insert nat_list_cmp_total (placed ks v (suc n)) r (v n) q))
    ∙ (ap (λ j. cond (eq_by_cmp (slice_cmp nat_cmp) q r) (Some (w j)) (finite_map.get (placed (Some r ∷ ks) v n) q)) (omega arith)
    ∙ ap (λ x. cond (eq_by_cmp (slice_cmp nat_cmp) q x) (Some (w (n + zero))) (finite_map.get (placed (Some r ∷ ks) v n) q)) is))))
get_changed (Some r ∷ ks) v w n (suc p) k q d e same =
    let first : w n ≡ v n = subst (λ j. w j ≡ v j) (omega arith) (same 0 (omega arith) (omega arith)) in
    let other : eq_by_cmp (slice_cmp nat_cmp) q r ≡ true → eq_by_cmp (slice_cmp nat_cmp) q k ≢ true = λ a b. d.0 p (subst (λ x. slice_get ks p ≡ Some (Some x)) (sym (key_same q k b) ∙ key_same q r a) e) in
    get-insert nat_list_cmp_total (placed ks w (suc n)) r (w n) q
    ∙ (ap (λ x. cond (eq_by_cmp (slice_cmp nat_cmp) q r) (Some x) (finite_map.get (placed ks w (suc n)) q)) first
    ∙ (ap (cond (eq_by_cmp (slice_cmp nat_cmp) q r) (Some (v n))) (get_changed ks v w (suc n) p k q d.1 e (λ i h ne. subst (λ j. w j ≡ v j) (omega arith) (same (suc i) (omega arith) (omega (arith, ne)))))
    ∙ (swapped (eq_by_cmp (slice_cmp nat_cmp) q r) (eq_by_cmp (slice_cmp nat_cmp) q k) (Some (w (suc n + p))) (Some (v n)) (finite_map.get (placed ks v (suc n)) q) other
    ∙ (ap (cond (eq_by_cmp (slice_cmp nat_cmp) q k) (Some (w (suc n + p)))) (sym (get-insert nat_list_cmp_total (placed ks v (suc n)) r (v n) q))
    ∙ ap (λ j. cond (eq_by_cmp (slice_cmp nat_cmp) q k) (Some (w j)) (finite_map.get (placed (Some r ∷ ks) v n) q)) (omega arith)))))

-- where the value of one place changes, its key has the new value
pub change_placed : (keys : List (Option (List ℕ))) (v w : ℕ → List ℕ) (p : ℕ) (k : List ℕ) → Distinct keys → slice_get keys p ≡ Some (Some k)
    → ((i : ℕ) → i < length keys → i ≢ p → w i ≡ v i) → placed keys w 0 ≡ finite_map.insert (placed keys v 0) k (w p)
change_placed keys v w p k d e same =
    same_map nat_list_cmp_total (slice_cmp-IsAntisymmetric nat_cmp-IsAntisymmetric) _ _ (λ q. get_changed keys v w 0 p k q d e (λ i h ne. subst (λ j. w j ≡ v j) (omega arith) (same i h ne)) ∙ (ap (λ j. cond (eq_by_cmp (slice_cmp nat_cmp) q k) (Some (w j)) (finite_map.get (placed keys v 0) q)) (omega arith) ∙ sym (get-insert nat_list_cmp_total (placed keys v 0) k (w p) q)))

-- ---- the keys of an array

pub length_index_keys : (i n : ℕ) → length (index_keys i n) ≡ n
length_index_keys i zero = refl
length_index_keys i (suc n) = ap suc (length_index_keys (suc i) n)

pub index_at : (i n p : ℕ) → p < n → slice_get (index_keys i n) p ≡ Some (Some (index_key (i + p)))
index_at i zero p h = absurd (omega arith)
index_at i (suc n) zero h = ap (λ j. Some (Some (index_key j))) (omega arith)
index_at i (suc n) (suc p) h = index_at (suc i) n p (omega arith) ∙ ap (λ j. Some (Some (index_key j))) (omega arith)

index_within : (i n p : ℕ) (k : List ℕ) → slice_get (index_keys i n) p ≡ Some (Some k) → p < n
index_within i n p k e = subst (λ x. p < x) (length_index_keys i n) (slice_get_within (index_keys i n) p (Some k) e)

pub index_stands : (i n p : ℕ) (k : List ℕ) → slice_get (index_keys i n) p ≡ Some (Some k) → (p < n) × (k ≡ index_key (i + p))
index_stands i n p k e =
    let h = index_within i n p k e in
    (h, same_key k (index_key (i + p)) (sym e ∙ index_at i n p h))

-- the key of no index from i on
pub index_nowhere : (i n j p : ℕ) → i + n ≤ 2 ^ 32 → j < 2 ^ 32 → ((q : ℕ) → q < n → i + q ≢ j) → slice_get (index_keys i n) p ≢ Some (Some (index_key j))
index_nowhere i n j p small h ne e =
    let at = index_stands i n p (index_key j) e in
    ne p at.0 (index_same (i + p) j (omega (arith, at.0)) h (sym at.1))

pub index_distinct : (i n : ℕ) → i + n ≤ 2 ^ 32 → Distinct (index_keys i n)
index_distinct i zero h = tt
index_distinct i (suc n) h = (λ p. index_nowhere (suc i) n i p (omega arith) (omega arith) (λ q _ e. omega (arith, e)), index_distinct (suc i) n (omega arith))

none_distinct : (n : ℕ) → Distinct (replicate n None)
none_distinct zero = tt
none_distinct (suc n) = none_distinct n

pub none_free : (n p : ℕ) (k : List ℕ) → slice_get (replicate n None) p ≢ Some (Some k)
none_free zero p k e = absurd cc
none_free (suc n) zero k e = absurd cc
none_free (suc n) (suc p) k e = none_free n p k e

-- ---- how many keys

pub len_placed : (ks : List (Option (List ℕ))) (v : ℕ → List ℕ) (n : ℕ) → Distinct ks → finite_map.len (placed ks v n) ≡ filled ks
len_placed [] v n d = len-empty (slice_cmp nat_cmp) (List ℕ)
len_placed (None ∷ ks) v n d = len_placed ks v (suc n) d
len_placed (Some k ∷ ks) v n d =
    let rest = placed ks v (suc n) in
    len-insert nat_list_cmp_total rest k (v n)
    ∙ (ap (λ o. cond (is_some o) (finite_map.len rest) (finite_map.len rest + 1)) (get_nowhere ks v (suc n) k d.0)
    ∙ (ap (λ x. x + 1) (len_placed ks v (suc n) d.1) ∙ omega arith))

pub filled_index : (i n : ℕ) → filled (index_keys i n) ≡ n
filled_index i zero = refl
filled_index i (suc n) = ap suc (filled_index (suc i) n)

filled_none : (n : ℕ) → filled (replicate n None) ≡ 0
filled_none zero = refl
filled_none (suc n) = filled_none n

pub len_hash : (key value entries : ℕ) (v : ℕ → List ℕ) → finite_map.len (placed (opening_keys (Hash key value entries)) v 0) ≡ 0
len_hash key value entries v = len_placed (replicate entries None) v 0 (none_distinct entries) ∙ filled_none entries
