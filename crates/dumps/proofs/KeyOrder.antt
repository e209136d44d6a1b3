-- Places in the order of their keys: the entries there are those of the map.
use Rattle.std.proofs.Common.{◌≡◌, ◌≢◌, ℕ, zero, suc, ◌<◌, ◌≤◌, Bool, true, false, cond, List, [], ◌∷◌, ◌++◌, length, get_or, take, All, Contains, Option, Some, None, is_some, IfSome, T, refl, sym, ap, ◌∙◌, subst, arith, Less, Equal, Greater, Ordering, is_lt, nat_cmp, IsPermutation, IsSortedBy, unwrap_or, append-nil, ⊎_elim}
use Rattle.std.specs.Prelude.{◌&&◌, nat_eq, slice_get, if◌then◌else◌, option_and_then}
use Rattle.std.specs.List.{IsDistinct}
use Rattle.std.specs.Ordering.{eq_by_cmp, ordering_reverse}
use Rattle.std.specs.Cmp.{IsStrictWeakOrder}
use Rattle.std.specs.Cmp.Lexicographic.{slice_cmp, nat_list_cmp_total}
use Rattle.std.specs.FinMap as finite_map
use Rattle.std.specs.FinMap.{find, is_sorted, entries_sorted, get-entries, slice_cmp-IsAntisymmetric, nat_cmp-IsAntisymmetric}
use Rattle.std.specs.FinMap.Entries.{below_all, same_entries}
use Rattle.std.proofs.lemmas.Bool.{cases_eq, eqb-false, ne_eqb}
use Rattle.std.proofs.lemmas.Cmp.{nat_eq_equiv}
use Rattle.std.proofs.lemmas.List.Elements.{All-push, All-weaker, Contains-append_left, Contains-push, recursion_from_All}
use Rattle.std.proofs.lemmas.List.Folds.{list_any_none}
use Rattle.std.proofs.lemmas.List.Sorted.{Contains-permutation, ranks_by, sorted_far}
use Rattle.std.proofs.lemmas.Map.Keys.{IsDistinct-IsPermutation, IsDistinct-push, apart_from_distinct}
use Rattle.std.proofs.lemmas.Option.{slice_get_within}
use Rattle.maps.specs.declared.shapes.Shape.{Shape}
use Rattle.maps.specs.Shapes.{AreShapesSupported, IsShapeSupported, entry_count, key_size, value_size}
use Rattle.maps.specs.MapSets.{Contents, Stored, entries_of, flat, key_at, value_in}
use Rattle.maps.specs.Scans.{HasPlaces, IsPage, KeyValue}
use Rattle.maps.proofs.Export.{all_get, found_at, key_same, key_ties}
use Rattle.dumps.specs.Written.{HoldsKeys, Pair, bytes_at, entries_at, entry_at, keyed_below, with_key, with_value}

abbrev by_bytes : List ℕ → List ℕ → Ordering
by_bytes = slice_cmp nat_cmp

-- ---- sizes

supported : (shapes : List Shape) (m : ℕ) (s : Shape) → AreShapesSupported shapes → slice_get shapes m ≡ Some s → IsShapeSupported s
supported shapes m s h at = all_get IsShapeSupported shapes m s (recursion_from_All IsShapeSupported shapes h.each) at

pub key_fits : (shapes : List Shape) (m : ℕ) (s : Shape) → AreShapesSupported shapes → slice_get shapes m ≡ Some s → key_size s ≤ 64
key_fits shapes m s h at = (supported shapes m s h at).key.1

pub has_entries : (shapes : List Shape) (m : ℕ) → AreShapesSupported shapes → IfSome (slice_get shapes m) (λ s. 0 < entry_count s)
has_entries shapes m h = by (slice_get shapes m) refl
  where
    by : (o : Option Shape) → slice_get shapes m ≡ o → IfSome o (λ s. 0 < entry_count s)
    by None at = tt
    by (Some s) at = (let n = (supported shapes m s h at).entries.0 in omega (arith, n))

-- ---- what is found among the entries at places

both : (a b : Bool) → T a → T b → T (a && b)
both true b p q = q
both false b p q = p

module _ (s : Stored) where
  abbrev key : ℕ → Option (List ℕ)
  key p = flat (slice_get s.keys p)

  abbrev value : List ℕ → Option (List ℕ)
  value k = finite_map.get (entries_of s) k

  -- what an entry more leaves of what is found at a key of the map, or at one that it lacks
  later : (q : List ℕ) (x : Option (List ℕ)) → value q ≡ x → (r : ℕ) (es : List Pair) → find by_bytes q es ≡ x → find by_bytes q (entry_at s r ++ es) ≡ x
  later q x has r es rest = by (key r)
    where
      tie : (k w : List ℕ) → value k ≡ Some w → (b : Bool) → eq_by_cmp by_bytes q k ≡ b → cond b (Some w) (find by_bytes q es) ≡ x
      tie k w e true t = sym e ∙ ap value (sym (key_same q k t)) ∙ has
      tie k w e false t = rest

      one : (k : List ℕ) (o : Option (List ℕ)) → value k ≡ o → find by_bytes q (with_value k o ++ es) ≡ x
      one k None e = rest
      one k (Some w) e = tie k w e (eq_by_cmp by_bytes q k) refl

      by : (o : Option (List ℕ)) → find by_bytes q (with_key (entries_of s) o ++ es) ≡ x
      by None = rest
      by (Some k) = one k (value k) refl

  absent : (q : List ℕ) → value q ≡ None → (ps : List ℕ) → find by_bytes q (entries_at s ps) ≡ None
  absent q none [] = refl
  absent q none (p ∷ ps) = later q None none p (entries_at s ps) (absent q none ps)

  present : (q v : List ℕ) → value q ≡ Some v → (ps : List ℕ) (p n : ℕ) → n < length ps → get_or ps n p ≡ p → key p ≡ Some q → find by_bytes q (entries_at s ps) ≡ Some v
  present q v has [] p n low is at = absurd (omega (arith, low))
  present q v has (r ∷ ps) p zero low is at =
      let here : key r ≡ Some q = ap key is ∙ at in
      subst (λ o. find by_bytes q (with_key (entries_of s) o ++ entries_at s ps) ≡ Some v) (sym here)
      (subst (λ o. find by_bytes q (with_value q o ++ entries_at s ps) ≡ Some v) (sym has) (ap (λ b. cond b (Some v) (find by_bytes q (entries_at s ps))) (key_ties q)))
  present q v has (r ∷ ps) p (suc n) low is at = later q (Some v) has r (entries_at s ps) (present q v has ps p n (omega (arith, low)) is at)

  -- ---- their order

  -- the key at the first place is below that at the second, if both have one
  abbrev Below : ℕ → ℕ → Type 0
  Below p r = (k l : List ℕ) → key p ≡ Some k → key r ≡ Some l → by_bytes k l ≡ Less

  below : (k : List ℕ) (ps : List ℕ) → ((n d : ℕ) (l : List ℕ) → n < length ps → key (get_or ps n d) ≡ Some l → by_bytes k l ≡ Less) → T (below_all by_bytes k (entries_at s ps))
  below k [] h = tt
  below k (r ∷ ps) h = by (key r) refl (below k ps (λ n d l low at. h (suc n) d l (omega (arith, low)) at))
    where
      one : (l : List ℕ) (o : Option (List ℕ)) → by_bytes k l ≡ Less → T (below_all by_bytes k (entries_at s ps)) → T (below_all by_bytes k (with_value l o ++ entries_at s ps))
      one l None e rest = rest
      one l (Some v) e rest = both (is_lt (by_bytes k l)) (below_all by_bytes k (entries_at s ps)) (subst (λ o. T (is_lt o)) (sym e) tt) rest

      by : (o : Option (List ℕ)) → key r ≡ o → T (below_all by_bytes k (entries_at s ps)) → T (below_all by_bytes k (with_key (entries_of s) o ++ entries_at s ps))
      by None e rest = rest
      by (Some l) e rest = one l (value l) (h zero r l (omega arith) e) rest

  in_order : (ps : List ℕ) → ((i j d : ℕ) → i < j → j < length ps → Below (get_or ps i d) (get_or ps j d)) → T (is_sorted by_bytes (entries_at s ps))
  in_order [] h = tt
  in_order (p ∷ ps) h = by (key p) refl (in_order ps (λ i j d a b. h (suc i) (suc j) d (omega (arith, a)) (omega (arith, b))))
    where
      one : (k : List ℕ) (o : Option (List ℕ)) → key p ≡ Some k → T (is_sorted by_bytes (entries_at s ps)) → T (is_sorted by_bytes (with_value k o ++ entries_at s ps))
      one k None e rest = rest
      one k (Some v) e rest =
          both (below_all by_bytes k (entries_at s ps)) (is_sorted by_bytes (entries_at s ps)) (below k ps (λ n d l low at. h zero (suc n) d (omega arith) (omega (arith, low)) k l e at)) rest

      by : (o : Option (List ℕ)) → key p ≡ o → T (is_sorted by_bytes (entries_at s ps)) → T (is_sorted by_bytes (with_key (entries_of s) o ++ entries_at s ps))
      by None e rest = rest
      by (Some k) e rest = one k (value k) e rest

  rising_are : (ps : List ℕ) → ((i j d : ℕ) → i < j → j < length ps → Below (get_or ps i d) (get_or ps j d))
      → ((p : ℕ) (k : List ℕ) → slice_get s.keys p ≡ Some (Some k) → Contains ps p) → entries_at s ps ≡ finite_map.entries (entries_of s)
  rising_are ps rise all =
      same_entries by_bytes nat_list_cmp_total (slice_cmp-IsAntisymmetric nat_cmp-IsAntisymmetric) (entries_at s ps) (finite_map.entries (entries_of s)) (in_order ps rise) (entries_sorted (entries_of s))
      (λ q. by q (value q) refl ∙ get-entries (entries_of s) q)
    where
      by : (q : List ℕ) (o : Option (List ℕ)) → value q ≡ o → find by_bytes q (entries_at s ps) ≡ value q
      by q None e = absent q e ps ∙ sym e
      by q (Some v) e =
          let at = found_at s.keys (value_in (value_size s.shape) s.bytes) 0 q v e in
          let among = all at.0 q at.1 in
          present q v e ps at.0 among.0 among.1 among.2 (ap flat at.1) ∙ sym e

-- ---- places that are sorted

stands : (o : Option (Option (List ℕ))) (k : List ℕ) → flat o ≡ Some k → o ≡ Some (Some k)
stands None k e = absurd cc
stands (Some o) k e = ap Some e

ordered : (k l : List ℕ) (o : Ordering) → by_bytes k l ≡ o → is_lt (by_bytes l k) ≡ false → k ≢ l → o ≡ Less
ordered k l Less e h ne = refl
ordered k l Equal e h ne = absurd (ne (slice_cmp-IsAntisymmetric nat_cmp-IsAntisymmetric k l e))
ordered k l Greater e h ne =
    let back : by_bytes l k ≡ Less = nat_list_cmp_total.antisymm l k ∙ ap ordering_reverse e in
    let no : true ≡ false = sym (ap is_lt back) ∙ h in
    absurd cc

-- the key at the first place is below that at the second
abbrev pub is_below : Contents → ℕ → ℕ → ℕ → Bool
is_below c m a b = is_lt (by_bytes (bytes_at c m a) (bytes_at c m b))

pub is_order : (c : Contents) (m : ℕ) → IsStrictWeakOrder (is_below c m)
is_order c m = ranks_by nat_list_cmp_total (bytes_at c m)

-- what sorting by the keys leaves
pub sorted_are : (c : Contents) (m : ℕ) (s : Stored) (xs ps : List ℕ) → slice_get c m ≡ Some s → HoldsKeys s xs → IsPermutation xs ps → IsSortedBy (is_below c m) ps
    → entries_at s ps ≡ finite_map.entries (entries_of s)
sorted_are c m s xs ps at holds moved sorted = rising_are s ps rise (λ p k is. Contains-permutation xs ps p moved (holds.all p k is))
  where
    is_key : (p : ℕ) (k : List ℕ) → flat (slice_get s.keys p) ≡ Some k → bytes_at c m p ≡ k
    is_key p k e = ap (λ o. unwrap_or (option_and_then (λ (x : Stored). flat (slice_get x.keys p)) o) []) at ∙ ap (λ o. unwrap_or o []) e

    distinct : IsDistinct nat_eq ps
    distinct = IsDistinct-IsPermutation nat_eq nat_eq_equiv.symm xs ps moved holds.once

    rise : (i j d : ℕ) → i < j → j < length ps → Below s (get_or ps i d) (get_or ps j d)
    rise i j d a b k l ki lj =
        let far = sorted_far (is_below c m) (is_order c m) ps sorted i j d (omega (arith, a)) b in
        let not_less : is_lt (by_bytes l k) ≡ false = sym (ap is_lt (ap (λ y. by_bytes y k) (is_key (get_or ps j d) l lj))) ∙ sym (ap is_lt (ap (by_bytes (bytes_at c m (get_or ps j d))) (is_key (get_or ps i d) k ki))) ∙ far in
        let apart = eqb-false (get_or ps i d) (get_or ps j d) (apart_from_distinct nat_eq ps i j d distinct a b) in
        ordered k l (by_bytes k l) refl not_less
        (λ same. apart (holds.apart (get_or ps i d) (get_or ps j d) k (stands (slice_get s.keys (get_or ps i d)) k ki) (stands (slice_get s.keys (get_or ps j d)) k (lj ∙ ap Some (sym same)))))

-- ---- the places that have a key

low : (s : Stored) (n : ℕ) → All (λ p. p < n) (keyed_below s n)
low s zero = λ k d h. absurd (omega (arith, h))
low s (suc n) = by (is_some (flat (slice_get s.keys n))) (All-weaker (λ p. p < n) (λ p. p < suc n) (λ p h. omega (arith, h)) (keyed_below s n) (low s n))
  where
    by : (b : Bool) → All (λ p. p < suc n) (keyed_below s n) → All (λ p. p < suc n) (keyed_below s n ++ (if b then n ∷ [] else []))
    by true h = All-push (λ p. p < suc n) (keyed_below s n) n h (omega arith)
    by false h = subst (All (λ p. p < suc n)) (sym (append-nil (keyed_below s n))) h

once : (s : Stored) (n : ℕ) → IsDistinct nat_eq (keyed_below s n)
unfolding IsDistinct
once s zero = tt
once s (suc n) = by (is_some (flat (slice_get s.keys n))) (once s n)
  where
    new : All (λ p. nat_eq n p ≡ false) (keyed_below s n)
    new = All-weaker (λ p. p < n) (λ p. nat_eq n p ≡ false) (λ p h. ne_eqb n p (λ e. omega (arith, h, e))) (keyed_below s n) (low s n)

    by : (b : Bool) → IsDistinct nat_eq (keyed_below s n) → IsDistinct nat_eq (keyed_below s n ++ (if b then n ∷ [] else []))
    by true h = IsDistinct-push nat_eq_equiv (keyed_below s n) n h (list_any_none (nat_eq n) (keyed_below s n) new)
    by false h = subst (IsDistinct nat_eq) (sym (append-nil (keyed_below s n))) h

all_below : (s : Stored) (n p : ℕ) (k : List ℕ) → p < n → slice_get s.keys p ≡ Some (Some k) → Contains (keyed_below s n) p
all_below s zero p k h at = absurd (omega (arith, h))
all_below s (suc n) p k h at = ⊎_elim last (λ ne. earlier (all_below s n p k (omega (arith, h, ne)) at)) (cases_eq p n)
  where
    earlier : Contains (keyed_below s n) p → Contains (keyed_below s (suc n)) p
    earlier h = Contains-append_left (keyed_below s n) (if is_some (flat (slice_get s.keys n)) then n ∷ [] else []) p h

    last : p ≡ n → Contains (keyed_below s (suc n)) p
    last is =
        let there : is_some (flat (slice_get s.keys n)) ≡ true = ap (λ o. is_some (flat o)) (ap (slice_get s.keys) (sym is) ∙ at) in
        subst (λ b. Contains (keyed_below s n ++ (if b then n ∷ [] else [])) p) (sym there) (subst (Contains (keyed_below s n ++ n ∷ [])) (sym is) (Contains-push (keyed_below s n) n))

keyed_all : (s : Stored) → HasPlaces s → HoldsKeys s (keyed_below s (length s.keys))
keyed_all s h = record { apart = h.apart; once = once s (length s.keys); all = λ p k at. all_below s (length s.keys) p k (slice_get_within s.keys p (Some k) at) at }

-- ---- the loop over the places

-- these are the places below n of map m that have a key
abbrev pub IsKeyed : Contents → ℕ → ℕ → List ℕ → Type 0
IsKeyed c m n places = IfSome (slice_get c m) (λ s. places ≡ keyed_below s n)

pub all_keyed : (c : Contents) (m n : ℕ) (s : Stored) (places : List ℕ) (es : Stored → List KeyValue) (next : Option ℕ) → slice_get c m ≡ Some s → IfSome (slice_get c m) (λ s. IsPage s 0 (es s) next)
    → IfSome (slice_get c m) (λ s. n ≡ length s.keys) → IsKeyed c m n places → HoldsKeys s places
all_keyed c m n s places es next at page end is =
    let of_page = subst (λ o. IfSome o (λ s. IsPage s 0 (es s) next)) at page in
    let of_end = subst (λ o. IfSome o (λ (s : Stored). n ≡ length s.keys)) at end in
    let of_is = subst (λ o. IfSome o (λ s. places ≡ keyed_below s n)) at is in
    subst (HoldsKeys s) (sym (of_is ∙ ap (keyed_below s) of_end)) (keyed_all s of_page.places)

-- ---- a key that is read

no_key : (o : Option (List ℕ)) → is_some o ≡ false → o ≡ None
no_key None h = refl
no_key (Some k) h = absurd cc

pub read_is : (c : Contents) (m p : ℕ) (o : Option ℕ) (room : List ℕ) → is_some o ≡ is_some (key_at c m p) → IfSome o (λ n. key_at c m p ≡ Some (take n room)) → take (unwrap_or o 0) room ≡ bytes_at c m p
read_is c m p None room there is = sym (ap (λ k. unwrap_or k []) (no_key (key_at c m p) (sym there)))
read_is c m p (Some n) room there is = sym (ap (λ k. unwrap_or k []) is)
