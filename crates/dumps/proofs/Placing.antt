-- The entries of all maps, in order, and one more behind them.
use Rattle.std.proofs.Common.{append_assoc, ◌≡◌, ◌⊎◌, inl, inr, ℕ, zero, suc, ◌+◌, ◌<◌, ◌≤◌, Bool, true, false, not, cond, ltb, eqb, ◌&&◌, ◌||◌, List, [], ◌∷◌, ◌++◌, map, length, replicate, Option, Some, None, refl, sym, ap, ◌∙◌, subst, arith}
use Rattle.std.specs.Prelude.{slice_get}
use Rattle.std.specs.List.{AllByRecursion, flat_map, enumerate_from, list_all}
use Rattle.std.proofs.lemmas.Bool.{eqb-true, ltb-true, lt-ltb, eq-eqb}
use Rattle.std.specs.declared.cmp.Ordering.{Ordering}
use Rattle.std.specs.declared.cmp.Ordering.TheVariants.{Less, Equal, Greater}
use Rattle.std.specs.Ordering.{is_lt}
use Rattle.std.specs.Cmp.Lexicographic.{nat_list_cmp_total}
use Rattle.std.specs.FinMap as finite_map
use Rattle.std.specs.FinMap.{entries_sorted, entries-insert, len-entries, len-empty}
use Rattle.std.proofs.lemmas.List.{append-nil, map-append}
use Rattle.maps.specs.declared.shapes.Shape.{Shape}
use Rattle.maps.specs.declared.shapes.Shape.TheVariants.{Array, Hash}
use Rattle.maps.specs.Maps.{Maps, MapState}
use Rattle.maps.specs.MapSets.{change_at, placed, index_keys, opening_map, opening_maps}
use Rattle.dumps.specs.Grammar.{EntryLine}
use Rattle.dumps.specs.Loading.{MapKey, is_behind, is_zero, is_left_out}
use Rattle.dumps.specs.Dumping.{map_entries}
use Rattle.dumps.proofs.Listed.{by_bytes, Pair, kept, KeptBelow, put_kept, put_dropped}

-- ---- lists

module _ {A : Type 0} (P : A → Type 0) where
  pub all_joined : (xs ys : List A) → AllByRecursion P xs → AllByRecursion P ys → AllByRecursion P (xs ++ ys)
  all_joined [] ys p q = q
  all_joined (x ∷ xs) ys p q = (p.0, all_joined xs ys p.1 q)

  pub all_parts : (xs ys : List A) → AllByRecursion P (xs ++ ys) → AllByRecursion P xs × AllByRecursion P ys
  all_parts [] ys p = (tt, p)
  all_parts (x ∷ xs) ys p =
      let rest = all_parts xs ys p.1 in
      ((p.0, rest.0), rest.1)

  pub all_mapped : (Q : A → Type 0) → ((x : A) → P x → Q x) → (xs : List A) → AllByRecursion P xs → AllByRecursion Q xs
  all_mapped Q f [] p = tt
  all_mapped Q f (x ∷ xs) p = (f x p.0, all_mapped Q f xs p.1)

-- ---- the order of entries

abbrev pub IsBefore : EntryLine → ℕ → List ℕ → Type 0
IsBefore e m k = (e.map < m) ⊎ ((e.map ≡ m) × (by_bytes e.key k ≡ Less))

abbrev pub AllBefore : List EntryLine → ℕ → List ℕ → Type 0
AllBefore es m k = AllByRecursion (λ (e : EntryLine). IsBefore e m k) es

abbrev pub key_of : EntryLine → MapKey
key_of e = record { map = e.map; key = e.key }

less : (o : Ordering) → is_lt o ≡ true → o ≡ Less
less Less h = refl
less Equal h = absurd cc
less Greater h = absurd cc

by_test : (a b c : Bool) → (a || (b && c)) ≡ true → (a ≡ true) ⊎ ((b ≡ true) × (c ≡ true))
by_test true b c h = inl refl
by_test false true true h = inr (refl, refl)
by_test false true false h = absurd cc
by_test false false c h = absurd cc

pub before : (e : EntryLine) (m : ℕ) (k : List ℕ) → is_behind (Some (key_of e)) m k ≡ true → IsBefore e m k
before e m k h =
    elim (by_test (ltb e.map m) (eqb e.map m) (is_lt (by_bytes e.key k)) h) [
      | inl lt ↦ inl (ltb-true e.map m lt)
      | inr both ↦ inr (eqb-true e.map m both.0, less _ both.1)
    ]

pub behind : (e : EntryLine) (m : ℕ) (k : List ℕ) → IsBefore e m k → is_behind (Some (key_of e)) m k ≡ true
behind e m k h =
    elim h [
      | inl lt ↦ rw (lt-ltb e.map m lt) refl
      | inr both ↦ or_true (ltb e.map m) (eqb e.map m) (is_lt (by_bytes e.key k)) (eq-eqb e.map m both.0) (ap is_lt both.1)
    ]
  where
    or_true : (a b c : Bool) → b ≡ true → c ≡ true → (a || (b && c)) ≡ true
    or_true true b c p q = refl
    or_true false b c p q = rw (p, q) refl

pub before_both : (e f : EntryLine) (m : ℕ) (k : List ℕ) → IsBefore e f.map f.key → IsBefore f m k → IsBefore e m k
before_both e f m k h g =
    elim h [
      | inl a ↦ elim g [ inl b ↦ inl (omega (arith, a, b)) | inr b ↦ inl (rw (← b.0) a) ]
      | inr a ↦ elim g [ inl b ↦ inl (rw a.0 b) | inr b ↦ inr (a.0 ∙ b.0, nat_list_cmp_total.trans e.key f.key k a.1 b.1) ]
    ]

-- ---- the entries of one map

abbrev pub line : ℕ → Pair → EntryLine
line m e = record { map = m; key = e.0; value = e.1 }

abbrev pub keeps : Shape → List ℕ → Bool
keeps shape v = not (is_left_out shape v)

below_from : (keep : List ℕ → Bool) (m : ℕ) (k : List ℕ) (es : List Pair) → AllBefore (map (line m) (kept keep es)) m k → KeptBelow keep k es
below_from keep m k [] h = tt
below_from keep m k (e ∷ es) h =
    let parts = split (keep e.1) (kept keep es) h in
    (parts.0, below_from keep m k es parts.1)
  where
    same : IsBefore (line m e) m k → by_bytes e.0 k ≡ Less
    same h = elim h [ inl lt ↦ absurd (omega (arith, lt)) | inr both ↦ both.1 ]

    split : (b : Bool) (xs : List Pair) → AllBefore (map (line m) (cond b (e ∷ xs) xs)) m k → (b ≡ true → by_bytes e.0 k ≡ Less) × AllBefore (map (line m) xs) m k
    split true xs h = (λ _. same h.0, h.1)
    split false xs h = (λ no. absurd cc, h)

abbrev pub with_value : MapState → List ℕ → List ℕ → MapState
with_value s k v = record { shape = s.shape; entries = finite_map.insert s.entries k v }

pub put_listed : (m : ℕ) (s : MapState) (k v : List ℕ) → keeps s.shape v ≡ true → AllBefore (map_entries m s) m k → map_entries m (with_value s k v) ≡ map_entries m s ++ line m (k, v) ∷ []
put_listed m s k v keep all =
    let sorted = entries_sorted s.entries in
    let below = below_from (keeps s.shape) m k (finite_map.entries s.entries) all in
    ap (λ es. map (line m) (kept (keeps s.shape) es)) (entries-insert nat_list_cmp_total s.entries k v)
    ∙ ap (map (line m)) (put_kept (keeps s.shape) k v keep (finite_map.entries s.entries) sorted below)
    ∙ map-append (line m) (kept (keeps s.shape) (finite_map.entries s.entries)) ((k, v) ∷ [])

-- ---- the entries of all maps

abbrev pub entries_from : ℕ → Maps → List EntryLine
entries_from n maps = flat_map (λ m. map_entries m.0 m.1) (enumerate_from n maps)

pub lines_past : (m n : ℕ) (es : List Pair) → n ≤ m → AllByRecursion (λ (e : EntryLine). n ≤ e.map) (map (line m) es)
lines_past m n [] le = tt
lines_past m n (e ∷ es) le = (le, lines_past m n es le)

pub maps_past : (n k : ℕ) (maps : Maps) → k ≤ n → AllByRecursion (λ (e : EntryLine). k ≤ e.map) (entries_from n maps)
maps_past n k [] le = tt
maps_past n k (s ∷ maps) le = all_joined _ (map_entries n s) (entries_from (n + 1) maps) (lines_past n k _ le) (maps_past (n + 1) k maps (omega (arith, le)))

none_past : (n m : ℕ) (k : List ℕ) (es : List EntryLine) → m < n → AllByRecursion (λ (e : EntryLine). n ≤ e.map) es → AllBefore es m k → es ≡ []
none_past n m k [] lt past all = refl
none_past n m k (e ∷ es) lt past all =
    elim all.0 [
      | inl less ↦ absurd (omega (arith, less, past.0, lt))
      | inr same ↦ absurd (omega (arith, same.0, past.0, lt))
    ]

abbrev put : List ℕ → List ℕ → MapState → MapState
put k v s = with_value s k v

pub placed_last : (maps : Maps) (n i m : ℕ) (s : MapState) (k v : List ℕ) → m ≡ n + i → slice_get maps i ≡ Some s → keeps s.shape v ≡ true → AllBefore (entries_from n maps) m k
    → entries_from n (change_at (put k v) maps i) ≡ entries_from n maps ++ line m (k, v) ∷ []
placed_last [] n i m s k v at there keep all = absurd cc
placed_last (x ∷ maps) n zero m s k v at there keep all =
    let parts = all_parts (λ (e : EntryLine). IsBefore e m k) (map_entries n x) (entries_from (n + 1) maps) all in
    let same : x ≡ s = cc in
    let here : m ≡ n = omega (arith, at) in
    let none : entries_from (n + 1) maps ≡ [] = none_past (n + 1) m k _ (omega (arith, here)) (maps_past (n + 1) (n + 1) maps (omega arith)) parts.1 in
    let keep_here : keeps x.shape v ≡ true = rw same keep in
    let all_here : AllBefore (map_entries n x) n k = subst (λ u. AllBefore (map_entries n x) u k) here parts.0 in
    let listed = put_listed n x k v keep_here all_here in
    rw (none, here) (append-nil (map_entries n (with_value x k v)) ∙ listed ∙ ap (λ u. u ++ line n (k, v) ∷ []) (sym (append-nil (map_entries n x))))
placed_last (x ∷ maps) n (suc i) m s k v at there keep all =
    let parts = all_parts (λ (e : EntryLine). IsBefore e m k) (map_entries n x) (entries_from (n + 1) maps) all in
    let ih = placed_last maps (n + 1) i m s k v (omega (arith, at)) there keep parts.1 in
    ap (λ u. map_entries n x ++ u) ih ∙ sym (append_assoc (map_entries n x) (entries_from (n + 1) maps) (line m (k, v) ∷ []))

-- ---- maps as they are opened

zeros_out : (n value entries : ℕ) → keeps (Array value entries) (replicate n 0) ≡ false
unfolding is_left_out
zeros_out n value entries = rw (zeros n) refl
  where
    zeros : (n : ℕ) → list_all is_zero (replicate n 0) ≡ true
    zeros zero = refl
    zeros (suc n) = zeros n

nothing : (keep : List ℕ → Bool) → kept keep (finite_map.entries (finite_map.empty {K = List ℕ} {X = List ℕ} {R = by_bytes})) ≡ []
nothing keep = ap (kept keep) (no_entry (finite_map.entries (finite_map.empty {K = List ℕ} {X = List ℕ} {R = by_bytes})) (sym (len-entries finite_map.empty) ∙ len-empty by_bytes (List ℕ)))
  where
    no_entry : (es : List Pair) → length es ≡ 0 → es ≡ []
    no_entry [] e = refl
    no_entry (x ∷ es) e = absurd (omega (arith, e))

dropped : (keep : List ℕ → Bool) (keys : List (Option (List ℕ))) (v : List ℕ) (n : ℕ) → keep v ≡ false → kept keep (finite_map.entries (placed keys (λ _. v) n)) ≡ []
dropped keep [] v n absent = nothing keep
dropped keep (None ∷ keys) v n absent = dropped keep keys v (suc n) absent
dropped keep (Some k ∷ keys) v n absent =
    ap (kept keep) (entries-insert nat_list_cmp_total (placed keys (λ _. v) (suc n)) k v)
    ∙ put_dropped keep k v (finite_map.entries (placed keys (λ _. v) (suc n))) absent (dropped keep keys v (suc n) absent)

free : (keep : List ℕ → Bool) (count : ℕ) (v : List ℕ) (n : ℕ) → kept keep (finite_map.entries (placed (replicate count None) (λ _. v) n)) ≡ []
free keep zero v n = nothing keep
free keep (suc count) v n = free keep count v (suc n)

opened_empty : (m : ℕ) (shape : Shape) → map_entries m (opening_map shape) ≡ []
opened_empty m (Array value entries) = ap (map (line m)) (dropped (keeps (Array value entries)) (index_keys 0 entries) (replicate value 0) 0 (zeros_out value value entries))
opened_empty m (Hash key value entries) = ap (map (line m)) (free (keeps (Hash key value entries)) entries (replicate value 0) 0)

pub all_empty : (n : ℕ) (shapes : List Shape) → entries_from n (opening_maps shapes) ≡ []
all_empty n [] = refl
all_empty n (shape ∷ shapes) = rw (opened_empty n shape) (all_empty (n + 1) shapes)
