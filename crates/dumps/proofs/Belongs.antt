-- What is known of an entry that is listed.
use Rattle.std.proofs.Common.{◌≡◌, inl, inr, ℕ, zero, suc, ◌+◌, ◌<◌, ◌≤◌, T, Bool, true, false, cond, eqb, List, [], ◌∷◌, ◌++◌, map, length, Some, refl, sym, ap, ◌∙◌, subst, arith}
use Rattle.std.specs.Prelude.{slice_get, is_some}
use Rattle.std.specs.List.{AllByRecursion}
use Rattle.std.proofs.lemmas.Bool.{eq-eqb, ne_eqb}
use Rattle.std.proofs.lemmas.List.Elements.{recursion_from_All}
use Rattle.std.specs.declared.cmp.Ordering.TheVariants.{Less, Greater}
use Rattle.std.specs.Ordering.{is_lt, eq_by_cmp}
use Rattle.std.specs.FinMap as finite_map
use Rattle.std.specs.FinMap.{find, is_sorted, entries_sorted, get-entries, len-entries}
use Rattle.std.specs.FinMap.Entries.{below_all}
use Rattle.std.proofs.lemmas.Option.{slice_get_within}
use Rattle.hex.specs.Hex.{IsBytes}
use Rattle.maps.specs.declared.shapes.Shape.{Shape}
use Rattle.maps.specs.declared.shapes.Shape.TheVariants.{Array, Hash}
use Rattle.maps.specs.Shapes.{key_size, IsShapeSupported, AreShapesSupported}
use Rattle.maps.specs.Maps.{Maps, MapState, AreBytes, IsKeyOf, IsMapState, HasShapes, index_key, shapes_of}
use Rattle.maps.proofs.Export.{key_ties, all_get}
use Rattle.dumps.specs.Grammar.{EntryLine}
use Rattle.dumps.specs.Dumping.{map_entries}
use Rattle.dumps.proofs.Listed.{by_bytes, Pair, kept, first, less, turned}
use Rattle.dumps.proofs.SpelledLines.{EntryFits}
use Rattle.dumps.proofs.Placing.{all_joined, all_mapped, IsBefore, line, keeps, entries_from, maps_past}
use Rattle.dumps.proofs.Alike.{lines_at}

-- ---- where it stands

-- an entry of one of these maps, the first of which has number n, that is not left out
pub record Belongs (n : ℕ) (maps : Maps) (e : EntryLine) : Type 0 where
  pub index : ℕ
  pub number : e.map ≡ n + index
  pub state : MapState
  pub there : slice_get maps index ≡ Some state
  pub value : finite_map.get state.entries e.key ≡ Some e.value
  pub kept : keeps state.shape e.value ≡ true

abbrev Found : List Pair → Pair → Type 0
Found es e = find by_bytes e.0 es ≡ Some e.1

found_behind : (e : Pair) (es fs : List Pair) → T (below_all by_bytes e.0 fs) → AllByRecursion (Found es) fs → AllByRecursion (Found (e ∷ es)) fs
found_behind e es [] below found = tt
found_behind e es (f ∷ fs) below found =
    let parts = first (is_lt (by_bytes e.0 f.0)) (below_all by_bytes e.0 fs) below in
    let after : by_bytes f.0 e.0 ≡ Greater = turned e.0 f.0 Less (less (by_bytes e.0 f.0) parts.0) in
    let here : Found (e ∷ es) f = rw after found.0 in
    (here, found_behind e es fs parts.1 found.1)

all_found : (es : List Pair) → T (is_sorted by_bytes es) → AllByRecursion (Found es) es
all_found [] sorted = tt
all_found (e ∷ es) sorted =
    let parts = first (below_all by_bytes e.0 es) (is_sorted by_bytes es) sorted in
    let ties : eq_by_cmp by_bytes e.0 e.0 ≡ true = key_ties e.0 in
    let here : Found (e ∷ es) e = rw ties refl in
    (here, found_behind e es es parts.0 (all_found es parts.1))

all_kept : (keep : List ℕ → Bool) (P : Pair → Type 0) (es : List Pair) → AllByRecursion P es → AllByRecursion (λ (e : Pair). P e × (keep e.1 ≡ true)) (kept keep es)
all_kept keep P [] all = tt
all_kept keep P (e ∷ es) all = by (keep e.1) refl (all_kept keep P es all.1)
  where
    by : (b : Bool) → keep e.1 ≡ b → AllByRecursion (λ (e : Pair). P e × (keep e.1 ≡ true)) (kept keep es) → AllByRecursion (λ (e : Pair). P e × (keep e.1 ≡ true)) (cond b (e ∷ kept keep es) (kept keep es))
    by true h rest = ((all.0, h), rest)
    by false h rest = rest

lined : (n : ℕ) (s : MapState) (maps : Maps) (es : List Pair) → AllByRecursion (λ (e : Pair). Found (finite_map.entries s.entries) e × (keeps s.shape e.1 ≡ true)) es → AllByRecursion (Belongs n (s ∷ maps)) (map (line n) es)
lined n s maps [] all = tt
lined n s maps (e ∷ es) all =
    (record { index = 0; number = omega arith; state = s; there = refl; value = get-entries s.entries e.0 ∙ all.0.0; kept = all.0.1 }, lined n s maps es all.1)

later : (n : ℕ) (s : MapState) (maps : Maps) (e : EntryLine) → Belongs (n + 1) maps e → Belongs n (s ∷ maps) e
later n s maps e b = record { index = suc b.index; number = (let h = b.number in omega (arith, h)); state = b.state; there = b.there; value = b.value; kept = b.kept }

pub all_belong : (n : ℕ) (maps : Maps) → AllByRecursion (Belongs n maps) (entries_from n maps)
all_belong n [] = tt
all_belong n (s ∷ maps) =
    let here = all_kept (keeps s.shape) (Found (finite_map.entries s.entries)) (finite_map.entries s.entries) (all_found (finite_map.entries s.entries) (entries_sorted s.entries)) in
    all_joined (Belongs n (s ∷ maps)) (map_entries n s) (entries_from (n + 1) maps) (lined n s maps (kept (keeps s.shape) (finite_map.entries s.entries)) here)
    (all_mapped (Belongs (n + 1) maps) (Belongs n (s ∷ maps)) (later n s maps) (entries_from (n + 1) maps) (all_belong (n + 1) maps))

-- ---- their order

abbrev pub Rises : List EntryLine → Type 0
Rises [] = Unit {0}
Rises (e ∷ es) = AllByRecursion (λ (f : EntryLine). IsBefore e f.map f.key) es × Rises es

below_kept : (keep : List ℕ → Bool) (m : ℕ) (e : Pair) (es : List Pair) → T (below_all by_bytes e.0 es) → AllByRecursion (λ (f : EntryLine). IsBefore (line m e) f.map f.key) (map (line m) (kept keep es))
below_kept keep m e [] below = tt
below_kept keep m e (f ∷ es) below =
    let parts = first (is_lt (by_bytes e.0 f.0)) (below_all by_bytes e.0 es) below in
    by (keep f.1) (inr (refl, less (by_bytes e.0 f.0) parts.0)) (below_kept keep m e es parts.1)
  where
    by : (b : Bool) → IsBefore (line m e) m f.0 → AllByRecursion (λ (f : EntryLine). IsBefore (line m e) f.map f.key) (map (line m) (kept keep es))
        → AllByRecursion (λ (f : EntryLine). IsBefore (line m e) f.map f.key) (map (line m) (cond b (f ∷ kept keep es) (kept keep es)))
    by true here rest = (here, rest)
    by false here rest = rest

map_rises : (keep : List ℕ → Bool) (m : ℕ) (es : List Pair) → T (is_sorted by_bytes es) → Rises (map (line m) (kept keep es))
map_rises keep m [] sorted = tt
map_rises keep m (e ∷ es) sorted =
    let parts = first (below_all by_bytes e.0 es) (is_sorted by_bytes es) sorted in
    by (keep e.1) (below_kept keep m e es parts.0) (map_rises keep m es parts.1)
  where
    by : (b : Bool) → AllByRecursion (λ (f : EntryLine). IsBefore (line m e) f.map f.key) (map (line m) (kept keep es)) → Rises (map (line m) (kept keep es))
        → Rises (map (line m) (cond b (e ∷ kept keep es) (kept keep es)))
    by true here rest = (here, rest)
    by false here rest = rest

rises_joined : (n : ℕ) (xs ys : List EntryLine) → Rises xs → Rises ys → AllByRecursion (λ (e : EntryLine). e.map ≡ n) xs → AllByRecursion (λ (e : EntryLine). n + 1 ≤ e.map) ys → Rises (xs ++ ys)
rises_joined n [] ys a b at past = b
rises_joined n (x ∷ xs) ys a b at past =
    let here : x.map ≡ n = at.0 in
    let beyond = all_mapped (λ (e : EntryLine). n + 1 ≤ e.map) (λ (f : EntryLine). IsBefore x f.map f.key) (λ f h. inl (omega (arith, h, here))) ys past in
    (all_joined (λ (f : EntryLine). IsBefore x f.map f.key) xs ys a.0 beyond, rises_joined n xs ys a.1 b at.1 past)

pub all_rise : (n : ℕ) (maps : Maps) → Rises (entries_from n maps)
all_rise n [] = tt
all_rise n (s ∷ maps) =
    rises_joined n (map_entries n s) (entries_from (n + 1) maps) (map_rises (keeps s.shape) n (finite_map.entries s.entries) (entries_sorted s.entries)) (all_rise (n + 1) maps)
    (lines_at n (kept (keeps s.shape) (finite_map.entries s.entries))) (maps_past (n + 1) (n + 1) maps (omega arith))

-- ---- how many there are

abbrev pub count : ℕ → List EntryLine → ℕ
count m [] = 0
count m (e ∷ es) = cond (eqb e.map m) 1 0 + count m es

pub count_joined : (m : ℕ) (xs ys : List EntryLine) → count m (xs ++ ys) ≡ count m xs + count m ys
count_joined m [] ys = omega arith
count_joined m (x ∷ xs) ys = let rest = count_joined m xs ys in omega (arith, rest)

count_here : (m : ℕ) (es : List Pair) → count m (map (line m) es) ≡ length es
count_here m [] = refl
count_here m (e ∷ es) =
    let same : eqb m m ≡ true = eq-eqb m m refl in
    let rest = count_here m es in
    rw same (omega (arith, rest))

count_past : (m n : ℕ) (es : List EntryLine) → m < n → AllByRecursion (λ (e : EntryLine). n ≤ e.map) es → count m es ≡ 0
count_past m n [] lt past = refl
count_past m n (e ∷ es) lt past =
    let far = past.0 in
    let other : eqb e.map m ≡ false = ne_eqb e.map m (λ h. omega (arith, h, far, lt)) in
    let rest = count_past m n es lt past.1 in
    rw other (omega (arith, rest))

count_other : (m n : ℕ) (es : List Pair) → m < n → count n (map (line m) es) ≡ 0
count_other m n [] lt = refl
count_other m n (e ∷ es) lt =
    let other : eqb m n ≡ false = ne_eqb m n (λ h. omega (arith, h, lt)) in
    let rest = count_other m n es lt in
    rw other (omega (arith, rest))

all_are_kept : (keep : List ℕ → Bool) (es : List Pair) → ((v : List ℕ) → keep v ≡ true) → kept keep es ≡ es
all_are_kept keep [] all = refl
all_are_kept keep (e ∷ es) all = rw (all e.1) (ap (λ u. e ∷ u) (all_are_kept keep es all))

-- of a hash all are listed
pub hash_count : (maps : Maps) (n i m : ℕ) (s : MapState) → m ≡ n + i → slice_get maps i ≡ Some s → ((v : List ℕ) → keeps s.shape v ≡ true) → count m (entries_from n maps) ≡ finite_map.len s.entries
hash_count [] n i m s at there all = absurd cc
hash_count (x ∷ maps) n zero m s at there all =
    let same : x ≡ s = cc in
    let here : m ≡ n = omega (arith, at) in
    let keep : (v : List ℕ) → keeps x.shape v ≡ true = λ v. rw same (all v) in
    let listed : count n (map_entries n x) ≡ finite_map.len x.entries = count_here n (kept (keeps x.shape) (finite_map.entries x.entries)) ∙ ap length (all_are_kept (keeps x.shape) (finite_map.entries x.entries) keep) ∙ sym (len-entries x.entries) in
    let none : count n (entries_from (n + 1) maps) ≡ 0 = count_past n (n + 1) (entries_from (n + 1) maps) (omega arith) (maps_past (n + 1) (n + 1) maps (omega arith)) in
    let both = count_joined n (map_entries n x) (entries_from (n + 1) maps) in
    let len : finite_map.len x.entries ≡ finite_map.len s.entries = ap (λ (t : MapState). finite_map.len t.entries) same in
    rw here (omega (arith, both, listed, none, len))
hash_count (x ∷ maps) n (suc i) m s at there all =
    let rest = hash_count maps (n + 1) i m s (omega (arith, at)) there all in
    let none : count m (map_entries n x) ≡ 0 = count_other n m (kept (keeps x.shape) (finite_map.entries x.entries)) (omega (arith, at)) in
    let both = count_joined m (map_entries n x) (entries_from (n + 1) maps) in
    omega (arith, both, rest, none)

-- ---- its sizes

shape_there : (maps : Maps) (i : ℕ) (s : MapState) → slice_get maps i ≡ Some s → slice_get (shapes_of maps) i ≡ Some s.shape
shape_there [] i s h = absurd cc
shape_there (x ∷ maps) zero s h = let same : x ≡ s = cc in ap (λ (t : MapState). Some t.shape) same
shape_there (x ∷ maps) (suc i) s h = shape_there maps i s h

pub at_each : (xs : List ℕ) → AllByRecursion (λ (n : ℕ). n < 256) xs → IsBytes xs
at_each [] all i = omega arith
at_each (x ∷ xs) all zero = all.0
at_each (x ∷ xs) all (suc i) = at_each xs all.1 i

index_bytes : (n : ℕ) → AreBytes (index_key n)
index_bytes n = (omega arith, (omega arith, (omega arith, (omega arith, tt))))

pub key_bytes : (shape : Shape) (k : List ℕ) → IsKeyOf shape k → AreBytes k
key_bytes (Array value entries) k h = subst AreBytes (sym h.2) (index_bytes h.0)
key_bytes (Hash key value entries) k h = h.1

pub key_long : (shape : Shape) (k : List ℕ) → IsKeyOf shape k → length k ≡ key_size shape
key_long (Array value entries) k h = ap length h.2
key_long (Hash key value entries) k h = h.0

pub entry_fits : (shapes : List Shape) (maps : Maps) (e : EntryLine) → AreShapesSupported shapes → HasShapes shapes maps → Belongs 0 maps e → EntryFits e
entry_fits shapes maps e ok has b =
    let is = all_get IsMapState maps b.index b.state has.each b.there in
    let shape_at : slice_get shapes b.index ≡ Some b.state.shape = subst (λ (l : List Shape). slice_get l b.index ≡ Some b.state.shape) has.same (shape_there maps b.index b.state b.there) in
    let good = all_get IsShapeSupported shapes b.index b.state.shape (recursion_from_All IsShapeSupported shapes ok.each) shape_at in
    let bound = slice_get_within shapes b.index b.state.shape shape_at in
    let key = is.each_key e.key (ap is_some b.value) in
    let value = is.each_value e.key e.value b.value in
    let key_size_is = key_long b.state.shape e.key key in
    let value_size_is = value.0 in
    let number = b.number in
    let many = ok.many.1 in
    let good_key = good.key in
    let good_value = good.value in
    record {
      map = omega (arith, number, bound, many);
      key = at_each e.key (key_bytes b.state.shape e.key key);
      key_some = omega (arith, key_size_is, good_key.0);
      key_few = omega (arith, key_size_is, good_key.1);
      value = at_each e.value value.1;
      value_some = omega (arith, value_size_is, good_value.0);
      value_few = omega (arith, value_size_is, good_value.1);
    }
