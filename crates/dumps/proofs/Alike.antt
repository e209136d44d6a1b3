-- Maps of the same shapes that are listed alike are the same.
use Rattle.std.proofs.Common.{◌≡◌, ℕ, ◌+◌, ◌≤◌, T, Bool, true, false, not, cond, ◌&&◌, List, [], ◌∷◌, ◌++◌, map, length, Option, Some, None, refl, sym, ap, ap₂, ◌∙◌, subst, arith}
use Rattle.std.specs.Prelude.{is_some}
use Rattle.std.specs.List.{AllByRecursion, list_all}
use Rattle.std.proofs.lemmas.Bool.{and_parts, eqb-true}
use Rattle.std.specs.declared.cmp.Ordering.{Ordering}
use Rattle.std.specs.declared.cmp.Ordering.TheVariants.{Less, Equal, Greater}
use Rattle.std.specs.Ordering.{is_lt, is_eq, eq_by_cmp}
use Rattle.std.specs.Cmp.Lexicographic.{nat_list_cmp_total}
use Rattle.std.specs.FinMap as finite_map
use Rattle.std.specs.FinMap.{find, is_sorted, entries_sorted, get-entries, same_map, slice_cmp-IsAntisymmetric, nat_cmp-IsAntisymmetric}
use Rattle.std.specs.FinMap.Entries.{below_all}
use Rattle.maps.specs.declared.shapes.Shape.{Shape}
use Rattle.maps.specs.declared.shapes.Shape.TheVariants.{Array, Hash}
use Rattle.maps.specs.Shapes.{value_size}
use Rattle.maps.specs.Maps.{Maps, MapState, Entries, IsKeyOf, IsMapState, AreMaps, HasEntryCount, shapes_of}
use Rattle.dumps.specs.Grammar.{EntryLine}
use Rattle.dumps.specs.Loading.{is_hash, is_zero, is_left_out}
use Rattle.dumps.specs.Dumping.{map_entries}
use Rattle.dumps.proofs.Listed.{by_bytes, Pair, kept, first, less, same_key}
use Rattle.dumps.proofs.Placing.{line, keeps, entries_from, maps_past}

-- ---- what is found among the entries that are kept

module _ (keep : List ℕ → Bool) (q v : List ℕ) where
  found_skip : (b : Bool) (e : Pair) (es : List Pair) → eq_by_cmp by_bytes q e.0 ≡ false → find by_bytes q (cond b (e ∷ es) es) ≡ find by_bytes q es
  found_skip true e es other = rw other refl
  found_skip false e es other = refl

  pub found_kept : (es : List Pair) → find by_bytes q es ≡ Some v → keep v ≡ true → find by_bytes q (kept keep es) ≡ Some v
  found_kept [] h keeps = absurd cc
  found_kept (e ∷ es) h keeps = by (eq_by_cmp by_bytes q e.0) refl h (λ g. found_kept es g keeps)
    where
      by : (b : Bool) → eq_by_cmp by_bytes q e.0 ≡ b → cond b (Some e.1) (find by_bytes q es) ≡ Some v → (find by_bytes q es ≡ Some v → find by_bytes q (kept keep es) ≡ Some v)
          → find by_bytes q (kept keep (e ∷ es)) ≡ Some v
      by true is h rest =
          let same : e.1 ≡ v = cc in
          let keep_e : keep e.1 ≡ true = rw same keeps in
          rw (keep_e, is, same) refl
      by false is h rest = found_skip (keep e.1) e (kept keep es) is ∙ rest h

  equal : (o : Ordering) → is_eq o ≡ true → o ≡ Equal
  equal Less h = absurd cc
  equal Equal h = refl
  equal Greater h = absurd cc

  find_past : (es : List Pair) → T (below_all by_bytes q es) → find by_bytes q es ≡ None
  find_past [] above = refl
  find_past (e ∷ es) above =
      let parts = first (is_lt (by_bytes q e.0)) (below_all by_bytes q es) above in
      let lt : by_bytes q e.0 ≡ Less = less (by_bytes q e.0) parts.0 in
      rw lt (find_past es parts.1)

  pub kept_found : (es : List Pair) → T (is_sorted by_bytes es) → find by_bytes q (kept keep es) ≡ Some v → find by_bytes q es ≡ Some v
  kept_found [] sorted h = h
  kept_found (e ∷ es) sorted h =
      let parts = first (below_all by_bytes e.0 es) (is_sorted by_bytes es) sorted in
      by parts.0 (eq_by_cmp by_bytes q e.0) refl (keep e.1) h (kept_found es parts.1)
    where
      by : T (below_all by_bytes e.0 es) → (b : Bool) → eq_by_cmp by_bytes q e.0 ≡ b → (k : Bool) → find by_bytes q (cond k (e ∷ kept keep es) (kept keep es)) ≡ Some v
          → (find by_bytes q (kept keep es) ≡ Some v → find by_bytes q es ≡ Some v) → find by_bytes q (e ∷ es) ≡ Some v
      by below true is true h rest =
          let here : Some e.1 ≡ Some v = rw is at h in
          rw is here
      by below true is false h rest =
          let same : q ≡ e.0 = same_key q e.0 (equal (by_bytes q e.0) is) in
          let later = rest h in
          let none = find_past es (subst (λ x. T (below_all by_bytes x es)) (sym same) below) in
          absurd cc
      by below false is k h rest = rw is (rest (sym (found_skip k e (kept keep es) is) ∙ h))

-- ---- one map

-- what an array leaves out is zeros, all of one size
zeros_same : (u v : List ℕ) → length u ≡ length v → list_all is_zero u ≡ true → list_all is_zero v ≡ true → u ≡ v
zeros_same [] [] size a b = refl
zeros_same [] (y ∷ v) size a b = absurd (omega (arith, size))
zeros_same (x ∷ u) [] size a b = absurd (omega (arith, size))
zeros_same (x ∷ u) (y ∷ v) size a b =
    let p = and_parts (is_zero x) (list_all is_zero u) a in
    let q = and_parts (is_zero y) (list_all is_zero v) b in
    ap₂ (λ m n. m ∷ n) (eqb-true x 0 p.0 ∙ sym (eqb-true y 0 q.0)) (zeros_same u v (omega (arith, size)) p.1 q.1)

left_out : (shape : Shape) (v : List ℕ) → keeps shape v ≡ false → (is_hash shape ≡ false) × (list_all is_zero v ≡ true)
unfolding is_left_out
left_out shape v h = by (is_hash shape) (list_all is_zero v) h
  where
    by : (a b : Bool) → not (not a && b) ≡ false → (a ≡ false) × (b ≡ true)
    by true b h = absurd cc
    by false true h = (refl, refl)
    by false false h = absurd cc

pub hash_keeps : (shape : Shape) (v : List ℕ) → is_hash shape ≡ true → keeps shape v ≡ true
unfolding is_left_out
hash_keeps shape v h = rw h refl

-- an array has each of its keys
pub array_has : (s : MapState) (key : List ℕ) → IsMapState s → is_hash s.shape ≡ false → IsKeyOf s.shape key → finite_map.contains_key s.entries key ≡ true
array_has s key is hash h = by s.shape is.count hash h
  where
    by : (shape : Shape) → HasEntryCount shape s.entries → is_hash shape ≡ false → IsKeyOf shape key → finite_map.contains_key s.entries key ≡ true
    by (Array value entries) count hash h = ap (finite_map.contains_key s.entries) h.2 ∙ count h.0 h.1
    by (Hash k value entries) count hash h = absurd cc

-- what one map has under a key and lists, another that is listed alike has too
moved : (keep : List ℕ → Bool) (x y : Entries) (q v : List ℕ) → kept keep (finite_map.entries x) ≡ kept keep (finite_map.entries y) → finite_map.get x q ≡ Some v → keep v ≡ true → finite_map.get y q ≡ Some v
moved keep x y q v same has keeps =
    let there = found_kept keep q v (finite_map.entries x) (sym (get-entries x q) ∙ has) keeps in
    let also : find by_bytes q (kept keep (finite_map.entries y)) ≡ Some v = ap (find by_bytes q) (sym same) ∙ there in
    get-entries y q ∙ kept_found keep q v (finite_map.entries y) (entries_sorted y) also

module _ (s t : MapState) (is_s : IsMapState s) (is_t : IsMapState t) (shapes : s.shape ≡ t.shape) (same : kept (keeps s.shape) (finite_map.entries s.entries) ≡ kept (keeps s.shape) (finite_map.entries t.entries)) where
  -- a key that the first has, the second has
  one_way : (q v : List ℕ) → finite_map.get s.entries q ≡ Some v → finite_map.get t.entries q ≡ None → ⊥
  one_way q v has none = by (keeps s.shape v) refl
    where
      by : (b : Bool) → keeps s.shape v ≡ b → ⊥
      by true k = let there = moved (keeps s.shape) s.entries t.entries q v same has k in cc
      by false k =
          let array : is_hash t.shape ≡ false = ap is_hash (sym shapes) ∙ (left_out s.shape v k).0 in
          let key : IsKeyOf t.shape q = subst (λ x. IsKeyOf x q) shapes (is_s.each_key q (ap is_some has)) in
          let there = array_has t q is_t array key in
          cc

  other_way : (q v : List ℕ) → finite_map.get t.entries q ≡ Some v → finite_map.get s.entries q ≡ None → ⊥
  other_way q v has none = by (keeps s.shape v) refl
    where
      by : (b : Bool) → keeps s.shape v ≡ b → ⊥
      by true k = let there = moved (keeps s.shape) t.entries s.entries q v (sym same) has k in cc
      by false k =
          let array : is_hash s.shape ≡ false = (left_out s.shape v k).0 in
          let key : IsKeyOf s.shape q = subst (λ x. IsKeyOf x q) (sym shapes) (is_t.each_key q (ap is_some has)) in
          let there = array_has s q is_s array key in
          cc

  both_have : (q v w : List ℕ) → finite_map.get s.entries q ≡ Some v → finite_map.get t.entries q ≡ Some w → v ≡ w
  both_have q v w a b = by (keeps s.shape v) (keeps s.shape w) refl refl
    where
      by : (x y : Bool) → keeps s.shape v ≡ x → keeps s.shape w ≡ y → v ≡ w
      by true y k l = let there = moved (keeps s.shape) s.entries t.entries q v same a k in cc
      by false true k l = let there = moved (keeps s.shape) t.entries s.entries q w (sym same) b l in cc
      by false false k l =
          let size : length v ≡ length w = (is_s.each_value q v a).0 ∙ ap value_size shapes ∙ sym (is_t.each_value q w b).0 in
          zeros_same v w size (left_out s.shape v k).1 (left_out s.shape w l).1

  same_get : (q : List ℕ) → finite_map.get s.entries q ≡ finite_map.get t.entries q
  same_get q = by (finite_map.get s.entries q) (finite_map.get t.entries q) refl refl
    where
      by : (a b : Option (List ℕ)) → finite_map.get s.entries q ≡ a → finite_map.get t.entries q ≡ b → a ≡ b
      by None None a b = refl
      by None (Some w) a b = absurd (other_way q w b a)
      by (Some v) None a b = absurd (one_way q v a b)
      by (Some v) (Some w) a b = ap Some (both_have q v w a b)

  same_map_state : s ≡ t
  same_map_state =
      let entries : s.entries ≡ t.entries = same_map nat_list_cmp_total (slice_cmp-IsAntisymmetric nat_cmp-IsAntisymmetric) s.entries t.entries same_get in
      λ i. record { shape = shapes i; entries = entries i }

-- ---- all maps

unline : (m : ℕ) (es : List Pair) → map (λ (e : EntryLine). (e.key, e.value)) (map (line m) es) ≡ es
unline m [] = refl
unline m (e ∷ es) = ap (λ u. e ∷ u) (unline m es)

pub lines_at : (m : ℕ) (es : List Pair) → AllByRecursion (λ (e : EntryLine). e.map ≡ m) (map (line m) es)
lines_at m [] = tt
lines_at m (e ∷ es) = (refl, lines_at m es)

abbrev first_map : List EntryLine → ℕ
first_map [] = 0
first_map (e ∷ es) = e.map

-- lines of one map, and then lines past it: there is one way to cut them
one_cut : (n : ℕ) (xs us ys vs : List EntryLine) → AllByRecursion (λ (e : EntryLine). e.map ≡ n) xs → AllByRecursion (λ (e : EntryLine). e.map ≡ n) us
    → AllByRecursion (λ (e : EntryLine). n + 1 ≤ e.map) ys → AllByRecursion (λ (e : EntryLine). n + 1 ≤ e.map) vs → xs ++ ys ≡ us ++ vs → (xs ≡ us) × (ys ≡ vs)
one_cut n [] [] ys vs a b c d e = (refl, e)
one_cut n [] (u ∷ us) [] vs a b c d e = absurd cc
one_cut n [] (u ∷ us) (y ∷ ys) vs a b c d e =
    let same : y.map ≡ u.map = ap first_map e in
    absurd (omega (arith, same, b.0, c.0))
one_cut n (x ∷ xs) [] ys [] a b c d e = absurd cc
one_cut n (x ∷ xs) [] ys (v ∷ vs) a b c d e =
    let same : x.map ≡ v.map = ap first_map e in
    absurd (omega (arith, same, a.0, d.0))
one_cut n (x ∷ xs) (u ∷ us) ys vs a b c d e =
    let first : x ≡ u = cc in
    let rest = one_cut n xs us ys vs a.1 b.1 c d (cc) in
    (ap₂ (λ p q. p ∷ q) first rest.0, rest.1)

pub same_maps : (n : ℕ) (xs ys : Maps) → shapes_of xs ≡ shapes_of ys → AreMaps xs → AreMaps ys → entries_from n xs ≡ entries_from n ys → xs ≡ ys
same_maps n [] [] shapes a b e = refl
same_maps n [] (y ∷ ys) shapes a b e = absurd cc
same_maps n (x ∷ xs) [] shapes a b e = absurd cc
same_maps n (x ∷ xs) (y ∷ ys) shapes a b e =
    let shape : x.shape ≡ y.shape = cc in
    let others : shapes_of xs ≡ shapes_of ys = cc in
    let cut = one_cut n (map_entries n x) (map_entries n y) (entries_from (n + 1) xs) (entries_from (n + 1) ys) (lines_at n _) (lines_at n _) (maps_past (n + 1) (n + 1) xs (omega arith)) (maps_past (n + 1) (n + 1) ys (omega arith)) e in
    let kept_x = kept (keeps x.shape) (finite_map.entries x.entries) in
    let kept_y = kept (keeps y.shape) (finite_map.entries y.entries) in
    let listed : kept_x ≡ kept_y = sym (unline n kept_x) ∙ ap (map (λ (e : EntryLine). (e.key, e.value))) cut.0 ∙ unline n kept_y in
    let alike : kept_x ≡ kept (keeps x.shape) (finite_map.entries y.entries) = listed ∙ ap (λ s. kept (keeps s) (finite_map.entries y.entries)) (sym shape) in
    ap₂ (λ s t. s ∷ t) (same_map_state x y a.0 b.0 shape alike) (same_maps (n + 1) xs ys others a.1 b.1 cut.1)
