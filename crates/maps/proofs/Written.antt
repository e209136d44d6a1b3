-- A value written over: its block, the finite maps, and what stays.
use Rattle.std.proofs.Common.{◌≡◌, ◌≢◌, ℕ, zero, suc, ◌+◌, ◌-◌, ◌*◌, ◌<◌, ◌≤◌, List, [], ◌∷◌, ◌++◌, length, map, take, drop, Option, Some, refl, sym, ap, ◌∙◌, arith, subst, get_or, inl, inr, ⊎_elim, length-append, length-take, length-drop, take-append-drop}
use Rattle.std.specs.Prelude.{◌⊎◌, slice_get, slice_set, is_some, IsSome}
use Rattle.std.specs.List.{AllByRecursion, refill}
use Rattle.std.specs.FinMap as finite_map
use Rattle.std.specs.Vec.{with_items_from}
use Rattle.std.proofs.lemmas.List.{take-append-le, drop-append-le}
use Rattle.std.proofs.Math.Seq.{drop-append_seam, take-append_seam, drop-append-add, take-length}
use Rattle.std.proofs.Math.Nat.{mul-le-mul_right}
use Rattle.maps.specs.Shapes.{AreShapesSupported, value_size}
use Rattle.maps.specs.Maps.{Maps, MapState}
use Rattle.maps.specs.declared.table.Table.{Table}
use Rattle.maps.specs.declared.entry.Entry.{Entry}
use Rattle.maps.specs.MapSets.{Stored, Contents, placed, value_in, map_of, maps_of, key_at, flat, key_of, stored_shapes, change_at, write_over, write_value, put_value, take_key}
use Rattle.maps.specs.Blocks.{keys_at, stored, contents, IsTable, AreTables}
use Rattle.maps.specs.Lent.{with_bytes}
use Rattle.maps.proofs.Placed.{change_placed}
use Rattle.maps.proofs.Stored.{IsAt, distinct, standing, room_at}

-- ---- bytes

-- x and z stay, and y has become w
same_before : (i p s : ℕ) (x y w z : List ℕ) → length x ≡ p * s → i < p → take s (drop (i * s) (x ++ (w ++ z))) ≡ take s (drop (i * s) (x ++ (y ++ z)))
same_before i p s x y w z e h = by (w ++ z) ∙ sym (by (y ++ z))
  where
    fits : i * s + s ≤ p * s
    fits = let f : (i + 1) * s ≤ p * s = mul-le-mul_right s (omega (arith, h)) in omega (arith, f)

    by : (r : List ℕ) → take s (drop (i * s) (x ++ r)) ≡ take s (drop (i * s) x)
    by r = ap (take s) (drop-append-le (i * s) x r (omega (arith, e, fits))) ∙ take-append-le s (drop (i * s) x) r (let l = length-drop (i * s) x in omega (arith, e, fits, l))

same_after : (i p s : ℕ) (x y w z : List ℕ) → length x ≡ p * s → length y ≡ s → length w ≡ s → p < i → take s (drop (i * s) (x ++ (w ++ z))) ≡ take s (drop (i * s) (x ++ (y ++ z)))
same_after i p s x y w z e f g h = by w g ∙ sym (by y f)
  where
    past : p * s + s ≤ i * s
    past = let b : (p + 1) * s ≤ i * s = mul-le-mul_right s (omega (arith, h)) in omega (arith, b)

    rest : ℕ
    rest = i * s - (p * s + s)

    by : (r : List ℕ) → length r ≡ s → take s (drop (i * s) (x ++ (r ++ z))) ≡ take s (drop rest z)
    by r l =
        ap (take s) (ap (λ n. drop n (x ++ (r ++ z))) (let q : i * s ≡ length x + (length r + rest) = omega (arith, e, l, past) in q)
        ∙ (drop-append-add x (r ++ z) (length r + rest) ∙ drop-append-add r z rest))

same_elsewhere : (i p s : ℕ) (x y w z : List ℕ) → length x ≡ p * s → length y ≡ s → length w ≡ s → i ≢ p → take s (drop (i * s) (x ++ (w ++ z))) ≡ take s (drop (i * s) (x ++ (y ++ z)))
same_elsewhere i p s x y w z e f g ne = ⊎_elim (same_before i p s x y w z e) (same_after i p s x y w z e f g) (apart i p ne)
  where
    apart : (i p : ℕ) → i ≢ p → (i < p) ⊎ (p < i)
    apart zero zero ne = absurd (ne refl)
    apart zero (suc p) ne = inl (omega arith)
    apart (suc i) zero ne = inr (omega arith)
    apart (suc i) (suc p) ne = ⊎_elim (λ h. inl (omega (arith, h))) (λ h. inr (omega (arith, h))) (apart i p (λ q. ne (ap suc q)))

in_place : (p s : ℕ) (x w z : List ℕ) → length x ≡ p * s → length w ≡ s → take s (drop (p * s) (x ++ (w ++ z))) ≡ w
in_place p s x w z e g =
    ap (λ n. take s (drop n (x ++ (w ++ z)))) (sym e) ∙ (ap (take s) (drop-append_seam x (w ++ z)) ∙ (ap (λ n. take n (w ++ z)) (sym g) ∙ take-append_seam w z))

-- bytes of the same length are taken whole
pub whole : (n : ℕ) (b r : List ℕ) → length b ≡ n → length r ≡ n → refill n b r ≡ r
whole n b r e f =
    ap (λ m. take n (r ++ drop m b)) f ∙ (take-append-le n r (drop n b) (omega (arith, f)) ∙ (ap (λ m. take m r) (sym f) ∙ take-length r))

module _ (bytes : List ℕ) (p s : ℕ) (w : List ℕ) (fits : p * s + s ≤ length bytes) (many : length w ≡ s) where
  x : List ℕ
  x = take (p * s) bytes

  y : List ℕ
  y = take s (drop (p * s) bytes)

  z : List ℕ
  z = drop s (drop (p * s) bytes)

  length_x : length x ≡ p * s
  unfolding x
  length_x = let l = length-take (p * s) bytes in omega (arith, l, fits)

  length_y : length y ≡ s
  unfolding y
  length_y = let l = length-take s (drop (p * s) bytes) in let d = length-drop (p * s) bytes in omega (arith, l, d, fits)

  parts : bytes ≡ x ++ (y ++ z)
  unfolding x y z
  parts = sym (ap (λ r. take (p * s) bytes ++ r) (take-append-drop s (drop (p * s) bytes)) ∙ take-append-drop (p * s) bytes)

  after : write_over bytes (p * s) w ≡ x ++ (w ++ z)
  unfolding x z
  after =
      let rest = drop (length w) (drop (p * s) bytes) in
      let all = length-append (take (p * s) bytes) (w ++ rest) in
      let most = length-append w rest in
      let last = length-drop (length w) (drop (p * s) bytes) in
      let from = length-drop (p * s) bytes in
      let front = length-take (p * s) bytes in
      whole (length bytes) bytes (take (p * s) bytes ++ (w ++ rest)) refl (omega (arith, all, most, last, from, front, fits, many))
      ∙ ap (λ n. take (p * s) bytes ++ (w ++ drop n (drop (p * s) bytes))) many

  pub written_at : value_in s (write_over bytes (p * s) w) p ≡ w
  written_at = ap (λ b. take s (drop (p * s) b)) after ∙ in_place p s x w z length_x many

  -- what stands there, written over itself
  pub written_same : w ≡ take s (drop (p * s) bytes) → write_over bytes (p * s) w ≡ bytes
  unfolding y
  written_same same = after ∙ (ap (λ v. x ++ (v ++ z)) same ∙ sym parts)

  pub kept_at : (i : ℕ) → i ≢ p → value_in s (write_over bytes (p * s) w) i ≡ value_in s bytes i
  kept_at i ne = ap (λ b. take s (drop (i * s) b)) after ∙ (same_elsewhere i p s x y w z length_x length_y many ne ∙ ap (λ b. take s (drop (i * s) b)) (sym parts))

-- ---- the tables

pub change_map : (ts : List Table) (m : ℕ) (t u : Table) (f : Stored → Stored) → m < length ts → t ≡ get_or ts m t → stored u ≡ f (stored t) → map stored (slice_set ts m u) ≡ change_at f (map stored ts) m
change_map [] m t u f h e is = absurd (omega arith)
change_map (x ∷ ts) zero t u f h e is = ap (λ b. b ∷ map stored ts) (is ∙ ap (λ b. f (stored b)) e)
change_map (x ∷ ts) (suc m) t u f h e is = ap (λ bs. stored x ∷ bs) (change_map ts m t u f (omega arith) e is)

pub view_written : (ts : List Table) (c : Contents) (e : Entry) (t : Table) (size : ℕ) (w : List ℕ) → contents ts ≡ c → e.map < length ts → t ≡ get_or ts e.map t → size ≡ value_size t.shape
    → contents (slice_set ts e.map (with_bytes t (e.place * size) w)) ≡ write_value c e w
view_written ts c e t size w is h at width =
    change_map ts e.map t (with_bytes t (e.place * size) w) (λ s. record { shape = s.shape; keys = s.keys; bytes = write_over s.bytes (e.place * value_size s.shape) w }) h at
    (ap (λ i. record { shape = t.shape; keys = keys_at t.shape t.index; bytes = (with_items_from t.block i w).items }) (ap (λ n. e.place * n) width)
    ∙ ap (λ n. record { shape = t.shape; keys = keys_at t.shape t.index; bytes = refill n t.block.items (take (e.place * value_size t.shape) t.block.items ++ (w ++ drop (length w) (drop (e.place * value_size t.shape) t.block.items))) }) t.block.ok.0)
    ∙ ap (λ x. write_value x e w) is

pub kept_length : (t : Table) (start : ℕ) (w : List ℕ) → length (with_bytes t start w).block.items ≡ length t.block.items
kept_length t start w = sym (with_bytes t start w).block.ok.0 ∙ t.block.ok.0

pub kept_shapes : (ts : List Table) (m : ℕ) (t u : Table) → t ≡ get_or ts m t → u.shape ≡ t.shape → stored_shapes (contents (slice_set ts m u)) ≡ stored_shapes (contents ts)
kept_shapes [] m t u e same = refl
kept_shapes (x ∷ ts) zero t u e same = ap (λ s. s ∷ stored_shapes (contents ts)) (same ∙ ap (λ (b : Table). b.shape) e)
kept_shapes (x ∷ ts) (suc m) t u e same = ap (λ s. x.shape ∷ s) (kept_shapes ts m t u e same)

pub all_set : {A : Type 0} (P : A → Type 0) (xs : List A) (i : ℕ) (y : A) → AllByRecursion P xs → P y → AllByRecursion P (slice_set xs i y)
all_set P [] i y all h = tt
all_set P (x ∷ xs) zero y all h = (h, all.1)
all_set P (x ∷ xs) (suc i) y all h = (all.0, all_set P xs i y all.1 h)

-- a table exchanged for one of the same shape
pub tables_kept : (ts : List Table) (m : ℕ) (t u : Table) → AreTables ts → t ≡ get_or ts m t → u.shape ≡ t.shape → IsTable u → AreTables (slice_set ts m u)
tables_kept ts m t u tables e same fits = record { shapes = subst AreShapesSupported (sym (kept_shapes ts m t u e same)) tables.shapes; each = all_set IsTable ts m u tables.each fits }

pub fits_written : (t : Table) (start : ℕ) (w : List ℕ) → IsTable t → IsTable (with_bytes t start w)
fits_written t start w table = record { index = table.index; full = kept_length t start w ∙ table.full }

pub full_written : (ts : List Table) (c : Contents) (m place : ℕ) (t : Table) (start : ℕ) (w : List ℕ) → contents ts ≡ c → AreTables ts → IsSome (key_at c m place) → t ≡ get_or ts m t
    → AreTables (slice_set ts m (with_bytes t start w))
full_written ts c m place t start w is tables h e =
    let at = standing ts c m place t is tables h e in
    tables_kept ts m t (with_bytes t start w) tables e refl (fits_written t start w at.0.table)

-- ---- the finite maps, and what stays

change_maps : (c : Contents) (m : ℕ) (s : Stored) (f : Stored → Stored) (g : MapState → MapState) → slice_get c m ≡ Some s → map_of (f s) ≡ g (map_of s) → map map_of (change_at f c m) ≡ change_at g (map map_of c) m
change_maps [] m s f g e is = refl
change_maps (x ∷ c) zero s f g e is = let same : s ≡ x = cc in ap (λ b. b ∷ map map_of c) (subst (λ y. map_of (f y) ≡ g (map_of y)) same is)
change_maps (x ∷ c) (suc m) s f g e is = ap (λ bs. map_of x ∷ bs) (change_maps c m s f g e is)

pub keep_keys : (f : Stored → Stored) → ((s : Stored) → (f s).keys ≡ s.keys) → (c : Contents) (m n place : ℕ) → key_at (change_at f c m) n place ≡ key_at c n place
keep_keys f same [] m n place = refl
keep_keys f same (x ∷ c) zero zero place = ap (λ ks. flat (slice_get ks place)) (same x)
keep_keys f same (x ∷ c) zero (suc n) place = refl
keep_keys f same (x ∷ c) (suc m) zero place = refl
keep_keys f same (x ∷ c) (suc m) (suc n) place = keep_keys f same c m n place

pub keys_kept : (c : Contents) (e : Entry) (w : List ℕ) (other : Entry) → key_of (write_value c e w) other ≡ key_of c other
keys_kept c e w other = keep_keys _ (λ _. refl) c e.map other.map other.place

pub keep_shapes : (f : Stored → Stored) → ((s : Stored) → (f s).shape ≡ s.shape) → (c : Contents) (m : ℕ) → stored_shapes (change_at f c m) ≡ stored_shapes c
keep_shapes f same [] m = refl
keep_shapes f same (x ∷ c) zero = ap (λ k. k ∷ stored_shapes c) (same x)
keep_shapes f same (x ∷ c) (suc m) = ap (λ ks. x.shape ∷ ks) (keep_shapes f same c m)

pub shapes_kept : (c : Contents) (e : Entry) (w : List ℕ) → stored_shapes (write_value c e w) ≡ stored_shapes c
shapes_kept c e w = keep_shapes _ (λ _. refl) c e.map

same_some : (o : Option (List ℕ)) (j k : List ℕ) → o ≡ Some j → o ≡ Some k → j ≡ k
same_some o j k p q = let r : Some j ≡ Some k = sym p ∙ q in cc

pub maps_written : (ts : List Table) (c : Contents) (e : Entry) (t : Table) (key w : List ℕ) → contents ts ≡ c → AreTables ts → t ≡ get_or ts e.map t → key_of c e ≡ Some key → length w ≡ value_size t.shape
    → maps_of (write_value c e w) ≡ put_value (maps_of c) e.map key w
maps_written ts c e t key w is tables at has many =
    let found = standing ts c e.map e.place t is tables (ap is_some has) at in
    let keys = keys_at t.shape t.index in
    let room = room_at t e.place found.1 found.0.ok found.0.table found.2 in
    let size = value_size t.shape in
    let stands : slice_get keys e.place ≡ Some (Some key) = subst (λ k. slice_get keys e.place ≡ Some (Some k)) (same_some (key_of c e) found.1 key found.3 has) found.2 in
    change_maps c e.map (stored t) _ _ found.0.there
    (ap (λ x. record { shape = t.shape; entries = x })
    (change_placed keys (value_in size t.block.items) (value_in size (write_over t.block.items (e.place * size) w)) e.place key (distinct t.shape t.index found.0.ok.entries.1) stands
    (λ i _ ne. kept_at t.block.items e.place size w room.0 many i ne)
    ∙ ap (finite_map.insert (placed keys (value_in size t.block.items) 0) key) (written_at t.block.items e.place size w room.0 many)))

-- ---- a table exchanged

changed_elsewhere : {A : Type 0} (f : A → A) (xs : List A) (m n : ℕ) → n ≢ m → slice_get (change_at f xs m) n ≡ slice_get xs n
changed_elsewhere f [] m n ne = refl
changed_elsewhere f (x ∷ xs) zero zero ne = absurd (ne refl)
changed_elsewhere f (x ∷ xs) zero (suc n) ne = refl
changed_elsewhere f (x ∷ xs) (suc m) zero ne = refl
changed_elsewhere f (x ∷ xs) (suc m) (suc n) ne = changed_elsewhere f xs m n (λ e. ne (ap suc e))

pub others_kept : (f : Stored → Stored) (c : Contents) (m n : ℕ) → n ≢ m → slice_get (change_at f c m) n ≡ slice_get c n
others_kept f c m n ne = changed_elsewhere f c m n ne

pub view_exchanged : (ts : List Table) (c : Contents) (m : ℕ) (t u : Table) → contents ts ≡ c → m < length ts → t ≡ get_or ts m t → contents (slice_set ts m u) ≡ change_at (λ _. stored u) c m
view_exchanged ts c m t u is h at = change_map ts m t u (λ _. stored u) h at refl ∙ ap (λ x. change_at (λ _. stored u) x m) is

pub maps_exchanged : (c : Contents) (m : ℕ) (t u : Table) (g : MapState → MapState) → IsAt c m t → map_of (stored u) ≡ g (map_of (stored t)) → maps_of (change_at (λ _. stored u) c m) ≡ change_at g (maps_of c) m
maps_exchanged c m t u g at same = change_maps c m (stored t) (λ _. stored u) g at.there same

-- ---- for callers: the map whose value is written, replaced in the list

changed : (maps : Maps) (m : ℕ) (s : MapState) (g : MapState → MapState) → slice_get maps m ≡ Some s → change_at g maps m ≡ slice_set maps m (g s)
changed [] m s g e = refl
changed (x ∷ maps) zero s g e = let same : x ≡ s = cc in ap (λ y. g y ∷ maps) same
changed (x ∷ maps) (suc m) s g e = ap (λ ms. x ∷ ms) (changed maps m s g e)

pub put_value_at : (maps : Maps) (m : ℕ) (s : MapState) (key w : List ℕ) → slice_get maps m ≡ Some s → put_value maps m key w ≡ slice_set maps m (record { shape = s.shape; entries = finite_map.insert s.entries key w })
put_value_at maps m s key w e = changed maps m s _ e

pub take_key_at : (maps : Maps) (m : ℕ) (s : MapState) (key : List ℕ) → slice_get maps m ≡ Some s → take_key maps m key ≡ slice_set maps m (record { shape = s.shape; entries = finite_map.remove s.entries key })
take_key_at maps m s key e = changed maps m s _ e
