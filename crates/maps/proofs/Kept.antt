-- Maps stay maps of their shapes where a value is put under a key, or a key is taken out.
use Rattle.std.proofs.Common.{◌≡◌, ℕ, zero, suc, ◌+◌, ◌-◌, ◌<◌, ◌≤◌, inl, inr, ⊎_elim, Bool, true, false, cond, List, [], ◌∷◌, Option, Some, None, refl, sym, ap, ◌∙◌, arith, subst, get_or, Fits, w8, length-take, length-drop}
use Rattle.std.specs.Prelude.{◌*◌, ◌⊎◌, drop, length, slice_get, slice_set, take, is_some, IfSome, IsNone, option_and_then}
use Rattle.std.specs.Option.{option_map}
use Rattle.std.proofs.lemmas.Option.{slice_get-map}
use Rattle.std.specs.Ordering.{nat_cmp, eq_by_cmp}
use Rattle.std.specs.Cmp.Lexicographic.{slice_cmp, nat_list_cmp_total}
use Rattle.std.specs.FinMap as finite_map
use Rattle.std.specs.FinMap.{get-insert, get-remove, len-insert, len-remove}
use Rattle.maps.specs.declared.shapes.Shape.{Shape}
use Rattle.maps.specs.declared.shapes.Shape.TheVariants.{Array, Hash}
use Rattle.maps.specs.Shapes.{IsHash, IsShapeSupported, entry_count, key_size, value_size}
use Rattle.maps.specs.Maps.{AreBytes, AreMaps, Entries, HasEntryCount, HasShapes, IsKeyOf, IsMapState, IsValueOf, MapState, Maps, index_key, shapes_of, value_at}
use Rattle.maps.specs.declared.table.Table.{Table}
use Rattle.maps.specs.declared.entry.Entry.{Entry}
use Rattle.maps.specs.Blocks.{contents, stored}
use Rattle.maps.specs.MapSets.{Contents, HasRoom, Stored, change_at, maps_of, put_value, stored_shapes, take_key, value_in, write_value}
use Rattle.maps.proofs.Keys.{key_same}
use Rattle.maps.proofs.StoredShapes.{stored_are}
use Rattle.maps.proofs.Stored.{for_shape, of_shape, room_at}
use Rattle.maps.proofs.Written.{written_same}
use Rattle.maps.proofs.TableKeys.{IsClaimed}
use Rattle.maps.proofs.Exchanged.{IsExchanged, now_there, puts_written}

-- ---- entries after a value was put, and after a key was taken

pub has_inserted : (c : Entries) (key value q : List ℕ) → finite_map.contains_key c q ≡ true → finite_map.contains_key (finite_map.insert c key value) q ≡ true
has_inserted c key value q h = ap is_some (get-insert nat_list_cmp_total c key value q) ∙ by (eq_by_cmp (slice_cmp nat_cmp) q key)
  where
    by : (b : Bool) → is_some (cond b (Some value) (finite_map.get c q)) ≡ true
    by true = refl
    by false = h

-- a value of the entries after is the one inserted, or was there
pub from_insert : (c : Entries) (key value q v : List ℕ) → finite_map.get (finite_map.insert c key value) q ≡ Some v → ((q ≡ key) × (v ≡ value)) ⊎ (finite_map.get c q ≡ Some v)
from_insert c key value q v e = by (eq_by_cmp (slice_cmp nat_cmp) q key) refl (sym (get-insert nat_list_cmp_total c key value q) ∙ e)
  where
    by : (b : Bool) → eq_by_cmp (slice_cmp nat_cmp) q key ≡ b → cond b (Some value) (finite_map.get c q) ≡ Some v → ((q ≡ key) × (v ≡ value)) ⊎ (finite_map.get c q ≡ Some v)
    by true p h = inl (key_same q key p, cc)
    by false p h = inr h

pub from_remove : (c : Entries) (key q v : List ℕ) → finite_map.get (finite_map.remove c key) q ≡ Some v → finite_map.get c q ≡ Some v
from_remove c key q v e = by (eq_by_cmp (slice_cmp nat_cmp) q key) (sym (get-remove nat_list_cmp_total c key q) ∙ e)
  where
    by : (b : Bool) → cond b None (finite_map.get c q) ≡ Some v → finite_map.get c q ≡ Some v
    by true h = absurd cc
    by false h = h

pub some_of : (o : Option (List ℕ)) → is_some o ≡ true → (v : List ℕ) × (o ≡ Some v)
some_of None h = absurd cc
some_of (Some v) h = (v, refl)

has : (o : Option (List ℕ)) (v : List ℕ) → o ≡ Some v → is_some o ≡ true
has o v e = ap is_some e

shorter : (b : Bool) (n : ℕ) → cond b (n - 1) n ≤ n
shorter true n = omega arith
shorter false n = omega arith

longer : (b : Bool) (n : ℕ) → cond b n (n + 1) ≤ n + 1
longer true n = omega arith
longer false n = omega arith

-- ---- one map

-- a key may be put: it is there, or the map is a hash that isn't full
abbrev pub MayPut : MapState → List ℕ → Type 0
MayPut s key = (finite_map.contains_key s.entries key ≡ true) ⊎ (IsHash s.shape × (finite_map.len s.entries < entry_count s.shape))

put_count : (shape : Shape) (c : Entries) (key value : List ℕ) → MayPut (record { shape = shape; entries = c }) key → HasEntryCount shape c → HasEntryCount shape (finite_map.insert c key value)
put_count (Array size entries) c key value may h = λ n lt. has_inserted c key value (index_key n) (h n lt)
put_count (Hash size width entries) c key value may h =
    let after = len-insert nat_list_cmp_total c key value in
    ⊎_elim
    (λ there. subst (λ n. n ≤ entries) (sym (after ∙ ap (λ b. cond b (finite_map.len c) (finite_map.len c + 1)) there)) h)
    (λ room. let more = longer (finite_map.contains_key c key) (finite_map.len c) in let low = room.1 in omega (arith, after, more, low))
    may

-- a key that may be put is one of the map's
pub put_key : (shape : Shape) (c : Entries) (key : List ℕ) → MayPut (record { shape = shape; entries = c }) key → ((k : List ℕ) → finite_map.contains_key c k ≡ true → IsKeyOf shape k) → (length key ≡ key_size shape) × AreBytes key → IsKeyOf shape key
put_key (Array size entries) c key may each fits = ⊎_elim (λ there. each key there) (λ room. absurd room.0) may
put_key (Hash size width entries) c key may each fits = fits

pub put_keeps : (s : MapState) (key value : List ℕ) → IsMapState s → MayPut s key → IsKeyOf s.shape key → IsValueOf s.shape value → IsMapState (record { shape = s.shape; entries = finite_map.insert s.entries key value })
put_keeps s key value is may k v = record {
  count = put_count s.shape s.entries key value may is.count;
  each_key = λ q h.
      let o = some_of (finite_map.get (finite_map.insert s.entries key value) q) h in
      ⊎_elim (λ p. subst (IsKeyOf s.shape) (sym p.0) k) (λ p. is.each_key q (has _ o.0 p)) (from_insert s.entries key value q o.0 o.1);
  each_value = λ q w h. ⊎_elim (λ p. subst (IsValueOf s.shape) (sym p.1) v) (λ p. is.each_value q w p) (from_insert s.entries key value q w h);
}

take_count : (shape : Shape) (c : Entries) (key : List ℕ) → IsHash shape → HasEntryCount shape c → HasEntryCount shape (finite_map.remove c key)
take_count (Array size entries) c key hash h = absurd hash
take_count (Hash size width entries) c key hash h = let l = len-remove nat_list_cmp_total c key in let less = shorter (finite_map.contains_key c key) (finite_map.len c) in omega (arith, l, less, h)

pub take_keeps : (s : MapState) (key : List ℕ) → IsMapState s → IsHash s.shape → IsMapState (record { shape = s.shape; entries = finite_map.remove s.entries key })
take_keeps s key is hash = record {
  count = take_count s.shape s.entries key hash is.count;
  each_key = λ k h. let o = some_of (finite_map.get (finite_map.remove s.entries key) k) h in is.each_key k (has _ o.0 (from_remove s.entries key k o.0 o.1));
  each_value = λ k w h. is.each_value k w (from_remove s.entries key k w h);
}

-- ---- all maps

shapes_stay : (f : MapState → MapState) (maps : Maps) (m : ℕ) → ((s : MapState) → (f s).shape ≡ s.shape) → shapes_of (change_at f maps m) ≡ shapes_of maps
shapes_stay f [] m same = refl
shapes_stay f (s ∷ maps) zero same = ap (λ k. k ∷ shapes_of maps) (same s)
shapes_stay f (s ∷ maps) (suc m) same = ap (λ ks. s.shape ∷ ks) (shapes_stay f maps m same)

maps_stay : (f : MapState → MapState) (maps : Maps) (m : ℕ) → ((s : MapState) → slice_get maps m ≡ Some s → IsMapState s → IsMapState (f s)) → AreMaps maps → AreMaps (change_at f maps m)
maps_stay f [] m keeps are = tt
maps_stay f (s ∷ maps) zero keeps are = (keeps s refl are.0, are.1)
maps_stay f (s ∷ maps) (suc m) keeps are = (are.0, maps_stay f maps m keeps are.1)

may_put : (maps : Maps) (m : ℕ) (key : List ℕ) (s : MapState) → HasRoom maps m key → slice_get maps m ≡ Some s → MayPut s key
may_put maps m key s room there = by (finite_map.get s.entries key) refl
  where
    by : (o : Option (List ℕ)) → finite_map.get s.entries key ≡ o → MayPut s key
    by (Some v) e = inl (ap is_some e)
    by None e =
        let none : IsNone (value_at maps m key) = ap is_some (ap (option_and_then (λ (x : MapState). finite_map.get x.entries key)) there ∙ e) in
        inr (subst (λ o. IfSome o (λ (x : MapState). IsHash x.shape × (finite_map.len x.entries < entry_count x.shape))) there (room none))

-- a key and a value that may be put into map m
abbrev pub MayPutThere : Maps → ℕ → List ℕ → List ℕ → Type 0
MayPutThere maps m key value = (s : MapState) → slice_get maps m ≡ Some s → IsMapState s → MayPut s key × IsKeyOf s.shape key × IsValueOf s.shape value

pub put_has_shapes : (maps : Maps) (m : ℕ) (key value : List ℕ) → MayPutThere maps m key value → (shapes : List Shape) → HasShapes shapes maps → HasShapes shapes (put_value maps m key value)
put_has_shapes maps m key value fits shapes h = record {
  same = shapes_stay _ maps m (λ _. refl) ∙ h.same;
  each = maps_stay _ maps m (λ s there is. let f = fits s there is in put_keeps s key value is f.0 f.1 f.2) h.each;
}

pub take_has_shapes : (maps : Maps) (m : ℕ) (key : List ℕ) → ((s : MapState) → slice_get maps m ≡ Some s → IsHash s.shape) → (shapes : List Shape) → HasShapes shapes maps → HasShapes shapes (take_key maps m key)
take_has_shapes maps m key hash shapes h = record {
  same = shapes_stay _ maps m (λ _. refl) ∙ h.same;
  each = maps_stay _ maps m (λ s there is. take_keeps s key is (hash s there)) h.each;
}

-- ---- for the calls of a set of maps

pub are_bytes : (xs : List ℕ) → ((k : ℕ) → Fits w8 (get_or xs k 0)) → AreBytes xs
are_bytes [] h = tt
are_bytes (x ∷ xs) h = (let f : Fits w8 x = h 0 in omega arith, are_bytes xs (λ k. h (suc k)))

-- what is asked of the shape of a map holds of the map
pub of_map : (P : Shape → Type 0) (c : Contents) (m : ℕ) (s : MapState) → slice_get (maps_of c) m ≡ Some s → IfSome (slice_get (stored_shapes c) m) P → P s.shape
of_map P c m s there h =
    subst (λ o. IfSome o P) (ap (λ z. slice_get z m) (stored_are c) ∙ (slice_get-map (λ (x : MapState). x.shape) (maps_of c) m ∙ ap (option_map (λ (x : MapState). x.shape)) there)) h

-- a key that is there, or has room
pub fits_room : (c : Contents) (m : ℕ) (key value : List ℕ) → HasRoom (maps_of c) m key → AreBytes key → AreBytes value → IfSome (slice_get (stored_shapes c) m) (λ s. length key ≡ key_size s)
    → IfSome (slice_get (stored_shapes c) m) (λ s. length value ≡ value_size s) → MayPutThere (maps_of c) m key value
fits_room c m key value room keys values long wide = λ s there is.
    let may = may_put (maps_of c) m key s room there in
    (may, put_key s.shape s.entries key may is.each_key (of_map (λ k. length key ≡ key_size k) c m s there long, keys), (of_map (λ k. length value ≡ value_size k) c m s there wide, values))

-- a key that is there
pub fits_there : (c : Contents) (m : ℕ) (key old value : List ℕ) → value_at (maps_of c) m key ≡ Some old → AreBytes value → IfSome (slice_get (stored_shapes c) m) (λ s. length value ≡ value_size s) → MayPutThere (maps_of c) m key value
fits_there c m key old value stands values wide = λ s there is.
    let has : finite_map.contains_key s.entries key ≡ true = ap is_some (sym (ap (option_and_then (λ (x : MapState). finite_map.get x.entries key)) there) ∙ stands) in
    (inl has, is.each_key key has, (of_map (λ k. length value ≡ value_size k) c m s there wide, values))

-- ---- a key that was put, before its value is written

taken_bytes : (n : ℕ) (xs : List ℕ) → AreBytes xs → AreBytes (take n xs)
taken_bytes zero xs h = tt
taken_bytes (suc n) [] h = tt
taken_bytes (suc n) (x ∷ xs) h = (h.0, taken_bytes n xs h.1)

dropped_bytes : (n : ℕ) (xs : List ℕ) → AreBytes xs → AreBytes (drop n xs)
dropped_bytes zero xs h = h
dropped_bytes (suc n) [] h = tt
dropped_bytes (suc n) (x ∷ xs) h = dropped_bytes n xs h.1

change_nothing : (f : Stored → Stored) (c : Contents) (m : ℕ) (s : Stored) → slice_get c m ≡ Some s → f s ≡ s → change_at f c m ≡ c
change_nothing f [] m s e same = refl
change_nothing f (x ∷ c) zero s e same = let is : s ≡ x = cc in ap (λ y. y ∷ c) (subst (λ y. f y ≡ y) is same)
change_nothing f (x ∷ c) (suc m) s e same = ap (λ ys. x ∷ ys) (change_nothing f c m s e same)

-- the bytes at its place are its value
pub there_now : (ts : List Table) (c : Contents) (m : ℕ) (t u : Table) (key : List ℕ) (e : Entry) → IsExchanged ts c m t u → IsClaimed t u key e.place → e.map ≡ m
    → (w : List ℕ) × (maps_of (contents (slice_set ts m u)) ≡ put_value (maps_of c) m key w) × (AreBytes u.block.items → AreBytes w) × IfSome (slice_get (stored_shapes c) m) (λ s. length w ≡ value_size s)
there_now ts c m t u key e h is same =
    let size = value_size u.shape in
    let bytes = u.block.items in
    let w = value_in size bytes e.place in
    let ok = subst IsShapeSupported (sym is.shape) h.there.ok in
    let room = (room_at u e.place key ok is.table is.claimed.stands).0 in
    let long : length w ≡ size = (let l = length-take size (drop (e.place * size) bytes) in let d = length-drop (e.place * size) bytes in omega (arith, l, d, room)) in
    let new = contents (slice_set ts m u) in
    let there : slice_get new m ≡ Some (stored u) = (now_there ts c m t u h is.shape is.table).there in
    let kept : write_value new e w ≡ new =
    change_nothing _ new e.map (stored u) (subst (λ n. slice_get new n ≡ Some (stored u)) (sym same) there)
    (ap (λ b. record { shape = u.shape; keys = (stored u).keys; bytes = b }) (written_same bytes e.place size w room long refl)) in
    let width : length w ≡ value_size t.shape = long ∙ ap value_size is.shape in
    let put = for_shape (λ s. length w ≡ value_size s → maps_of (write_value new e w) ≡ put_value (maps_of c) m key w) c m (stored t) h.there.there (puts_written ts c m t u key e h is same w) in
    (w, ap maps_of (sym kept) ∙ put width, λ all. taken_bytes size (drop (e.place * size) bytes) (dropped_bytes (e.place * size) bytes all), of_shape (λ s. length w ≡ value_size s) c m (stored t) h.there.there width)
