-- What stands in a set of maps, and what is known of it.
use Rattle.std.proofs.Common.{◌≡◌, ◌≢◌, Bool, ℕ, zero, suc, ◌+◌, ◌*◌, ◌<◌, ◌≤◌, false, List, [], ◌∷◌, length, Option, Some, None, refl, sym, ap, ◌∙◌, arith, subst, get_or}
use Rattle.std.proofs.lemmas.List.{length-map}
use Rattle.std.specs.Prelude.{IfSome, slice_get, take, drop, option_and_then, IsSome}
use Rattle.std.specs.List.{AllByRecursion}
use Rattle.std.specs.Option.{option_map}
use Rattle.std.specs.FinMap as finite_map
use Rattle.std.proofs.lemmas.Option.{slice_get-map, slice_get_within, get_or_from_slice_get}
use Rattle.std.proofs.Math.Nat.{mul-le-mul, mul-le-mul_right}
use Rattle.keyindex.specs.declared.index.KeyIndex.{KeyIndex}
use Rattle.keyindex.specs.Places.{HasSizes, filled}
use Rattle.keyindex.proofs.Export.{many_keys, listed_key, listed_once}
use Rattle.maps.specs.declared.shapes.Shape.{Shape}
use Rattle.maps.specs.declared.shapes.Shape.TheVariants.{Array, Hash}
use Rattle.maps.specs.Shapes.{IsShapeSupported, key_size, value_size, entry_count}
use Rattle.maps.specs.Maps.{MapState, value_at}
use Rattle.maps.specs.declared.table.Table.{Table}
use Rattle.maps.specs.MapSets.{Stored, Contents, value_in, entries_of, map_of, maps_of, key_at, flat, stored_shapes}
use Rattle.maps.specs.Blocks.{keys_at, stored, contents, FitsIndex, IsTable, AreTables}
use Rattle.maps.proofs.Placed.{Distinct, get_placed, length_index_keys, index_stands, index_distinct, filled_index, len_placed, get_nowhere}
use Rattle.maps.proofs.KeysChanged.{distinct_once}

pub get_at : {A : Type 0} (xs : List A) (i : ℕ) (x : A) → i < length xs → x ≡ get_or xs i x → slice_get xs i ≡ Some x
get_at [] i x h e = absurd (omega arith)
get_at (y ∷ ys) zero x h e = ap Some (sym e)
get_at (y ∷ ys) (suc i) x h e = get_at ys i x (omega arith) e

pub all_get : {A : Type 0} (P : A → Type 0) (xs : List A) (i : ℕ) (x : A) → AllByRecursion P xs → slice_get xs i ≡ Some x → P x
all_get P [] i x all e = absurd cc
all_get P (z ∷ xs) zero x all e = let is : z ≡ x = cc in subst P is all.0
all_get P (z ∷ xs) (suc i) x all e = all_get P xs i x all.1 e

flat_some : (o : Option (Option (List ℕ))) → IsSome (flat o) → (k : List ℕ) × (o ≡ Some (Some k))
flat_some None h = absurd cc
flat_some (Some None) h = absurd cc
flat_some (Some (Some k)) h = (k, refl)

pub stands : (c : Contents) (m place : ℕ) → IsSome (key_at c m place) → (s : Stored) × (k : List ℕ) × (slice_get c m ≡ Some s) × (slice_get s.keys place ≡ Some (Some k)) × (key_at c m place ≡ Some k)
stands c m place h = by (slice_get c m) refl h
  where
    by : (o : Option Stored) → slice_get c m ≡ o → IsSome (option_and_then (λ s. flat (slice_get s.keys place)) o)
        → (s : Stored) × (k : List ℕ) × (slice_get c m ≡ Some s) × (slice_get s.keys place ≡ Some (Some k)) × (key_at c m place ≡ Some k)
    by None e h = absurd cc
    by (Some s) e h = let k = flat_some (slice_get s.keys place) h in (s, k.0, e, k.1, ap (option_and_then (λ s. flat (slice_get s.keys place))) e ∙ ap flat k.1)

-- ---- the keys of a table

-- each key stands at one place
pub distinct : (shape : Shape) (index : Option KeyIndex) → entry_count shape ≤ 2147483648 → Distinct (keys_at shape index)
distinct shape None h = index_distinct 0 (entry_count shape) (omega (arith, h))
distinct shape (Some index) h = distinct_once (keys_at shape (Some index)) (listed_once index)

pub sizes : (shape : Shape) (index : KeyIndex) → FitsIndex shape (Some index) → HasSizes index (key_size shape) (entry_count shape) (entry_count shape)
sizes (Array value entries) index h = absurd h
sizes (Hash key value entries) index h = h

pub below : (shape : Shape) (index : Option KeyIndex) (p : ℕ) (k : List ℕ) → FitsIndex shape index → slice_get (keys_at shape index) p ≡ Some (Some k) → p < entry_count shape
below shape None p k fits e = (index_stands 0 (entry_count shape) p k e).0
below shape (Some index) p k fits e = let low = (listed_key index p (Some k) e).0 in let many = (sizes shape index fits).places_are in subst (λ n. p < n) many low

-- there is a place for each entry
pub many_places : (shape : Shape) (index : Option KeyIndex) → FitsIndex shape index → length (keys_at shape index) ≡ entry_count shape
many_places shape None fits = length_index_keys 0 (entry_count shape)
many_places shape (Some index) fits = many_keys index ∙ (sizes shape index fits).places_are

-- how many there are
pub array_len : (t : Table) → IsShapeSupported t.shape → t.index ≡ None → entry_count t.shape ≡ finite_map.len (entries_of (stored t))
array_len t ok none =
    let v = value_in (value_size t.shape) t.block.items in
    sym (len_placed (keys_at t.shape t.index) v 0 (distinct t.shape t.index ok.entries.1) ∙ (ap (λ i. filled (keys_at t.shape i)) none ∙ filled_index 0 (entry_count t.shape)))

pub hash_len : (t : Table) (index : KeyIndex) → IsShapeSupported t.shape → t.index ≡ Some index → filled (keys_at t.shape (Some index)) ≡ finite_map.len (entries_of (stored t))
hash_len t index ok some =
    let v = value_in (value_size t.shape) t.block.items in
    sym (len_placed (keys_at t.shape t.index) v 0 (distinct t.shape t.index ok.entries.1) ∙ ap (λ i. filled (keys_at t.shape i)) some)

-- ---- the table of a map

one : {A : Type 0} (o : Option A) (x y : A) → o ≡ Some x → o ≡ Some y → x ≡ y
one o x y e f = let p : Some x ≡ Some y = sym e ∙ f in cc

-- table t is map m, of an allowed shape, and as large as it asks
pub record IsAt (c : Contents) (m : ℕ) (t : Table) : Type 0 where
  pub there : slice_get c m ≡ Some (stored t)
  pub ok : IsShapeSupported t.shape
  pub table : IsTable t

pub many_tables : (ts : List Table) (c : Contents) (m : ℕ) → contents ts ≡ c → m < length c → m < length ts
many_tables ts c m is h = subst (λ n. m < n) (length-map ts stored) (subst (λ (x : Contents). m < length x) (sym is) h)

pub shape_at : (c : Contents) (m : ℕ) (s : Stored) → slice_get c m ≡ Some s → slice_get (stored_shapes c) m ≡ Some s.shape
shape_at c m s there = slice_get-map (λ (x : Stored). x.shape) c m ∙ ap (option_map (λ (x : Stored). x.shape)) there

pub of_shape : (P : Shape → Type 0) (c : Contents) (m : ℕ) (s : Stored) → slice_get c m ≡ Some s → P s.shape → IfSome (slice_get (stored_shapes c) m) P
of_shape P c m s there h = subst (λ o. IfSome o P) (sym (shape_at c m s there)) h

pub for_shape : (P : Shape → Type 0) (c : Contents) (m : ℕ) (s : Stored) → slice_get c m ≡ Some s → IfSome (slice_get (stored_shapes c) m) P → P s.shape
for_shape P c m s there h = subst (λ o. IfSome o P) (shape_at c m s there) h

pub is_at : (ts : List Table) (c : Contents) (m : ℕ) (t : Table) → contents ts ≡ c → AreTables ts → m < length c → t ≡ get_or ts m t → IsAt c m t
is_at ts c m t is tables h e =
    let low = many_tables ts c m is h in
    let at = get_at ts m t low e in
    let first : slice_get (contents ts) m ≡ Some (stored t) = slice_get-map stored ts m ∙ ap (option_map stored) at in
    let shape = shape_at (contents ts) m (stored t) first in
    record {
      there = subst (λ x. slice_get x m ≡ Some (stored t)) is first;
      ok = subst IsShapeSupported (get_or_from_slice_get (stored_shapes (contents ts)) m t.shape t.shape shape) (tables.shapes.each m t.shape (slice_get_within (stored_shapes (contents ts)) m t.shape shape));
      table = all_get IsTable ts m t tables.each at;
    }

pub within : (c : Contents) (m : ℕ) → m < length (stored_shapes c) → m < length c
within c m h = subst (λ n. m < n) (length-map c (λ (s : Stored). s.shape)) h

-- the table of a map that there is
pub table_at : (ts : List Table) (c : Contents) (m : ℕ) (t : Table) → contents ts ≡ c → AreTables ts → m < length (stored_shapes c) → t ≡ get_or ts m t → IsAt c m t
table_at ts c m t is tables map e = is_at ts c m t is tables (within c m map) e

-- for callers: a map, and its shape
pub map_there : (c : Contents) (m : ℕ) → m < length (stored_shapes c) → (s : MapState) × (slice_get (maps_of c) m ≡ Some s) × (slice_get (stored_shapes c) m ≡ Some s.shape)
map_there [] m h = absurd (omega (arith, h))
map_there (x ∷ c) zero h = (map_of x, refl, refl)
map_there (x ∷ c) (suc m) h = map_there c m (omega (arith, h))

-- for callers: a map, its shape, and its places
pub stored_there : (c : Contents) (m : ℕ) → m < length (stored_shapes c) → (s : Stored) × (slice_get c m ≡ Some s) × (slice_get (maps_of c) m ≡ Some (map_of s))
stored_there [] m h = absurd (omega (arith, h))
stored_there (s ∷ c) zero h = (s, refl, refl)
stored_there (s ∷ c) (suc m) h = stored_there c m (omega (arith, h))

-- the table of an entry's map, and its key
pub standing : (ts : List Table) (c : Contents) (m place : ℕ) (t : Table) → contents ts ≡ c → AreTables ts → IsSome (key_at c m place) → t ≡ get_or ts m t
    → (at : IsAt c m t) × (k : List ℕ) × (slice_get (keys_at t.shape t.index) place ≡ Some (Some k)) × (key_at c m place ≡ Some k)
standing ts c m place t is tables h e =
    let found = stands c m place h in
    let at = is_at ts c m t is tables (slice_get_within c m found.0 found.2) e in
    let same : found.0 ≡ stored t = one (slice_get c m) found.0 (stored t) found.2 at.there in
    (at, found.1, subst (λ (s : Stored). slice_get s.keys place ≡ Some (Some found.1)) same found.3, found.4)

-- ---- its values

pub room_at : (t : Table) (place : ℕ) (k : List ℕ) → IsShapeSupported t.shape → IsTable t → slice_get (keys_at t.shape t.index) place ≡ Some (Some k)
    → (place * value_size t.shape + value_size t.shape ≤ length t.block.items) × (length t.block.items ≤ 35184372088832)
room_at t place k ok table e =
    let low = below t.shape t.index place k table.index e in
    let fits : (place + 1) * value_size t.shape ≤ entry_count t.shape * value_size t.shape = mul-le-mul_right (value_size t.shape) (omega (arith, low)) in
    let small : entry_count t.shape * value_size t.shape ≤ 2147483648 * 16384 = mul-le-mul ok.entries.1 ok.value.1 in
    let full = table.full in
    (omega (arith, fits, full), omega (arith, small, full))

pub map_at : (c : Contents) (m : ℕ) (s : Stored) → slice_get c m ≡ Some s → slice_get (maps_of c) m ≡ Some (map_of s)
map_at c m s there = slice_get-map map_of c m ∙ ap (option_map map_of) there

pub value_stands : (c : Contents) (m place : ℕ) (s : Stored) (k : List ℕ) → slice_get c m ≡ Some s → slice_get s.keys place ≡ Some (Some k) → key_at c m place ≡ Some k → Distinct s.keys
    → option_and_then (value_at (maps_of c) m) (key_at c m place) ≡ Some (value_in (value_size s.shape) s.bytes place)
value_stands c m place s k there stands key d =
    ap (option_and_then (value_at (maps_of c) m)) key
    ∙ (ap (option_and_then (λ x. finite_map.get x.entries k)) (map_at c m s there)
    ∙ get_placed s.keys (value_in (value_size s.shape) s.bytes) 0 place k d stands ∙ ap (λ i. Some (value_in (value_size s.shape) s.bytes i)) (omega arith))

-- ---- an entry's part of its block

pub bounds : (ts : List Table) (c : Contents) (m place : ℕ) (t : Table) (size : ℕ) → contents ts ≡ c → AreTables ts → IsSome (key_at c m place) → t ≡ get_or ts m t → size ≡ value_size t.shape
    → (place * size + size ≤ length t.block.items) × (place * size + size ≤ 35184372088832)
bounds ts c m place t size is tables h e width =
    let at = standing ts c m place t is tables h e in
    let room = room_at t place at.1 at.0.ok at.0.table at.2 in
    subst (λ n. (place * n + n ≤ length t.block.items) × (place * n + n ≤ 35184372088832)) (sym width) (room.0, omega (arith, room.0, room.1))

pub value_is : (ts : List Table) (c : Contents) (m place : ℕ) (t : Table) (size : ℕ) → contents ts ≡ c → AreTables ts → IsSome (key_at c m place) → t ≡ get_or ts m t → size ≡ value_size t.shape
    → option_and_then (value_at (maps_of c) m) (key_at c m place) ≡ Some (take size (drop (place * size) t.block.items))
value_is ts c m place t size is tables h e width =
    let at = standing ts c m place t is tables h e in
    value_stands c m place (stored t) at.1 at.0.there at.2 at.3 (distinct t.shape t.index at.0.ok.entries.1) ∙ ap (λ n. Some (take n (drop (place * n) t.block.items))) (sym width)

-- ---- a key looked up

pub value_in_map : (c : Contents) (m : ℕ) (s : Stored) (key : List ℕ) → slice_get c m ≡ Some s → value_at (maps_of c) m key ≡ finite_map.get (entries_of s) key
value_in_map c m s key there = ap (option_and_then (λ x. finite_map.get x.entries key)) (map_at c m s there)

pub key_stands : (c : Contents) (m place : ℕ) (t : Table) (key : List ℕ) → IsAt c m t → slice_get (stored t).keys place ≡ Some (Some key) → key_at c m place ≡ Some key
key_stands c m place t key at e = ap (option_and_then (λ s. flat (slice_get s.keys place))) at.there ∙ ap flat e

pub present : (c : Contents) (m place : ℕ) (t : Table) (key : List ℕ) → IsAt c m t → slice_get (stored t).keys place ≡ Some (Some key) → value_at (maps_of c) m key ≡ Some (value_in (value_size t.shape) t.block.items place)
present c m place t key at e =
    value_in_map c m (stored t) key at.there
    ∙ (get_placed (keys_at t.shape t.index) (value_in (value_size t.shape) t.block.items) 0 place key (distinct t.shape t.index at.ok.entries.1) e ∙ ap (λ i. Some (value_in (value_size t.shape) t.block.items i)) (let z : 0 + place ≡ place = omega arith in z))

pub missing : (c : Contents) (m : ℕ) (t : Table) (key : List ℕ) → IsAt c m t → ((p : ℕ) → slice_get (stored t).keys p ≢ Some (Some key)) → value_at (maps_of c) m key ≡ None
missing c m t key at none = value_in_map c m (stored t) key at.there ∙ get_nowhere (keys_at t.shape t.index) (value_in (value_size t.shape) t.block.items) 0 key none

pub both : (a b x : Bool) → a ≡ x → b ≡ x → (a ≡ false → b ≡ false) × (b ≡ false → a ≡ false)
both a b x p q = (λ e. q ∙ (sym p ∙ e), λ e. p ∙ (sym q ∙ e))

pub size_is : (c : Contents) (m n : ℕ) (s : Stored) → slice_get c m ≡ Some s → n ≡ value_size s.shape → IfSome (slice_get (stored_shapes c) m) (λ x. n ≡ value_size x)
size_is c m n s there e = of_shape (λ x. n ≡ value_size x) c m s there e
