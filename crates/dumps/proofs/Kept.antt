-- Maps stay maps of their shapes when an entry is put in.
use Rattle.std.proofs.Common.{◌≡◌, ◌<◌, ℕ, Bool, true, false, List, length, Some, None, refl, sym, ◌∙◌, subst}
use Rattle.std.specs.Prelude.{slice_get, is_some, IfSome}
use Rattle.std.proofs.lemmas.Bool.{lt-leb}
use Rattle.std.specs.FinMap as finite_map
use Rattle.maps.specs.Shapes.{key_size, value_size, entry_count, IsHash}
use Rattle.maps.specs.declared.shapes.Shape.{Shape}
use Rattle.maps.specs.declared.shapes.Shape.TheVariants.{Array, Hash}
use Rattle.maps.specs.Maps.{Maps, MapState, AreMaps, AreBytes, IsMapState, IsValueOf, HasShapes, shapes_of, value_at}
use Rattle.maps.specs.MapSets.{Contents, maps_of, stored_shapes, put_value, HasRoom}
use Rattle.maps.proofs.Export.{all_get, map_there, put_value_at}
use Rattle.helpers.specs.Helpers.{update_error}
use Rattle.helpers.proofs.Export.{insert_keeps, entries_kept}
use Rattle.dumps.specs.Loading.{has_room}
use Rattle.dumps.proofs.Entries.{in_hash}

-- an update without flags is allowed where there is room
allowed : (shape : Shape) (present : Bool) (n : ℕ) → (present ≡ false → IsHash shape × (n < entry_count shape)) → update_error shape present n 0 ≡ None
allowed (Array value entries) true n room = refl
allowed (Array value entries) false n room = absurd (room refl).0
allowed (Hash key value entries) true n room = refl
allowed (Hash key value entries) false n room = rw (lt-leb entries n (room refl).1) refl

-- the room that is asked for, at the map that stands there
room_at : (c : Contents) (m : ℕ) (s : MapState) (key : List ℕ) → slice_get (maps_of c) m ≡ Some s → HasRoom (maps_of c) m key
    → is_some (finite_map.get s.entries key) ≡ false → IsHash s.shape × (finite_map.len s.entries < entry_count s.shape)
room_at c m s key at room absent =
    let there : is_some (value_at (maps_of c) m key) ≡ false = rw at absent in
    rw at at (room there)

pub put_keeps : (c d : Contents) (m : ℕ) (key value : List ℕ) → AreMaps (maps_of c) → m < length (stored_shapes c)
    → IfSome (slice_get (stored_shapes c) m) (λ s. length key ≡ key_size s) → IfSome (slice_get (stored_shapes c) m) (λ s. length value ≡ value_size s)
    → HasRoom (maps_of c) m key → AreBytes key → AreBytes value → maps_of d ≡ put_value (maps_of c) m key value → AreMaps (maps_of d)
put_keeps c d m key value each within key_fits value_fits room key_bytes value_bytes put =
    let there = map_there c m within in
    let s = there.0 in
    let size : length key ≡ key_size s.shape = rw there.2 at key_fits in
    let width : length value ≡ value_size s.shape = rw there.2 at value_fits in
    let free = allowed s.shape (finite_map.contains_key s.entries key) (finite_map.len s.entries) (room_at c m s key there.1 room) in
    let is = insert_keeps s key value 0 (all_get IsMapState (maps_of c) m s each there.1) free (size, key_bytes) (width, value_bytes) in
    let kept = entries_kept (shapes_of (maps_of c)) (maps_of c) m s (finite_map.insert s.entries key value) (record { same = refl; each = each }) there.1 is in
    subst AreMaps (sym (put ∙ put_value_at (maps_of c) m s key value there.1)) kept.each

-- a key and a value of their sizes, for which there is room
pub maps_keep : (shapes : List Shape) (maps : Maps) (m : ℕ) (s : MapState) (key value : List ℕ) → HasShapes shapes maps → slice_get maps m ≡ Some s → (length key ≡ key_size s.shape) × AreBytes key
    → IsValueOf s.shape value → has_room s key ≡ true → HasShapes shapes (put_value maps m key value)
unfolding has_room
maps_keep shapes maps m s key value has there key_is value_is room =
    let free = allowed s.shape (finite_map.contains_key s.entries key) (finite_map.len s.entries) (λ absent. in_hash s.shape (finite_map.len s.entries) (is_some (finite_map.get s.entries key)) room absent) in
    let is = insert_keeps s key value 0 (all_get IsMapState maps m s has.each there) free key_is value_is in
    let kept = entries_kept shapes maps m s (finite_map.insert s.entries key value) has there is in
    subst (HasShapes shapes) (sym (put_value_at maps m s key value there)) kept
