-- An entry without a fault is put into its map.
use Rattle.std.proofs.Common.{◌≡◌, ◌<◌, ℕ, Bool, true, false, not, List, length, Some, None, Ok, Err, refl, sym}
use Rattle.std.specs.Prelude.{◌&&◌, ◌||◌, is_some, nat_lt, ◌==◌, if◌then◌else◌, slice_get}
use Rattle.std.proofs.lemmas.Bool.{eqb-true, ltb-true}
use Rattle.std.specs.FinMap as finite_map
use Rattle.maps.specs.Shapes.{key_size, value_size, entry_count, IsHash}
use Rattle.maps.specs.declared.shapes.Shape.{Shape}
use Rattle.maps.specs.declared.shapes.Shape.TheVariants.{Array, Hash}
use Rattle.maps.specs.Maps.{MapState, Maps}
use Rattle.maps.specs.MapSets.{Contents, maps_of, stored_shapes, HasRoom}
use Rattle.maps.proofs.Export.{map_there}
use Rattle.dumps.specs.declared.refusals.DumpFault.{DumpFault}
use Rattle.dumps.specs.declared.refusals.DumpFault.TheVariants as faults
use Rattle.dumps.specs.Grammar.{EntryLine}
use Rattle.dumps.specs.Loading.{Loading, is_hash, is_key_for, is_in_order, is_left_out, has_room, entry_fault, with_entry, after_entry}

-- the shape of the map that stands there
pub same_shape : (c : Contents) (m : ℕ) (s : MapState) (shape : Shape) → m < length (stored_shapes c) → slice_get (maps_of c) m ≡ Some s → slice_get (stored_shapes c) m ≡ Some shape → shape ≡ s.shape
same_shape c m s shape within map stored = let there = map_there c m within in cc (there.1, there.2, map, stored)

-- what passes the tests
pub record Passes (so : Loading) (e : EntryLine) (s : MapState) : Type 0 where
  pub key : is_key_for s e.key ≡ true
  pub value : length e.value ≡ value_size s.shape
  pub order : is_in_order so e ≡ true
  pub kept : is_left_out s.shape e.value ≡ false
  pub room : has_room s e.key ≡ true

passed : (a b c d f : Bool)
    → (if not a then Some faults.BadKey
    else if not b then Some faults.BadValue
    else if not c then Some faults.OutOfOrder
    else if d then Some faults.ZeroValue
    else if not f then Some faults.Full
    else None) ≡ None
    → (a ≡ true) × (b ≡ true) × (c ≡ true) × (d ≡ false) × (f ≡ true)
passed false b c d f h = cc
passed true false c d f h = cc
passed true true false d f h = cc
passed true true true true f h = cc
passed true true true false false h = cc
passed true true true false true h = (refl, refl, refl, refl, refl)

pub passes : (so : Loading) (e : EntryLine) (s : MapState) → None ≡ entry_fault so e s → Passes so e s
unfolding entry_fault
passes so e s h =
    let p = passed (is_key_for s e.key) (length e.value == value_size s.shape) (is_in_order so e) (is_left_out s.shape e.value) (has_room s e.key) (sym h) in
    record { key = p.0; value = eqb-true (length e.value) (value_size s.shape) p.1; order = p.2; kept = p.3; room = p.4 }

first_true : (a b : Bool) → (a && b) ≡ true → a ≡ true
first_true true b h = refl
first_true false b h = h

pub key_fits : (s : MapState) (key : List ℕ) → is_key_for s key ≡ true → length key ≡ key_size s.shape
unfolding is_key_for
key_fits s key h = eqb-true (length key) (key_size s.shape) (first_true _ _ h)

pub in_hash : (shape : Shape) (n : ℕ) (b : Bool) → (b || (is_hash shape && nat_lt n (entry_count shape))) ≡ true → b ≡ false → IsHash shape × (n < entry_count shape)
in_hash shape n true h lacks = cc
in_hash (Array value entries) n false h lacks = cc
in_hash (Hash key value entries) n false h lacks = (tt, ltb-true n entries h)

pub room_for : (maps : Maps) (m : ℕ) (s : MapState) (key : List ℕ) → slice_get maps m ≡ Some s → has_room s key ≡ true → HasRoom maps m key
unfolding has_room
room_for maps m s key at room = rw at (λ absent. in_hash s.shape (finite_map.len s.entries) (is_some (finite_map.get s.entries key)) room absent)

-- the entry is put in
pub put_in : (so : Loading) (e : EntryLine) (s : MapState) → slice_get so.state.maps e.map ≡ Some s → None ≡ entry_fault so e s → after_entry so e ≡ Ok (with_entry so e)
put_in so e s at none = rw (at, sym none) refl

-- the entry is refused
pub kept_out : (so : Loading) (e : EntryLine) (s : MapState) (fault : DumpFault) → slice_get so.state.maps e.map ≡ Some s → Some fault ≡ entry_fault so e s → after_entry so e ≡ Err fault
kept_out so e s fault at some = rw (at, sym some) refl
