-- What the tests of an entry find, one by one.
use Rattle.std.proofs.Common.{◌≡◌, ◌≢◌, ◌↔◌, ℕ, Bool, true, false, List, length, Option, Some, None, refl, sym}
use Rattle.std.specs.Prelude.{is_some, IsNone, nat_lt}
use Rattle.std.proofs.lemmas.Bool.{ne_eqb, eq-eqb}
use Rattle.std.specs.FinMap as finite_map
use Rattle.maps.specs.Shapes.{key_size, value_size, entry_count}
use Rattle.maps.specs.Maps.{MapState}
use Rattle.dumps.specs.declared.refusals.DumpFault.TheVariants as faults
use Rattle.dumps.specs.Grammar.{EntryLine}
use Rattle.dumps.specs.Loading.{Loading, is_hash, is_key_for, is_in_order, is_left_out, has_room, entry_fault}

-- ---- where a key is looked up

pub alike : {A B : Type 0} (a : Option A) (b : Option B) → (IsNone a ↔ IsNone b) → is_some a ≡ is_some b
alike None None h = refl
alike None (Some y) h = sym (h.0 refl)
alike (Some x) None h = h.1 refl
alike (Some x) (Some y) h = refl

-- ---- whether a map may have a key

pub other_size : (s : MapState) (key : List ℕ) → length key ≢ key_size s.shape → false ≡ is_key_for s key
unfolding is_key_for
other_size s key differ = rw (ne_eqb (length key) (key_size s.shape) differ) refl

pub hash_key : (s : MapState) (key : List ℕ) → length key ≡ key_size s.shape → is_hash s.shape ≡ true → true ≡ is_key_for s key
unfolding is_key_for
hash_key s key size hash = rw (eq-eqb (length key) (key_size s.shape) size, hash) refl

pub array_key : (s : MapState) (key : List ℕ) (b : Bool) → length key ≡ key_size s.shape → is_hash s.shape ≡ false → b ≡ is_some (finite_map.get s.entries key) → b ≡ is_key_for s key
unfolding is_key_for
array_key s key b size hash there = rw (eq-eqb (length key) (key_size s.shape) size, hash) there

-- ---- whether it has room

pub known_key : (s : MapState) (key : List ℕ) → is_some (finite_map.get s.entries key) ≡ true → true ≡ has_room s key
unfolding has_room
known_key s key there = rw there refl

pub hash_room : (s : MapState) (key : List ℕ) (n k : ℕ) → is_some (finite_map.get s.entries key) ≡ false → is_hash s.shape ≡ true
    → n ≡ finite_map.len s.entries → k ≡ entry_count s.shape → nat_lt n k ≡ has_room s key
unfolding has_room
hash_room s key n k there hash count most = rw (there, hash, count, most) refl

pub array_room : (s : MapState) (key : List ℕ) → is_some (finite_map.get s.entries key) ≡ false → is_hash s.shape ≡ false → false ≡ has_room s key
unfolding has_room
array_room s key there hash = rw (there, hash) refl

-- ---- the first fault

module _ (so : Loading) (e : EntryLine) (s : MapState) where
  pub bad_key : is_key_for s e.key ≡ false → Some faults.BadKey ≡ entry_fault so e s
  unfolding entry_fault
  bad_key key = rw key refl

  pub bad_value : is_key_for s e.key ≡ true → length e.value ≢ value_size s.shape → Some faults.BadValue ≡ entry_fault so e s
  unfolding entry_fault
  bad_value key value = rw (key, ne_eqb (length e.value) (value_size s.shape) value) refl

  pub out_of_order : is_key_for s e.key ≡ true → length e.value ≡ value_size s.shape → is_in_order so e ≡ false → Some faults.OutOfOrder ≡ entry_fault so e s
  unfolding entry_fault
  out_of_order key value order = rw (key, eq-eqb (length e.value) (value_size s.shape) value, order) refl

  pub zero_value : is_key_for s e.key ≡ true → length e.value ≡ value_size s.shape → is_in_order so e ≡ true → is_left_out s.shape e.value ≡ true → Some faults.ZeroValue ≡ entry_fault so e s
  unfolding entry_fault
  zero_value key value order zero = rw (key, eq-eqb (length e.value) (value_size s.shape) value, order, zero) refl

  pub full : is_key_for s e.key ≡ true → length e.value ≡ value_size s.shape → is_in_order so e ≡ true → is_left_out s.shape e.value ≡ false → has_room s e.key ≡ false → Some faults.Full ≡ entry_fault so e s
  unfolding entry_fault
  full key value order zero room = rw (key, eq-eqb (length e.value) (value_size s.shape) value, order, zero, room) refl

  pub none : is_key_for s e.key ≡ true → length e.value ≡ value_size s.shape → is_in_order so e ≡ true → is_left_out s.shape e.value ≡ false → has_room s e.key ≡ true → None ≡ entry_fault so e s
  unfolding entry_fault
  none key value order zero room = rw (key, eq-eqb (length e.value) (value_size s.shape) value, order, zero, room) refl
