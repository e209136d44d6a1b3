-- A set of maps as callers see it: which key stands at which place of which map, and the values by place; and the finite maps that this makes.
use Rattle.std.specs.Prelude.{ℕ, zero, suc, ◌*◌, List, [], ◌∷◌, ◌++◌, length, map, take, drop, replicate, Option, Some, None, slice_get, option_and_then, ◌≡◌, ◌<◌, ◌≤◌, IsSome, IsNone, IfSome}
use Rattle.std.specs.List.{refill}
use Rattle.std.specs.Option.{option_map}
use Rattle.std.specs.FinMap as finite_map
use Rattle.maps.specs.declared.shapes.Shape.{Shape}
use Rattle.maps.specs.declared.shapes.Shape.TheVariants.{Array, Hash}
use Rattle.maps.specs.declared.entry.Entry.{Entry}
use Rattle.maps.specs.Shapes.{value_size, entry_count, block_size, IsHash}
use Rattle.maps.specs.Maps.{Maps, MapState, Entries, AreBytes, HasShapes, index_key, value_at}

-- one map: at each place the key that stands there, if one does; and the bytes of all values, those of place 0 first, also of
-- places where no key stands
pub record Stored : Type 0 where
  pub shape : Shape
  pub keys : List (Option (List ℕ))
  pub bytes : List ℕ

-- the maps of a set, by their numbers
abbrev pub Contents : Type 0
Contents = List Stored

-- ---- the finite maps

-- the bytes of value n, where each value has so many
abbrev pub value_in : ℕ → List ℕ → ℕ → List ℕ
value_in size bytes n = take size (drop (n * size) bytes)

-- keys, the first at place n, each with the value of its place
abbrev pub placed : List (Option (List ℕ)) → (ℕ → List ℕ) → ℕ → Entries
placed [] value n = finite_map.empty
placed (None ∷ keys) value n = placed keys value (suc n)
placed (Some key ∷ keys) value n = finite_map.insert (placed keys value (suc n)) key (value n)

-- the finite map that a stored map makes
abbrev pub entries_of : Stored → Entries
entries_of s = placed s.keys (value_in (value_size s.shape) s.bytes) 0

-- a stored map as callers see it
abbrev pub map_of : Stored → MapState
map_of s = record { shape = s.shape; entries = entries_of s }

-- the maps of a set as callers see them
abbrev pub maps_of : Contents → Maps
maps_of c = map map_of c

-- the shapes of a set's maps
abbrev pub stored_shapes : Contents → List Shape
stored_shapes c = map (λ s. s.shape) c

-- ---- places

-- what stands in an Option that stands in an Option
abbrev pub flat : {A : Type 0} → Option (Option A) → Option A
flat o = option_and_then (λ k. k) o

-- the key at a place of map m; none where the place is free
abbrev pub key_at : Contents → ℕ → ℕ → Option (List ℕ)
key_at c m place = option_and_then (λ s. flat (slice_get s.keys place)) (slice_get c m)

-- the key that an entry stands for, and its value
abbrev pub key_of : Contents → Entry → Option (List ℕ)
key_of c e = key_at c e.map e.place

-- the value of the key that an entry stands for
abbrev pub value_of : Contents → Entry → Option (List ℕ)
value_of c e = option_and_then (value_at (maps_of c) e.map) (key_of c e)

-- ---- the values of a map as one block

-- the bytes of all values of map m
abbrev pub block_of : Contents → ℕ → Option (List ℕ)
block_of c m = option_map (λ s. s.bytes) (slice_get c m)

-- a block has the value of each entry of map m: the value of place p is the bytes from p times the size of a value on
abbrev pub HoldsValues : Contents → ℕ → List ℕ → Type 0
HoldsValues c m block =
    (e : Entry) → e.map ≡ m → IsSome (key_of c e) → IfSome (slice_get (stored_shapes c) m) (λ s. value_of c e ≡ Some (value_in (value_size s) block e.place))

-- ---- a value written

-- an element of a list changed
abbrev pub change_at : {A : Type 0} → (A → A) → List A → ℕ → List A
change_at f [] i = []
change_at f (x ∷ xs) zero = f x ∷ xs
change_at f (x ∷ xs) (suc i) = x ∷ change_at f xs i

-- the bytes with others written over them from index i on, as far as they go
abbrev pub write_over : List ℕ → ℕ → List ℕ → List ℕ
write_over bytes i w = refill (length bytes) bytes (take i bytes ++ (w ++ drop (length w) (drop i bytes)))

-- the value of an entry written over
abbrev pub write_value : Contents → Entry → List ℕ → Contents
write_value c e w = change_at (λ s. record { shape = s.shape; keys = s.keys; bytes = write_over s.bytes (e.place * value_size s.shape) w }) c e.map

-- the bytes of all values of map m written over
abbrev pub write_block : Contents → ℕ → List ℕ → Contents
write_block c m w = change_at (λ s. record { shape = s.shape; keys = s.keys; bytes = write_over s.bytes 0 w }) c m

-- map m with a value under a key, in place of what was under it
abbrev pub put_value : Maps → ℕ → List ℕ → List ℕ → Maps
put_value maps m key value = change_at (λ (s : MapState). record { shape = s.shape; entries = finite_map.insert s.entries key value }) maps m

-- so many bytes, written over the value of an entry, become the value of its key
abbrev pub PutsValue : Contents → Entry → ℕ → Type 0
PutsValue c e size = (key w : List ℕ) → key_of c e ≡ Some key → length w ≡ size → maps_of (write_value c e w) ≡ put_value (maps_of c) e.map key w

-- and bytes written over it leave maps of any shapes maps of these shapes
abbrev pub KeepsShapes : Contents → Entry → ℕ → Type 0
KeepsShapes c e size = (shapes : List Shape) (w : List ℕ) → HasShapes shapes (maps_of c) → AreBytes w → length w ≡ size → HasShapes shapes (maps_of (write_value c e w))

-- where the bytes of one entry's value are written over in the block of map m, the key of the entry has that value
abbrev pub PutsOneValue : Contents → ℕ → List ℕ → Type 0
PutsOneValue c m block =
    (key v : List ℕ) (e : Entry) → e.map ≡ m → key_of c e ≡ Some key
    → IfSome (slice_get (stored_shapes c) m) (λ s. length v ≡ value_size s → maps_of (write_block c m (write_over block (e.place * value_size s) v)) ≡ put_value (maps_of c) m key v)

-- a value written at an entry of the second set makes its maps those of the first with the value under a key of map m
abbrev pub PutsWritten : Contents → Contents → ℕ → List ℕ → Entry → Type 0
PutsWritten c d m key e =
    (w : List ℕ) → IfSome (slice_get (stored_shapes c) m) (λ s. length w ≡ value_size s → maps_of (write_value d e w) ≡ put_value (maps_of c) m key w)

-- map m without a key
abbrev pub take_key : Maps → ℕ → List ℕ → Maps
take_key maps m key = change_at (λ (s : MapState). record { shape = s.shape; entries = finite_map.remove s.entries key }) maps m

-- a key of map m is there, or the map is a hash that isn't full
abbrev pub HasRoom : Maps → ℕ → List ℕ → Type 0
HasRoom maps m key = IsNone (value_at maps m key) → IfSome (slice_get maps m) (λ s. IsHash s.shape × (finite_map.len s.entries < entry_count s.shape))

-- a hash has as many keys as it may have; an array always has all
abbrev pub IsFull : MapState → Type 0
IsFull s = IsHash s.shape → entry_count s.shape ≤ finite_map.len s.entries

-- ---- maps as they are opened: arrays of zeros, and hashes without a key

-- the keys of n indices from i on
abbrev pub index_keys : ℕ → ℕ → List (Option (List ℕ))
index_keys i zero = []
index_keys i (suc n) = Some (index_key i) ∷ index_keys (suc i) n

-- the keys that a map of a shape has when it is opened
abbrev pub opening_keys : Shape → List (Option (List ℕ))
opening_keys (Array value entries) = index_keys 0 entries
opening_keys (Hash key value entries) = replicate entries None

-- a map as it is opened, as callers see it
abbrev pub opening_map : Shape → MapState
opening_map s = record { shape = s; entries = placed (opening_keys s) (λ _. replicate (value_size s) 0) 0 }

-- all maps as they are opened, as callers see them
abbrev pub opening_maps : List Shape → Maps
opening_maps shapes = map opening_map shapes

-- a map as it is opened
abbrev pub opened_map : Shape → Stored
opened_map s = record { shape = s; keys = opening_keys s; bytes = replicate (block_size s) 0 }

-- all maps as they are opened
abbrev pub opened : List Shape → Contents
opened shapes = map opened_map shapes
