-- The contents of maps (bpf(2): BPF_MAP_TYPE_HASH, BPF_MAP_TYPE_ARRAY): finite maps from byte strings to byte strings, each with its shape.
use Rattle.std.specs.Prelude.{◌≡◌, ℕ, ◌<◌, ◌≤◌, true, List, length, map, Option, Some, slice_get, option_and_then}
use Rattle.std.specs.Int.{w32, to_le_bytes}
use Rattle.std.specs.List.{AllByRecursion}
use Rattle.std.specs.Ordering.{nat_cmp}
use Rattle.std.specs.FinMap as finite_map
use Rattle.std.specs.Cmp.Lexicographic.{slice_cmp}
use Rattle.maps.specs.declared.shapes.Shape.{Shape}
use Rattle.maps.specs.declared.shapes.Shape.TheVariants.{Array, Hash}
use Rattle.maps.specs.Shapes.{value_size}

-- a byte is a number from 0 to 255
abbrev pub IsByte : ℕ → Type 0
IsByte n = n < 256

-- all are bytes
abbrev pub AreBytes : List ℕ → Type 0
AreBytes xs = AllByRecursion IsByte xs

-- from keys to values, in the order of the keys' bytes
abbrev pub Entries : Type 0
Entries = finite_map.FinMap (slice_cmp nat_cmp) (List ℕ)

-- one map: its shape, which stays, and its entries
pub record MapState : Type 0 where
  pub shape : Shape
  pub entries : Entries

-- the maps of a program, by their numbers
abbrev pub Maps : Type 0
Maps = List MapState

-- the shapes of maps
abbrev pub shapes_of : Maps → List Shape
shapes_of maps = map (λ m. m.shape) maps

-- the value under a key of map m
abbrev pub value_at : Maps → ℕ → List ℕ → Option (List ℕ)
value_at maps m key = option_and_then (λ s. finite_map.get s.entries key) (slice_get maps m)

-- ---- what a map of a shape has

-- an index as a key of an array: 4 bytes, the low one first
abbrev pub index_key : ℕ → List ℕ
index_key n = to_le_bytes w32 n

-- the keys of an array are its indices; a hash may have any key of its size
abbrev pub IsKeyOf : Shape → List ℕ → Type 0
IsKeyOf (Array value entries) k = (n : ℕ) × (n < entries) × (k ≡ index_key n)
IsKeyOf (Hash key value entries) k = (length k ≡ key) × AreBytes k

-- a value of a map of a shape: bytes, as many as it has in each value
abbrev pub IsValueOf : Shape → List ℕ → Type 0
IsValueOf shape v = (length v ≡ value_size shape) × AreBytes v

-- an array has each of its indices, always; a hash has at most so many keys
abbrev pub HasEntryCount : Shape → Entries → Type 0
HasEntryCount (Array value entries) c = (n : ℕ) → n < entries → finite_map.contains_key c (index_key n) ≡ true
HasEntryCount (Hash key value entries) c = finite_map.len c ≤ entries

-- as many entries as its shape has or may have, each with a key and a value of its sizes
pub record IsMapState (s : MapState) : Type 0 where
  pub count : HasEntryCount s.shape s.entries
  pub each_key : (k : List ℕ) → finite_map.contains_key s.entries k ≡ true → IsKeyOf s.shape k
  pub each_value : (k v : List ℕ) → finite_map.get s.entries k ≡ Some v → IsValueOf s.shape v

-- each is a map of its shape
abbrev pub AreMaps : Maps → Type 0
AreMaps maps = AllByRecursion IsMapState maps

-- maps of these shapes
pub record HasShapes (shapes : List Shape) (maps : Maps) : Type 0 where
  pub same : shapes_of maps ≡ shapes
  pub each : AreMaps maps
