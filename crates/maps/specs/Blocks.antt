-- How tables are read. No public clause cites this module.
use Rattle.std.specs.Prelude.{◌≡◌, ℕ, List, Option, Some, None, length, map, slice_get, ◌≢◌, ◌<◌}
use Rattle.std.specs.List.{AllByRecursion}
use Rattle.keyindex.specs.declared.index.KeyIndex.{KeyIndex}
use Rattle.keyindex.specs.Places.{keys_of, filled, HasSizes}
use Rattle.maps.specs.declared.shapes.Shape.{Shape}
use Rattle.maps.specs.declared.shapes.Shape.TheVariants.{Array, Hash}
use Rattle.maps.specs.declared.table.Table.{Table}
use Rattle.maps.specs.Shapes.{AreShapesSupported, IsHash, entry_count, block_size}
use Rattle.maps.specs.MapSets.{Stored, Contents, index_keys, stored_shapes}

-- the keys by their places: an array's are its indices, a hash's those of its index
abbrev pub keys_at : Shape → Option KeyIndex → List (Option (List ℕ))
keys_at shape None = index_keys 0 (entry_count shape)
keys_at shape (Some index) = keys_of index

-- a table as it is seen
abbrev pub stored : Table → Stored
stored t = record { shape = t.shape; keys = keys_at t.shape t.index; bytes = t.block.items }

-- all tables
abbrev pub contents : List Table → Contents
contents tables = map stored tables

-- an array has no index; a hash has one of its sizes, with as many buckets as entries
abbrev pub FitsIndex : Shape → Option KeyIndex → Type 0
FitsIndex (Array value entries) None = Unit {0}
FitsIndex (Array value entries) (Some index) = ⊥
FitsIndex (Hash key value entries) None = ⊥
FitsIndex (Hash key value entries) (Some index) = HasSizes index key entries entries

-- the index and the block are as large as the shape asks
pub record IsTable (t : Table) : Type 0 where
  pub index : FitsIndex t.shape t.index
  pub full : length t.block.items ≡ block_size t.shape

-- the table is a hash's, with fewer keys than entries
abbrev pub HasFreePlace : Table → Type 0
HasFreePlace t = IsHash t.shape × (filled (stored t).keys < entry_count t.shape)

-- a key that isn't there has room
abbrev pub HasRoomFor : Table → List ℕ → Type 0
HasRoomFor t key = ((p : ℕ) → slice_get (stored t).keys p ≢ Some (Some key)) → HasFreePlace t

-- a key stands at a place that was its own or free, and the others where they did
pub record HasClaimed (t u : Table) (key : List ℕ) (place : ℕ) : Type 0 where
  pub stands : slice_get (stored u).keys place ≡ Some (Some key)
  pub own : (other : List ℕ) → slice_get (stored t).keys place ≡ Some (Some other) → other ≡ key
  pub others : (p : ℕ) → p ≢ place → slice_get (stored u).keys p ≡ slice_get (stored t).keys p

-- allowed shapes, and what each shape asks
pub record AreTables (tables : List Table) : Type 0 where
  pub shapes : AreShapesSupported (stored_shapes (contents tables))
  pub each : AllByRecursion IsTable tables
