-- A dump is loaded where a store has more than the one that it was made under: more entries in its maps, more maps after them, more places,
-- longer programs.
use Rattle.std.specs.Prelude.{◌≡◌, ℕ, ◌≤◌, List, length, map, Some, Ok, slice_get}
use Rattle.std.specs.Option.{option_or}
use Rattle.std.specs.FinMap as finite_map
use Rattle.maps.specs.declared.shapes.Shape.{Shape}
use Rattle.maps.specs.declared.shapes.Shape.TheVariants.{Array, Hash}
use Rattle.maps.specs.Shapes.{AreShapesSupported}
use Rattle.maps.specs.Maps.{MapState, shapes_of}
use Rattle.maps.specs.MapSets.{opening_map, opening_maps}
use Rattle.verifier.specs.Accepted.{Checked}
use Rattle.loader.specs.StoreState.{StoreState, StateSizes}
use Rattle.dumps.specs.Loading.{loaded_state}

-- A map of the second shape may have all that one of the first has. Both are arrays or both hashes, with keys and values of the same sizes, and
-- the second has as many entries or more
abbrev pub Extends : Shape → Shape → Type 0
Extends (Array value entries) (Array value' entries') = (value' ≡ value) × (entries ≤ entries')
Extends (Hash key value entries) (Hash key' value' entries') = (key' ≡ key) × (value' ≡ value) × (entries ≤ entries')
Extends s t = ⊥

-- for each of these maps there is one of the same number that may have all that it has; more may come after them
abbrev pub AllExtend : List Shape → List Shape → Type 0
AllExtend shapes wider = (m : ℕ) (s : Shape) → slice_get shapes m ≡ Some s → (t : Shape) × (slice_get wider m ≡ Some t) × Extends s t

-- a map has each value of another, and where that has none, what it has itself when it is opened
abbrev pub HasAllOf : MapState → MapState → Type 0
HasAllOf s t =
    (key : List ℕ) → finite_map.get t.entries key ≡ option_or (finite_map.get s.entries key) (finite_map.get (opening_map t.shape).entries key)

-- the program, accepted for these maps
abbrev pub for_maps : List Shape → Checked → Checked
for_maps shapes c = record c { shapes = shapes }

-- a state of the new sizes may have all that one of the old sizes has: as much in its maps, as many programs, programs as long
pub record HasMore (old new : StateSizes) : Type 0 where
  pub shapes : AllExtend old.shapes new.shapes
  pub places : old.places ≤ new.places
  pub long : old.long ≤ new.long

-- A state of these sizes has all that another has. Else it has what a new one has
pub record IsWidened (z : StateSizes) (s t : StoreState) : Type 0 where
  pub shapes : shapes_of t.maps ≡ z.shapes
  pub maps : (m : ℕ) (a : MapState) → slice_get s.maps m ≡ Some a → (b : MapState) × (slice_get t.maps m ≡ Some b) × HasAllOf a b
  pub others : (m : ℕ) → length s.maps ≤ m → slice_get t.maps m ≡ slice_get (opening_maps z.shapes) m
  pub programs : t.programs ≡ map (for_maps z.shapes) s.programs
  pub places : t.places ≡ z.places
  pub long : t.long ≡ z.long

-- what is loaded for some sizes is loaded for more
abbrev pub DumpFitsMore : Type 0
DumpFitsMore =
    (old new : StateSizes) (text : List ℕ) (s : StoreState) → AreShapesSupported new.shapes → HasMore old new → loaded_state old text ≡ Ok s
    → (t : StoreState) × (loaded_state new text ≡ Ok t) × IsWidened new s t
