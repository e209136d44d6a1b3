-- Scans of a map: why one is refused, and what one tells.
use Rattle.std.specs.Prelude.{◌≡◌, ℕ, ◌<◌, List, length, Option, Some, None, slice_get, nat_lt, if◌then◌else◌, IfSome}
use Rattle.maps.specs.declared.shapes.Shape.{Shape}
use Rattle.maps.specs.Maps.{MapState}
use Rattle.maps.specs.MapSets.{Stored, map_of}
use Rattle.maps.specs.Shapes.{entry_count}
use Rattle.maps.specs.Scans.{IsPage, KeyValue, Scans, given, room_in}
use Rattle.loader.specs.CatalogueView.{CatalogueView}
use Rattle.loader.specs.StoreState.{StoreState}
use Rattle.store_steps.specs.declared.scanning.Scan.{Scan}
use Rattle.store_steps.specs.declared.scanning.ScanRefused.{ScanRefused}
use Rattle.store_steps.specs.declared.scanning.ScanRefused.TheVariants.{UnknownMap, UnknownPlace}

-- ---- which scans are refused

-- the number that a refusal shows after its letter S
abbrev pub scan_fault_number : ScanRefused → ℕ
scan_fault_number UnknownMap = 9
scan_fault_number UnknownPlace = 10

-- the refusal of a place, where a map has this shape, or there is none
abbrev pub place_fault : ℕ → Option Shape → Option ScanRefused
place_fault from None = Some UnknownMap
place_fault from (Some shape) = if nat_lt from (entry_count shape) then None else Some UnknownPlace

-- the refusal of a scan from a place on: the store has no map of this number, else the map has no such place
abbrev pub scan_refusal : CatalogueView → ℕ → ℕ → Option ScanRefused
scan_refusal c map from = place_fault from (slice_get c.shapes map)

-- ---- what a scan tells

-- A scan of the map of this number, from a place on: m is that map in this state with its keys at some places, and these entries are the page of
-- m from that place on. Nothing here says that two scans have their keys at the same places: that is only tested.
pub record Scanned (c : CatalogueView) (state : StoreState) (map from room : ℕ) (m : Stored) (entries : List KeyValue) (s : Scan) : Type 0 where
  pub there : slice_get state.maps map ≡ Some (map_of m)
  pub shape : slice_get c.shapes map ≡ Some m.shape
  pub scans : Scans (map_of m) from room entries s.next
  pub page : IsPage m from entries s.next

-- `Scanned`, if there was room for so many bytes of keys and of values, and these bytes are there at the end
abbrev pub GivesIn : CatalogueView → StoreState → (map from key_room value_room : ℕ) → (keys values : List ℕ) → Scan → Type 0
GivesIn c state map from key_room value_room keys values s =
    (m : Stored) × Scanned c state map from (room_in m.shape key_room value_room) m (given m.shape s.count keys values) s

-- ---- by what a node has

-- maps of these shapes have one of this number, with such a place
abbrev pub IsPlaceIn : List Shape → (map from : ℕ) → Type 0
IsPlaceIn shapes map from = (map < length shapes) × IfSome (slice_get shapes map) (λ shape. from < entry_count shape)

-- the scan is one of that map of these
abbrev pub GivesThere : List MapState → (map from key_room value_room : ℕ) → (keys values : List ℕ) → Scan → Type 0
GivesThere maps map from key_room value_room keys values s =
    (m : Stored) × (slice_get maps map ≡ Some (map_of m)) × Scans (map_of m) from (room_in m.shape key_room value_room) (given m.shape s.count keys values) s.next
    × IsPage m from (given m.shape s.count keys values) s.next
