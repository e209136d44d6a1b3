-- The value under one key: why it is refused to look for one, and what is told of it.
use Rattle.std.specs.Prelude.{◌≡◌, ℕ, Bool, true, false, List, Option, Some, None, Result, slice_get, nat_eq, if◌then◌else◌, MatchResult}
use Rattle.maps.specs.declared.shapes.Shape.{Shape}
use Rattle.maps.specs.Maps.{Maps, value_at}
use Rattle.maps.specs.Shapes.{key_size, value_size}
use Rattle.loader.specs.CatalogueView.{CatalogueView}
use Rattle.store_steps.specs.declared.getting.GetRefused.{GetRefused}
use Rattle.store_steps.specs.declared.getting.GetRefused.TheVariants.{UnknownMap, KeyLength, ValueLength}
use Rattle.store_steps.specs.declared.getting.Lookup.{Lookup}

-- ---- which are refused

-- the number that a refusal shows after its letter S
abbrev pub get_fault_number : GetRefused → ℕ
get_fault_number UnknownMap = 9
get_fault_number KeyLength = 11
get_fault_number ValueLength = 12

-- the refusal of a key and of room of these lengths, where a map has this shape, or there is none
abbrev pub length_fault : (key room : ℕ) → Option Shape → Option GetRefused
length_fault key room None = Some UnknownMap
length_fault key room (Some shape) =
    if nat_eq key (key_size shape) then (if nat_eq room (value_size shape) then None else Some ValueLength) else Some KeyLength

-- the store has no map of this number, else the map's keys have another length, else its values have another length than the room
abbrev pub get_refusal : CatalogueView → (map key room : ℕ) → Option GetRefused
get_refusal c map key room = length_fault key room (slice_get c.shapes map)

-- what is answered is this refusal, if there is one
abbrev pub IsVerdict : {A E : Type 0} → Option E → Result A E → Type 0
IsVerdict refusal result = MatchResult result (λ _. refusal ≡ None) (λ e. refusal ≡ Some e)

-- ---- what is told

-- a value, if one was found
abbrev pub value_if : Bool → List ℕ → Option (List ℕ)
value_if true value = Some value
value_if false value = None

-- under this key of a map these bytes stand, or nothing does, and then they are what they were
abbrev pub IsUnder : Maps → (map : ℕ) → (key old new : List ℕ) → Lookup → Type 0
IsUnder maps map key old new found = (value_at maps map key ≡ value_if found.found new) × (found.found ≡ false → new ≡ old)

-- ---- by what maps have

-- maps of these shapes have one of this number, with keys and values of these lengths
abbrev pub FitsIn : List Shape → (map key room : ℕ) → Type 0
FitsIn shapes map key room = (shape : Shape) × (slice_get shapes map ≡ Some shape) × (key ≡ key_size shape) × (room ≡ value_size shape)
