-- The sizes of a map, by its shape, and which shapes maps may have.
use Rattle.std.specs.Prelude.{ℕ, ◌+◌, ◌*◌, ◌≤◌, Bool, ◌&&◌, not, nat_le, nat_lt, List, [], ◌∷◌, length, All, sum_by, find, Option}
use Rattle.std.specs.List.{list_all}
use Rattle.maps.specs.declared.shapes.Shape.{Shape}
use Rattle.maps.specs.declared.shapes.Shape.TheVariants.{Array, Hash}
use Rattle.maps.specs.declared.shapes.MapError.{MapError}
use Rattle.maps.specs.declared.shapes.MapError.TheVariants.{NoMemory, Refused}
use Rattle.maps.specs.declared.shapes.ShapeFault.{ShapeFault}
use Rattle.maps.specs.declared.shapes.ShapeFault.TheVariants.{NoMapOrTooMany, SizeOutOfLimits, TooManyBytes}
use Rattle.maps.specs.declared.shapes.MapLimits.{MapLimits}
use Rattle.maps.specs.declared.shapes.TheConstants.{MAX_MAPS, INDEX_BYTES, MAX_KEY_BYTES, MAX_VALUE_BYTES, MAX_ENTRIES, MAX_TOTAL_BYTES, MOST_KEY_BYTES, MOST_VALUE_BYTES, MOST_ENTRIES, MOST_TOTAL_BYTES, MAX_ARG_LEN, MOST_ARG_LEN}

-- the bytes of a key: an array's is an index
abbrev pub key_size : Shape → ℕ
key_size (Array value entries) = INDEX_BYTES
key_size (Hash key value entries) = key

-- the bytes of a value
abbrev pub value_size : Shape → ℕ
value_size (Array value entries) = value
value_size (Hash key value entries) = value

-- how many entries a map has, or a hash may have
abbrev pub entry_count : Shape → ℕ
entry_count (Array value entries) = entries
entry_count (Hash key value entries) = entries

-- the bytes of all values, one for each entry that a map has or may have
abbrev pub block_size : Shape → ℕ
block_size s = entry_count s * value_size s

-- the bytes that a map counts: an array's values, a hash's keys and values
abbrev pub room_of : Shape → ℕ
room_of (Array value entries) = entries * value
room_of (Hash key value entries) = entries * (key + value)

-- each size of a map is 1 at least, and within these limits
pub record IsShapeWithin (l : MapLimits) (s : Shape) : Type 0 where
  pub key : (1 ≤ key_size s) × (key_size s ≤ l.key)
  pub value : (1 ≤ value_size s) × (value_size s ≤ l.value)
  pub entries : (1 ≤ entry_count s) × (entry_count s ≤ l.entries)

-- 1 to 16 maps, each size and all bytes together within these limits
pub record AreShapesWithin (l : MapLimits) (shapes : List Shape) : Type 0 where
  pub many : (1 ≤ length shapes) × (length shapes ≤ MAX_MAPS)
  pub each : All (IsShapeWithin l) shapes
  pub room : sum_by room_of shapes ≤ l.bytes

-- the standard limits: keys of 64 bytes, values of 256 bytes, 65,536 entries, 16,777,216 bytes, arguments of 64 bytes
abbrev pub standard : MapLimits
standard = record { key = MAX_KEY_BYTES; value = MAX_VALUE_BYTES; entries = MAX_ENTRIES; bytes = MAX_TOTAL_BYTES; argument = MAX_ARG_LEN }

-- the widest limits: keys of 64 bytes, values of 16,384 bytes, 2,147,483,648 entries, 2^40 bytes, arguments of 16,384 bytes
abbrev pub widest : MapLimits
widest = record { key = MOST_KEY_BYTES; value = MOST_VALUE_BYTES; entries = MOST_ENTRIES; bytes = MOST_TOTAL_BYTES; argument = MOST_ARG_LEN }

-- no wider than the widest, and with room for the key of an array
pub record AreLimits (l : MapLimits) : Type 0 where
  pub key : (INDEX_BYTES ≤ l.key) × (l.key ≤ MOST_KEY_BYTES)
  pub value : l.value ≤ MOST_VALUE_BYTES
  pub entries : l.entries ≤ MOST_ENTRIES
  pub bytes : l.bytes ≤ MOST_TOTAL_BYTES
  pub argument : l.argument ≤ MOST_ARG_LEN

-- keys of 1 to 64 bytes, values of 1 to 256 bytes, 1 to 65,536 entries
abbrev pub IsShapeOk : Shape → Type 0
IsShapeOk s = IsShapeWithin standard s

-- 1 to 16 maps, each size in its limits, at most 16,777,216 bytes together
abbrev pub AreShapesOk : List Shape → Type 0
AreShapesOk shapes = AreShapesWithin standard shapes

-- a map, and maps, that the widest limits allow
abbrev pub IsShapeSupported : Shape → Type 0
IsShapeSupported s = IsShapeWithin widest s

abbrev pub AreShapesSupported : List Shape → Type 0
AreShapesSupported shapes = AreShapesWithin widest shapes

-- a hash, whose keys come and go
abbrev pub IsHash : Shape → Type 0
IsHash (Array value entries) = ⊥
IsHash (Hash key value entries) = Unit {0}

-- ---- refusals

-- the number that a refusal shows
abbrev pub fault_number : ShapeFault → ℕ
fault_number NoMapOrTooMany = 1
fault_number SizeOutOfLimits = 2
fault_number TooManyBytes = 3

-- the number that an error shows: a refusal's, or 4 where memory ran out
abbrev pub error_number : MapError → ℕ
error_number NoMemory = 4
error_number (Refused fault) = fault_number fault

-- whether a number is in limits
abbrev pub is_between : ℕ → ℕ → ℕ → Bool
is_between low high n = nat_le low n && nat_le n high

-- whether each size of a shape is in these limits
abbrev pub has_sizes : MapLimits → Shape → Bool
has_sizes l s = is_between 1 l.key (key_size s) && (is_between 1 l.value (value_size s) && is_between 1 l.entries (entry_count s))

-- whether shapes break the rule of a refusal
abbrev pub breaks : MapLimits → ShapeFault → List Shape → Bool
breaks l NoMapOrTooMany shapes = not (is_between 1 MAX_MAPS (length shapes))
breaks l SizeOutOfLimits shapes = not (list_all (has_sizes l) shapes)
breaks l TooManyBytes shapes = nat_lt l.bytes (sum_by room_of shapes)

-- the first of the rules that the shapes break, by these limits
abbrev pub first_fault_within : MapLimits → List Shape → Option ShapeFault
first_fault_within l shapes = find (λ e. breaks l e shapes) (NoMapOrTooMany ∷ SizeOutOfLimits ∷ TooManyBytes ∷ [])

-- the same by the standard limits
abbrev pub first_shape_fault : List Shape → Option ShapeFault
first_shape_fault shapes = first_fault_within standard shapes
