-- A state whose entries are written as values, as a function of the layout and of the state's text.
use Rattle.std.specs.Prelude.{ℕ, nat_lt, Bool, false, List, [], ◌∷◌, ◌++◌, length, take, drop, codes, bytes_eq, decimal, Option, Some, None, option_map, Result, Ok, Err, if◌then◌else◌}
use Rattle.std.specs.Option.{option_map_or}
use Rattle.std.specs.List.{flat_map}
use Rattle.std.specs.Fmt.{signed_decimal}
use Rattle.byteorder.specs.Endian.{little_number, twos_complement}
use Rattle.hex.specs.Hex.{encode_lower}
use Rattle.text.specs.Digits.{field_bytes}
use Rattle.text.specs.Fields.{split_at_space}
use Rattle.text.specs.Lines.{lines_of, next_line}
use Rattle.text.specs.Words.{◌>>=◌, number_of}
use Rattle.encoding.specs.declared.kinds.Kind.{Kind}
use Rattle.encoding.specs.declared.kinds.Kind.TheVariants as kinds
use Rattle.encoding.specs.declared.layouts.Part.{Part}
use Rattle.encoding.specs.declared.layouts.Part.TheVariants.{U8, U16, U32, U64, S8, S16, S32, S64, Bytes}
use Rattle.encoding.specs.declared.decode_faults.DecodeRefusal.{DecodeRefusal}
use Rattle.encoding.specs.declared.decode_faults.DecodeRefusal.TheVariants as refusals
use Rattle.encoding.specs.Layouts.{MapParts, layouts_of, parts_for}
use Rattle.encoding.specs.Values.{kind_name}

-- ---- a value

-- how many bytes a part has
abbrev pub part_size : Part → ℕ
part_size U8 = 1
part_size U16 = 2
part_size U32 = 4
part_size U64 = 8
part_size S8 = 1
part_size S16 = 2
part_size S32 = 4
part_size S64 = 8
part_size (Bytes count) = count

-- as what kind its bytes are written
abbrev pub part_kind : Part → Kind
part_kind U8 = kinds.U8
part_kind U16 = kinds.U16
part_kind U32 = kinds.U32
part_kind U64 = kinds.U64
part_kind S8 = kinds.S8
part_kind S16 = kinds.S16
part_kind S32 = kinds.S32
part_kind S64 = kinds.S64
part_kind (Bytes count) = kinds.Hex

-- the number that bytes say, the low byte first, in decimal: without a sign, and in two's complement
abbrev pub unsigned_text : List ℕ → List ℕ
unsigned_text bytes = decimal (little_number (length bytes) bytes)

abbrev pub signed_text : List ℕ → List ℕ
signed_text bytes = signed_decimal (twos_complement (length bytes) (little_number (length bytes) bytes))

-- what stands behind the colon
abbrev pub field_text : Part → List ℕ → List ℕ
field_text U8 bytes = unsigned_text bytes
field_text U16 bytes = unsigned_text bytes
field_text U32 bytes = unsigned_text bytes
field_text U64 bytes = unsigned_text bytes
field_text S8 bytes = signed_text bytes
field_text S16 bytes = signed_text bytes
field_text S32 bytes = signed_text bytes
field_text S64 bytes = signed_text bytes
field_text (Bytes count) bytes = encode_lower bytes

-- a value, KIND:FIELD
abbrev pub value_text : Part → List ℕ → List ℕ
value_text part bytes = kind_name (part_kind part) ++ (codes ":" ++ field_text part bytes)

-- the values of these parts, where they take just these bytes
unfoldable pub values_of : List Part → List ℕ → Option (List (List ℕ))
values_of [] [] = Some []
values_of [] (b ∷ bytes) = None
values_of (part ∷ parts) bytes =
    if nat_lt (length bytes) (part_size part) then None
    else option_map (λ values. value_text part (take (part_size part) bytes) ∷ values) (values_of parts (drop (part_size part) bytes))

-- ---- a line

-- the bytes of two fields, one after the other
unfoldable pub joined : List ℕ → List ℕ → Option (List ℕ)
joined first second = do
  key ← field_bytes first
  value ← field_bytes second
  Some (key ++ value)

-- MAP KEYHEX VALUEHEX: the number of the map, and the bytes of key and value
unfoldable pub entry_of : List ℕ → Option (ℕ × List ℕ)
entry_of line = do
  first ← split_at_space line
  second ← split_at_space first.1
  map ← number_of first.0
  bytes ← joined second.0 second.1
  Some (map, bytes)

-- the line of a program begins with p
unfoldable pub is_program : List ℕ → Bool
is_program line = option_map_or (λ cut. bytes_eq cut.0 (codes "p")) (split_at_space line) false

-- a value behind a space
abbrev pub spaced : List ℕ → List ℕ
spaced value = codes " " ++ value

-- the number of the map, and the values of these parts
abbrev pub entry_text : List Part → ℕ × List ℕ → Option (List ℕ)
entry_text parts entry = option_map (λ values. decimal entry.0 ++ flat_map spaced values) (values_of parts entry.1)

-- an entry of a map without parts stays as it is
abbrev pub entry_line : List MapParts → List ℕ → ℕ × List ℕ → Option (List ℕ)
entry_line layouts line entry = option_map_or (λ parts. entry_text parts entry) (parts_for layouts entry.0) (Some line)

-- what becomes of a line; a program stays as it is
unfoldable pub state_line : List MapParts → List ℕ → Option (List ℕ)
state_line layouts line = if is_program line then Some line else entry_of line >>= entry_line layouts line

-- ---- a text

abbrev pub onto : List ℕ → Result (List ℕ) DecodeRefusal → Result (List ℕ) DecodeRefusal
onto before (Ok text) = Ok (before ++ text)
onto before (Err e) = Err e

-- what became of a line before what is behind, or that it is bad
abbrev pub behind : ℕ → Option (List ℕ) → Result (List ℕ) DecodeRefusal → Result (List ℕ) DecodeRefusal
behind n None later = Err (refusals.State n)
behind n (Some line) later = onto (line ++ codes "\n") later

-- what becomes of these lines, of which the first has this number
unfoldable pub decoded_from : List MapParts → ℕ → List (List ℕ) → Result (List ℕ) DecodeRefusal
decoded_from layouts n [] = Ok []
decoded_from layouts n (line ∷ lines) = behind n (state_line layouts line) (decoded_from layouts (next_line n) lines)

-- by what the layout says
abbrev pub decoded_by : List ℕ → Result (List MapParts) DecodeRefusal → Result (List ℕ) DecodeRefusal
decoded_by state (Ok layouts) = decoded_from layouts 1 (lines_of state)
decoded_by state (Err e) = Err e

-- the text of a state with values, or the first line that is wrong
unfoldable pub decoded_text : List ℕ → List ℕ → Result (List ℕ) DecodeRefusal
decoded_text layout state = decoded_by state (layouts_of layout)
