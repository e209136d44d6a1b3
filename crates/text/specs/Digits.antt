-- Bytes as hexadecimal digits.
use Rattle.std.specs.Prelude.{ℕ, Bool, ◌||◌, not, List, [], length, Option, Some, None, Result, Ok, Err, filter, ◌==◌, if◌then◌else◌, codes, bytes_eq}
use Rattle.hex.specs.Hex.{decode_of}

-- what is there where nothing failed
abbrev pub good : {A E : Type 0} → Result A E → Option A
good (Ok x) = Some x
good (Err e) = None

-- HEX: pairs of hexadecimal digits in either case, or - for no bytes
unfoldable pub field_bytes : List ℕ → Option (List ℕ)
field_bytes field =
    if bytes_eq field (codes "-") then Some []
    else if length field == 0 then None
    else good (decode_of field)

-- a space, a tab, a carriage return or a line feed
abbrev pub is_blank : ℕ → Bool
is_blank c = c == 32 || c == 9 || c == 13 || c == 10

-- a whole text of pairs of hexadecimal digits in either case, blanks skipped
unfoldable pub spaced_bytes : List ℕ → Option (List ℕ)
spaced_bytes text = good (decode_of (filter (λ c. not (is_blank c)) text))
