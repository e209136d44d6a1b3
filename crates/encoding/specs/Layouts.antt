-- What a layout says: of which parts the entries of a map are made.
use Rattle.std.specs.Prelude.{ℕ, ◌&&◌, nat_le, ◌==◌, is_some, List, [], ◌∷◌, ◌++◌, codes, bytes_eq, Option, Some, None, option_map, Result, Ok, Err, if◌then◌else◌}
use Rattle.std.specs.Option.{option_map_or}
use Rattle.std.specs.List.{find}
use Rattle.encoding.specs.declared.layouts.TheConstants.{PART_BYTES}
use Rattle.text.specs.declared.lines.LineKind.{LineKind}
use Rattle.text.specs.declared.lines.LineKind.TheVariants as line_kinds
use Rattle.text.specs.Fields.{cut_at, split_at_space}
use Rattle.text.specs.Lines.{lines_of, next_line, kind_of}
use Rattle.text.specs.Words.{◌>>=◌, number_of}
use Rattle.encoding.specs.declared.kinds.Kind.{Kind}
use Rattle.encoding.specs.declared.kinds.Kind.TheVariants as kinds
use Rattle.encoding.specs.declared.layouts.Part.{Part}
use Rattle.encoding.specs.declared.layouts.Part.TheVariants.{U8, U16, U32, U64, S8, S16, S32, S64, Bytes}
use Rattle.encoding.specs.declared.decode_faults.DecodeRefusal.{DecodeRefusal}
use Rattle.encoding.specs.declared.decode_faults.DecodeRefusal.TheVariants as refusals
use Rattle.encoding.specs.Values.{kind_named, magnitude_of}
use Rattle.encoding.specs.Words.{words_of}

-- ---- a part

-- the part that is a number of this kind
abbrev pub number_part : Kind → Option Part
number_part kinds.U8 = Some U8
number_part kinds.U16 = Some U16
number_part kinds.U32 = Some U32
number_part kinds.U64 = Some U64
number_part kinds.S8 = Some S8
number_part kinds.S16 = Some S16
number_part kinds.S32 = Some S32
number_part kinds.S64 = Some S64
number_part kinds.Str = None
number_part kinds.Hex = None

-- 1 to 16,384 bytes
abbrev pub counted_part : ℕ → Option Part
counted_part count = if nat_le 1 count && nat_le count PART_BYTES then Some (Bytes count) else None

-- hex:N is so many bytes
unfoldable pub bytes_part : List ℕ → List ℕ → Option Part
bytes_part name count = if bytes_eq name (codes "hex") then magnitude_of 10 count >>= counted_part else None

-- the part that a word names
unfoldable pub part_of : List ℕ → Option Part
part_of word = option_map_or (λ cut. bytes_part cut.0 cut.1) (cut_at 58 word) (kind_named word >>= number_part)

-- ---- a line

-- the parts that these words name
unfoldable pub parts_of : List (List ℕ) → Option (List Part)
parts_of [] = Some []
parts_of (word ∷ words) = do
  part ← part_of word
  parts ← parts_of words
  Some (part ∷ parts)

-- the parts of the entries of a map, those of the key first, behind its number
abbrev pub MapParts : Type 0
MapParts = ℕ × List Part

-- MAP, and its parts
unfoldable pub layout_line : List ℕ → Option MapParts
layout_line line = do
  cut ← split_at_space line
  map ← number_of cut.0
  parts ← parts_of (words_of cut.1)
  Some (map, parts)

-- ---- a text

-- the parts of the entries of this map, where a layout has them
abbrev pub parts_for : List MapParts → ℕ → Option (List Part)
parts_for layouts map = option_map (λ l. l.1) (find (λ l. l.0 == map) layouts)

-- the layouts with one more, where its map is new
abbrev pub with_parts : List MapParts → MapParts → Option (List MapParts)
with_parts layouts l = if is_some (parts_for layouts l.0) then None else Some (layouts ++ l ∷ [])

abbrev pub with_kind : List MapParts → List ℕ → LineKind → Option (List MapParts)
with_kind layouts line line_kinds.TooLong = None
with_kind layouts line line_kinds.Comment = Some layouts
with_kind layouts line line_kinds.Words = layout_line line >>= with_parts layouts

-- the layouts with what a line says; an empty line and one that begins with # say nothing
abbrev pub with_line : List MapParts → List ℕ → Option (List MapParts)
with_line layouts line = with_kind layouts line (kind_of line)

-- what the lines from number n on say, behind these layouts, or the first line that is bad
abbrev pub or_bad : ℕ → (List MapParts → Result (List MapParts) DecodeRefusal) → Option (List MapParts) → Result (List MapParts) DecodeRefusal
or_bad n next None = Err (refusals.Layout n)
or_bad n next (Some layouts) = next layouts

unfoldable pub layouts_from : ℕ → List MapParts → List (List ℕ) → Result (List MapParts) DecodeRefusal
layouts_from n layouts [] = Ok layouts
layouts_from n layouts (line ∷ lines) = or_bad n (λ more. layouts_from (next_line n) more lines) (with_line layouts line)

-- what a text says
unfoldable pub layouts_of : List ℕ → Result (List MapParts) DecodeRefusal
layouts_of text = layouts_from 1 [] (lines_of text)
