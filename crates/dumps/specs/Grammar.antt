-- What one line of a dump says.
use Rattle.std.specs.Prelude.{◌≡◌, ℕ, ◌*◌, Bool, ◌&&◌, ◌||◌, List, [], ◌∷◌, length, Option, Some, None, nat_lt, nat_le, ◌==◌, if◌then◌else◌, codes, bytes_eq}
use Rattle.std.specs.List.{list_all}
use Rattle.maps.specs.declared.shapes.TheConstants.{MOST_VALUE_BYTES}
use Rattle.verifier.specs.declared.refusal.Mode.{Mode}
use Rattle.text.specs.declared.digits.TheConstants.{FIELD_BYTES}
use Rattle.text.specs.Lines.{next_line}
use Rattle.text.specs.Fields.{split_at_space}
use Rattle.text.specs.Words.{◌>>=◌, number_of, number_within}
use Rattle.text.specs.Digits.{field_bytes}
use Rattle.loader.specs.Grammar.{mode_of}
use Rattle.loader.specs.Installed.{most_argument, most_bytes}
use Rattle.dumps.specs.declared.lines.TheConstants.{DUMP_LINE_BYTES}

-- each line ends at a line feed; of a last one that lacks it nothing is told
abbrev pub onto_line : ℕ → List (Option (List ℕ)) → List (Option (List ℕ))
onto_line c [] = None ∷ []
onto_line c (None ∷ lines) = None ∷ lines
onto_line c (Some line ∷ lines) = Some (c ∷ line) ∷ lines

abbrev pub ended_lines : List ℕ → List (Option (List ℕ))
ended_lines [] = []
ended_lines (c ∷ cs) = if c == 10 then Some [] ∷ ended_lines cs else onto_line c (ended_lines cs)

-- the lines that are left, and the number of the first of them
pub record LinesLeft : Type 0 where
  pub number : ℕ
  pub lines : List (Option (List ℕ))

-- the first of the lines was taken, or there is none
abbrev pub Takes : LinesLeft → LinesLeft → Option (ℕ × Option (List ℕ)) → Type 0
Takes old new None = (old.lines ≡ []) × (new ≡ old)
Takes old new (Some first) = (old.lines ≡ first.1 ∷ new.lines) × (first.0 ≡ old.number) × (new.number ≡ next_line old.number)

-- 0 to 9 and a to f
abbrev pub is_lower_digit : ℕ → Bool
is_lower_digit c = (nat_le 48 c && nat_le c 57) || (nat_le 97 c && nat_le c 102)

-- HEX: pairs of hexadecimal digits in lower case, at least one and at most so many
unfoldable pub lower_bytes : ℕ → List ℕ → Option (List ℕ)
lower_bytes most field = if nat_le (length field) (2 * most) && list_all is_lower_digit field then field_bytes field else None

-- an entry: the number of its map, its key and its value
pub record EntryLine : Type 0 where
  pub map : ℕ
  pub key : List ℕ
  pub value : List ℕ

-- a program that was installed: whether it may change maps, how long its argument is, and its bytes
pub record ProgramLine : Type 0 where
  pub mode : Mode
  pub arg_len : ℕ
  pub bytes : List ℕ

pub data Meaning : Type 0 where
  Entry : EntryLine → Meaning
  Program : ProgramLine → Meaning

-- KEYHEX VALUEHEX, behind MAP: at most 256 bytes and at most 16,384
unfoldable pub entry_meaning : List ℕ → List ℕ → Option Meaning
entry_meaning map text = do
  field ← split_at_space text
  m ← number_of map
  key ← lower_bytes FIELD_BYTES field.0
  value ← lower_bytes MOST_VALUE_BYTES field.1
  Some (Entry (record { map = m; key = key; value = value }))

-- MODE ARGLEN HEX: ARGLEN is at most 64, and HEX has at most 192 bytes, or `long` where that is more
unfoldable pub program_meaning : ℕ → List ℕ → Option Meaning
program_meaning long text = do
  first ← split_at_space text
  second ← split_at_space first.1
  mode ← mode_of first.0
  arg_len ← number_within 0 (most_argument long) second.0
  bytes ← lower_bytes (most_bytes long) second.1
  Some (Program (record { mode = mode; arg_len = arg_len; bytes = bytes }))

-- p MODE ARGLEN HEX, or MAP KEYHEX VALUEHEX
unfoldable pub words_meaning : ℕ → List ℕ → Option Meaning
words_meaning long line = do
  field ← split_at_space line
  if bytes_eq field.0 (codes "p") then program_meaning long field.1 else entry_meaning field.0 field.1

-- a line over 32,931 bytes is bad whatever it holds
unfoldable pub line_meaning : ℕ → List ℕ → Option Meaning
line_meaning long line = if nat_lt DUMP_LINE_BYTES (length line) then None else words_meaning long line
