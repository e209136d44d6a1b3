-- What one line of a manifest means.
use Rattle.std.specs.Prelude.{ℕ, Bool, ◌&&◌, List, length, Option, Some, None, nat_lt, nat_le, if◌then◌else◌, codes, bytes_eq}
use Rattle.std.specs.List.{list_all}
use Rattle.maps.specs.declared.shapes.Shape.{Shape}
use Rattle.maps.specs.declared.shapes.Shape.TheVariants as shapes
use Rattle.verifier.specs.declared.refusal.Mode.{Mode}
use Rattle.verifier.specs.declared.refusal.Mode.TheVariants as modes
use Rattle.text.specs.Lines.{kind_of, by_kind}
use Rattle.text.specs.Fields.{split_at_space}
use Rattle.text.specs.Words.{◌>>=◌, number_within, is_name}
use Rattle.loader.specs.declared.grammar.FirstWord.{FirstWord}
use Rattle.loader.specs.declared.grammar.FirstWord.TheVariants as words
use Rattle.maps.specs.declared.shapes.MapLimits.{MapLimits}
use Rattle.loader.specs.declared.paths.TheConstants.{PATH_BYTES}

-- a printable character of ASCII, but no space
abbrev pub is_path_byte : ℕ → Bool
is_path_byte c = nat_le 33 c && nat_le c 126

-- a path: 1 to 255 of these
unfoldable pub is_path : List ℕ → Bool
is_path text = nat_lt 0 (length text) && nat_le (length text) PATH_BYTES && list_all is_path_byte text

-- a program: its name, whether it may change maps, how long its argument is, and where its bytes lie
pub record ProgramLine : Type 0 where
  pub name : List ℕ
  pub mode : Mode
  pub arg_len : ℕ
  pub file : List ℕ

-- a comment or an empty line, a map, or a program
pub data Meaning : Type 0 where
  Comment : Meaning
  Map : Shape → Meaning
  Program : ProgramLine → Meaning

-- VALUE ENTRIES
unfoldable pub array_meaning : MapLimits → List ℕ → Option Meaning
array_meaning l text = do
  value ← split_at_space text
  size ← number_within 1 l.value value.0
  entries ← number_within 1 l.entries value.1
  Some (Map (shapes.Array size entries))

-- a hash of these sizes
abbrev pub hash_of : MapLimits → List ℕ → List ℕ → List ℕ → Option Meaning
hash_of l key value entries = do
  bytes ← number_within 1 l.key key
  size ← number_within 1 l.value value
  most ← number_within 1 l.entries entries
  Some (Map (shapes.Hash bytes size most))

-- KEY VALUE ENTRIES
unfoldable pub hash_meaning : MapLimits → List ℕ → Option Meaning
hash_meaning l text = do
  key ← split_at_space text
  value ← split_at_space key.1
  hash_of l key.0 value.0 value.1

abbrev pub by_kind_of_map : MapLimits → List ℕ → List ℕ → Option Meaning
by_kind_of_map l kind rest =
    if bytes_eq kind (codes "array") then array_meaning l rest
    else if bytes_eq kind (codes "hash") then hash_meaning l rest
    else None

-- array VALUE ENTRIES, or hash KEY VALUE ENTRIES
unfoldable pub map_meaning : MapLimits → List ℕ → Option Meaning
map_meaning l text = do
  kind ← split_at_space text
  by_kind_of_map l kind.0 kind.1

abbrev pub mode_of : List ℕ → Option Mode
mode_of text =
    if bytes_eq text (codes "update") then Some modes.Update
    else if bytes_eq text (codes "read") then Some modes.Read
    else None

-- NAME MODE ARGLEN FILE
unfoldable pub program_meaning : MapLimits → List ℕ → Option Meaning
program_meaning l text = do
  name ← split_at_space text
  mode ← split_at_space name.1
  len ← split_at_space mode.1
  m ← mode_of mode.0
  n ← number_within 0 l.argument len.0
  if is_name name.0 && is_path len.1 then Some (Program (record { name = name.0; mode = m; arg_len = n; file = len.1 })) else None

-- what kind of line a first word begins
abbrev pub first_word : List ℕ → FirstWord
first_word word =
    if bytes_eq word (codes "map") then words.Map
    else if bytes_eq word (codes "program") then words.Program
    else words.Other

-- the first word of a line, and what stands behind it
unfoldable pub words_of : List ℕ → Option (FirstWord × List ℕ)
words_of line = do
  w ← split_at_space line
  Some (first_word w.0, w.1)

abbrev pub by_first_word : MapLimits → FirstWord → List ℕ → Option Meaning
by_first_word l words.Map rest = map_meaning l rest
by_first_word l words.Program rest = program_meaning l rest
by_first_word l words.Other rest = None

unfoldable pub words_meaning : MapLimits → List ℕ → Option Meaning
words_meaning l line = do
  w ← words_of line
  by_first_word l w.0 w.1

-- a line over 512 bytes is bad whatever it holds; an empty line and one that begins with # say nothing
unfoldable pub line_meaning : MapLimits → List ℕ → Option Meaning
line_meaning l line = by_kind Comment (words_meaning l line) (kind_of line)
