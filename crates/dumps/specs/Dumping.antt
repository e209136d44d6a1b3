-- A state as text: a line for each entry, in order, and for each program that was installed.
use Rattle.std.specs.Prelude.{ℕ, not, List, ◌++◌, map, filter, codes, decimal}
use Rattle.std.specs.List.{flat_map, enumerate_from}
use Rattle.std.specs.FinMap as finite_map
use Rattle.hex.specs.Hex.{encode_lower}
use Rattle.insn.specs.Encoding.{program_bytes}
use Rattle.maps.specs.Maps.{Maps, MapState}
use Rattle.verifier.specs.Accepted.{Checked}
use Rattle.loader.specs.Spelling.{mode_word}
use Rattle.loader.specs.StoreState.{StoreState}
use Rattle.dumps.specs.Grammar.{EntryLine, ProgramLine, Meaning, Entry, Program}
use Rattle.dumps.specs.Loading.{is_left_out}

-- MAP KEYHEX VALUEHEX
abbrev pub entry_text : EntryLine → List ℕ
entry_text e = decimal e.map ++ (codes " " ++ (encode_lower e.key ++ (codes " " ++ encode_lower e.value)))

-- p MODE ARGLEN HEX
abbrev pub program_text : ProgramLine → List ℕ
program_text p = codes "p " ++ (mode_word p.mode ++ (codes " " ++ (decimal p.arg_len ++ (codes " " ++ encode_lower p.bytes))))

abbrev pub text_of : Meaning → List ℕ
text_of (Entry e) = entry_text e
text_of (Program p) = program_text p

-- the entries of map m, by their keys: all of a hash, and of an array those that are not zeros
abbrev pub map_entries : ℕ → MapState → List EntryLine
map_entries m s =
    map (λ e. record { map = m; key = e.0; value = e.1 }) (filter (λ e. not (is_left_out s.shape e.1)) (finite_map.entries s.entries))

-- the entries of all maps, by their maps
abbrev pub entries_of : Maps → List EntryLine
entries_of maps = flat_map (λ m. map_entries m.0 m.1) (enumerate_from 0 maps)

abbrev pub program_line : Checked → ProgramLine
program_line c = record { mode = c.mode; arg_len = c.arg_len; bytes = program_bytes c.program }

-- what the lines of a state say: its entries, and then its programs
abbrev pub lines_of : StoreState → List Meaning
lines_of s = map Entry (entries_of s.maps) ++ map (λ c. Program (program_line c)) s.programs

-- a state as text
unfoldable pub dump : StoreState → List ℕ
dump s = flat_map (λ l. text_of l ++ codes "\n") (lines_of s)

-- a state, and what is left of its text
pub record StateText : Type 0 where
  pub state : StoreState
  pub left : List ℕ

-- all of its text is left
abbrev pub whole_text : StoreState → StateText
whole_text s = record { state = s; left = dump s }
