-- Line by line: the state so far, and the first bad line.
use Rattle.std.specs.Prelude.{ℕ, Bool, true, false, ◌&&◌, ◌||◌, not, List, [], ◌∷◌, ◌++◌, length, Option, Some, None, is_some, Result, Ok, Err, nat_lt, ◌==◌, if◌then◌else◌, slice_get}
use Rattle.std.specs.List.{list_all}
use Rattle.std.specs.Ordering.{is_lt, nat_cmp}
use Rattle.std.specs.Cmp.Lexicographic.{slice_cmp}
use Rattle.std.specs.FinMap as finite_map
use Rattle.maps.specs.declared.shapes.Shape.{Shape}
use Rattle.maps.specs.declared.shapes.Shape.TheVariants.{Array, Hash}
use Rattle.maps.specs.Shapes.{key_size, value_size, entry_count}
use Rattle.maps.specs.Maps.{MapState}
use Rattle.maps.specs.MapSets.{put_value}
use Rattle.verifier.specs.Accepted.{Checked}
use Rattle.text.specs.Lines.{next_line}
use Rattle.loader.specs.declared.installed.InstallRefusal.{InstallRefusal}
use Rattle.loader.specs.Installed.{installed_program}
use Rattle.loader.specs.StoreState.{StoreState, StateSizes, opened_state}
use Rattle.dumps.specs.declared.refusals.DumpFault.{DumpFault}
use Rattle.dumps.specs.declared.refusals.DumpFault.TheVariants as faults
use Rattle.dumps.specs.declared.refusals.DumpRefusal.{DumpRefusal}
use Rattle.dumps.specs.Grammar.{EntryLine, ProgramLine, Meaning, Entry, Program, ended_lines, line_meaning}

-- the number of a map and a key of it
pub record MapKey : Type 0 where
  pub map : ℕ
  pub key : List ℕ

-- what the lines so far say, and where the last entry stands
pub record Loading : Type 0 where
  pub state : StoreState
  pub last : Option MapKey

-- ---- an entry

abbrev pub is_hash : Shape → Bool
is_hash (Array value entries) = false
is_hash (Hash key value entries) = true

-- a key of the map's size; an array has each of its keys from the start, and no other
unfoldable pub is_key_for : MapState → List ℕ → Bool
is_key_for s key = length key == key_size s.shape && (is_hash s.shape || is_some (finite_map.get s.entries key))

-- by the number of the map, and then by the bytes of the key
abbrev pub is_behind : Option MapKey → ℕ → List ℕ → Bool
is_behind None map key = true
is_behind (Some last) map key = nat_lt last.map map || (last.map == map && is_lt (slice_cmp nat_cmp last.key key))

-- no program stands before an entry
unfoldable pub is_in_order : Loading → EntryLine → Bool
is_in_order so_far e = length so_far.state.programs == 0 && is_behind so_far.last e.map e.key

abbrev pub is_zero : ℕ → Bool
is_zero b = b == 0

-- what an array has from the start
unfoldable pub is_left_out : Shape → List ℕ → Bool
is_left_out shape value = not (is_hash shape) && list_all is_zero value

-- the key is there, or the map is a hash that has fewer keys than it may have
unfoldable pub has_room : MapState → List ℕ → Bool
has_room s key = is_some (finite_map.get s.entries key) || (is_hash s.shape && nat_lt (finite_map.len s.entries) (entry_count s.shape))

-- the first thing that keeps an entry from its map
unfoldable pub entry_fault : Loading → EntryLine → MapState → Option DumpFault
entry_fault so_far e s =
    if not (is_key_for s e.key) then Some faults.BadKey
    else if not (length e.value == value_size s.shape) then Some faults.BadValue
    else if not (is_in_order so_far e) then Some faults.OutOfOrder
    else if is_left_out s.shape e.value then Some faults.ZeroValue
    else if not (has_room s e.key) then Some faults.Full
    else None

-- the entry in its map
abbrev pub with_entry : Loading → EntryLine → Loading
with_entry so_far e = record { state = record so_far.state { maps = put_value so_far.state.maps e.map e.key e.value }; last = Some (record { map = e.map; key = e.key }) }

abbrev pub unless : {A : Type 0} → A → Option DumpFault → Result A DumpFault
unless x None = Ok x
unless x (Some fault) = Err fault

abbrev pub in_map : Loading → EntryLine → Option MapState → Result Loading DumpFault
in_map so_far e None = Err faults.NoMap
in_map so_far e (Some s) = unless (with_entry so_far e) (entry_fault so_far e s)

abbrev pub after_entry : Loading → EntryLine → Result Loading DumpFault
after_entry so_far e = in_map so_far e (slice_get so_far.state.maps e.map)

-- ---- a program

abbrev pub with_program : Loading → Checked → Loading
with_program so_far c = record so_far { state = record so_far.state { programs = so_far.state.programs ++ c ∷ [] } }

-- a program for which there is no place
abbrev pub without_place : Result Checked InstallRefusal → Result Loading DumpFault
without_place (Err e) = Err (faults.Program e)
without_place (Ok c) = Err faults.TooManyPrograms

abbrev pub in_place : Loading → Result Checked InstallRefusal → Result Loading DumpFault
in_place so_far (Err e) = Err (faults.Program e)
in_place so_far (Ok c) = if nat_lt (length so_far.state.programs) so_far.state.places then Ok (with_program so_far c) else Err faults.TooManyPrograms

-- the program that a line says, if its bytes may be installed
abbrev pub said_program : StateSizes → ProgramLine → Result Checked InstallRefusal
said_program z p = installed_program z.shapes p.mode p.arg_len p.bytes

abbrev pub after_program : StateSizes → Loading → ProgramLine → Result Loading DumpFault
after_program z so_far p = in_place so_far (said_program z p)

-- ---- the lines

abbrev pub after_meaning : StateSizes → Loading → Option Meaning → Result Loading DumpFault
after_meaning z so_far None = Err faults.BadLine
after_meaning z so_far (Some (Entry e)) = after_entry so_far e
after_meaning z so_far (Some (Program p)) = after_program z so_far p

-- what one more line makes, or what is wrong with it: of several faults the lowest number
unfoldable pub after_line : StateSizes → Loading → List ℕ → Result Loading DumpFault
after_line z so_far line = after_meaning z so_far (line_meaning z.long line)

-- a last line that lacks its line feed is bad
abbrev pub after_ended : StateSizes → Loading → Option (List ℕ) → Result Loading DumpFault
after_ended z so_far None = Err faults.BadLine
after_ended z so_far (Some line) = after_line z so_far line

abbrev pub Outcome : Type 0
Outcome = Result StoreState DumpRefusal

abbrev pub either : {Y : Type 0} → (DumpFault → Y) → (Loading → Y) → Result Loading DumpFault → Y
either bad good (Ok so_far) = good so_far
either bad good (Err why) = bad why

-- the state that the lines from number n on leave, or the first bad line
unfoldable pub after_lines : StateSizes → ℕ → Loading → List (Option (List ℕ)) → Outcome
after_lines z n so_far [] = Ok so_far.state
after_lines z n so_far (l ∷ ls) =
    either (λ why. Err (record { line = n; why = why })) (λ after. after_lines z (next_line n) after ls) (after_ended z so_far l)

-- maps as they are opened, and no program is installed
abbrev pub opening : StateSizes → Loading
opening z = record { state = opened_state z; last = None }

-- the state of these sizes that a dump says
unfoldable pub loaded_state : StateSizes → List ℕ → Outcome
loaded_state z text = after_lines z 1 (opening z) (ended_lines text)
