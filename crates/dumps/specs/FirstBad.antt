-- A text that says no state: its first bad line, and of that line's faults the one of the lowest number.
use Rattle.std.specs.Prelude.{◌≡◌, ◌≢◌, ◌⊎◌, ◌↔◌, ℕ, ◌<◌, ◌≤◌, List, [], ◌∷◌, ◌++◌, length, Option, None, Some, Err, slice_get, option_and_then}
use Rattle.std.specs.List.{AllByRecursion}
use Rattle.std.specs.Ordering.{nat_cmp}
use Rattle.std.specs.declared.cmp.Ordering.TheVariants.{Less}
use Rattle.std.specs.Cmp.Lexicographic.{slice_cmp}
use Rattle.maps.specs.Shapes.{AreShapesSupported, IsHash, value_size}
use Rattle.maps.specs.Maps.{MapState, IsKeyOf, shapes_of}
use Rattle.maps.specs.MapSets.{HasRoom}
use Rattle.text.specs.Lines.{next_line}
use Rattle.loader.specs.declared.installed.TheConstants.{MOST_LONG, MOST_SPARE}
use Rattle.loader.specs.Installed.{installed_program}
use Rattle.loader.specs.StoreState.{StoreState, StateSizes, IsState}
use Rattle.dumps.specs.declared.refusals.DumpFault.{DumpFault}
use Rattle.dumps.specs.declared.refusals.DumpFault.TheVariants as faults
use Rattle.dumps.specs.declared.refusals.DumpRefusal.{DumpRefusal}
use Rattle.dumps.specs.Refusal.{fault_number}
use Rattle.dumps.specs.Grammar.{EntryLine, ProgramLine, Meaning, Entry, Program, ended_lines, line_meaning}
use Rattle.dumps.specs.Dumping.{entries_of, lines_of, dump}
use Rattle.dumps.specs.Loading.{loaded_state}

-- what a line says, where a program may have `long` bytes; a last one that lacks its line feed says nothing
abbrev pub meaning_of : ℕ → Option (List ℕ) → Option Meaning
meaning_of long line = option_and_then (line_meaning long) line

-- by the number of the map, and then by the bytes of the key
abbrev pub StandsBefore : EntryLine → EntryLine → Type 0
StandsBefore d e = (d.map < e.map) ⊎ ((d.map ≡ e.map) × (slice_cmp nat_cmp d.key e.key ≡ Less))

-- each entry of the state stands before this one, and no program is installed
abbrev pub StandsBehind : StoreState → EntryLine → Type 0
StandsBehind s e = (s.programs ≡ []) × AllByRecursion (λ d. StandsBefore d e) (entries_of s.maps)

-- the line says an entry of a map that the state has, and this holds of both
abbrev pub OfEntry : StoreState → Option Meaning → (EntryLine → MapState → Type 0) → Type 0
OfEntry s m P = (e : EntryLine) × (t : MapState) × (m ≡ Some (Entry e)) × (slice_get s.maps e.map ≡ Some t) × P e t

-- the line says a program, and this holds of it
abbrev pub OfProgram : Option Meaning → (ProgramLine → Type 0) → Type 0
OfProgram m P = (p : ProgramLine) × (m ≡ Some (Program p)) × P p

-- a line that says this has the fault, where the lines before it say state s
abbrev pub HasFault : StoreState → Option Meaning → DumpFault → Type 0
HasFault s m faults.BadLine = m ≡ None
HasFault s m faults.NoMap = (e : EntryLine) × (m ≡ Some (Entry e)) × (length s.maps ≤ e.map)
HasFault s m faults.BadKey = OfEntry s m (λ e t. IsKeyOf t.shape e.key → ⊥)
HasFault s m faults.BadValue = OfEntry s m (λ e t. length e.value ≢ value_size t.shape)
HasFault s m faults.OutOfOrder = OfEntry s m (λ e t. StandsBehind s e → ⊥)
HasFault s m faults.ZeroValue = OfEntry s m (λ e t. (IsHash t.shape → ⊥) × AllByRecursion (λ b. b ≡ 0) e.value)
HasFault s m faults.Full = OfEntry s m (λ e t. HasRoom s.maps e.map e.key → ⊥)
HasFault s m (faults.Program why) = OfProgram m (λ p. installed_program (shapes_of s.maps) p.mode p.arg_len p.bytes ≡ Err why)
HasFault s m faults.TooManyPrograms = OfProgram m (λ p. s.places ≤ length s.programs)

-- the line has this fault, and none of a lower number
pub record IsLowestFault (s : StoreState) (m : Option Meaning) (why : DumpFault) : Type 0 where
  pub has : HasFault s m why
  pub lowest : (other : DumpFault) → HasFault s m other → fault_number why ≤ fault_number other

-- the text begins as that of a state, and the line behind that is bad
pub record IsFirstBad (z : StateSizes) (text : List ℕ) (e : DumpRefusal) : Type 0 where
  pub before : StoreState
  pub state : IsState z before
  pub rest : List ℕ
  pub split : text ≡ dump before ++ rest
  pub line : Option (List ℕ)
  pub behind : List (Option (List ℕ))
  pub first : ended_lines rest ≡ line ∷ behind
  pub fault : IsLowestFault before (meaning_of z.long line) e.why
  pub number : e.line ≡ next_line (length (lines_of before))

-- what is refused is refused at the first bad line
abbrev pub RefusedIsFirstBad : Type 0
RefusedIsFirstBad =
    (z : StateSizes) (text : List ℕ) (e : DumpRefusal) → AreShapesSupported z.shapes → z.places ≤ MOST_SPARE → z.long ≤ MOST_LONG
    → (loaded_state z text ≡ Err e) ↔ IsFirstBad z text e
