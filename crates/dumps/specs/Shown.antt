-- What is kept of the lines before the one that is read, and what a line that was read says.
use Rattle.std.specs.Prelude.{◌≡◌, ℕ, ◌≤◌, length, option_map}
use Rattle.maps.specs.Maps.{AreMaps}
use Rattle.maps.specs.MapSets.{maps_of, stored_shapes}
use Rattle.loader.specs.Installed.{most_argument, most_bytes}
use Rattle.loader.specs.StoreState.{StateSizes, state_of}
use Rattle.dumps.specs.declared.lines.EntryLine.{EntryLine as TheEntryLine}
use Rattle.dumps.specs.declared.lines.ProgramLine.{ProgramLine as TheProgramLine}
use Rattle.dumps.specs.declared.lines.Line.{Line}
use Rattle.dumps.specs.declared.lines.Line.TheVariants as lines
use Rattle.dumps.specs.declared.loading.LastEntry.{LastEntry}
use Rattle.dumps.specs.declared.loading.PartialState.{PartialState}
use Rattle.dumps.specs.Grammar.{EntryLine, ProgramLine, Meaning, Entry, Program}
use Rattle.dumps.specs.Loading.{MapKey, Loading}

abbrev pub entry_of : TheEntryLine → EntryLine
entry_of e = record { map = e.map; key = e.key.items; value = e.value.now }

abbrev pub program_of : TheProgramLine → ProgramLine
program_of p = record { mode = p.mode; arg_len = p.arg_len; bytes = p.bytes.now }

abbrev pub meaning_of : Line → Meaning
meaning_of (lines.Entry e) = Entry (entry_of e)
meaning_of (lines.Program p) = Program (program_of p)

-- a program's argument and its bytes are within their limits, where it may have `long` bytes
abbrev pub ProgramFits : ℕ → TheProgramLine → Type 0
ProgramFits long p = (p.arg_len ≤ most_argument long) × (length p.bytes.now ≤ most_bytes long)

abbrev pub LineFits : ℕ → Line → Type 0
LineFits long (lines.Entry e) = Unit {0}
LineFits long (lines.Program p) = ProgramFits long p

abbrev pub key_of : LastEntry → MapKey
key_of e = record { map = e.map; key = e.key.items }

-- the state so far
abbrev pub view_of : PartialState → Loading
view_of s = record { state = state_of (maps_of s.maps) s.installed; last = option_map key_of s.last }

-- the maps and programs of the state are for these shapes, its programs may be so long, and its maps are maps of their shapes
pub record IsFor (z : StateSizes) (s : PartialState) : Type 0 where
  pub maps : stored_shapes s.maps ≡ z.shapes
  pub programs : s.installed.shapes ≡ z.shapes
  pub long : s.installed.long ≡ z.long
  pub each : AreMaps (maps_of s.maps)
