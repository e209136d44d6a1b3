-- Programs that are installed while a store runs, and what bytes are installed as.
use Rattle.std.specs.Prelude.{◌≡◌, ℕ, ◌*◌, ◌≤◌, max, Bool, ◌&&◌, nat_le, List, [], ◌∷◌, ◌++◌, length, map, replicate, take, Option, Some, None, Result, Ok, Err, IsOk, MatchResult}
use Rattle.std.specs.List.{All, list_all}
use Rattle.insn.specs.declared.instruction.Form.{Form}
use Rattle.insn.specs.declared.decoding.DecodeRefusal.{DecodeRefusal}
use Rattle.insn.specs.declared.decoding.TheConstants.{MAX_INSTALLED_SLOTS}
use Rattle.insn.specs.Decoded.{decoded}
use Rattle.insn.specs.Layout.{size}
use Rattle.maps.specs.declared.shapes.Shape.{Shape}
use Rattle.maps.specs.Shapes.{AreShapesSupported}
use Rattle.maps.specs.declared.shapes.TheConstants.{MAX_ARG_LEN}
use Rattle.verifier.specs.declared.refusal.Mode.{Mode}
use Rattle.verifier.specs.declared.refusal.Refused.{Refused}
use Rattle.verifier.specs.Signature.{signature}
use Rattle.verifier.specs.Accepted.{AcceptedView, Checked, checked, checked_in, IsAccepted}
use Rattle.verifier.specs.Verdict.{verdict}
use Rattle.loader.specs.declared.installed.InstallRefusal.{InstallRefusal}
use Rattle.loader.specs.declared.installed.InstallRefusal.TheVariants.{Decode, Verify}
use Rattle.loader.specs.declared.installed.TheConstants.{MOST_SPARE, MOST_LONG}

-- programs that were installed behind a catalogue's, in order, for maps of these shapes; how many there may be, and the most bytes of one,
-- and of its argument, if that is more than 192 and 64
pub record InstalledView : Type 0 where
  pub shapes : List Shape
  pub places : ℕ
  pub long : ℕ
  pub programs : List Checked

-- none yet
abbrev pub no_programs : List Shape → ℕ → ℕ → InstalledView
no_programs shapes places long = record { shapes = shapes; places = places; long = long; programs = [] }

-- the most bytes of a program that is installed: so many, and 192 at least
abbrev pub most_bytes : ℕ → ℕ
most_bytes long = max (8 * MAX_INSTALLED_SLOTS) long

-- the most bytes of its argument: so many, and 64 at least
abbrev pub most_argument : ℕ → ℕ
most_argument long = max MAX_ARG_LEN long

-- one more behind the others
abbrev pub with_installed : InstalledView → Checked → InstalledView
with_installed v c = record v { programs = v.programs ++ c ∷ [] }

-- the program has no more bytes than one may have that is installed, eight a slot, and no longer argument
pub record IsShort (long : ℕ) (c : Checked) : Type 0 where
  pub slots : 8 * size c.program ≤ most_bytes long
  pub argument : c.arg_len ≤ most_argument long

-- a store may have these maps; each program was accepted, for these maps, and is short enough; there are no more than there may be
pub record IsInstalled (v : InstalledView) : Type 0 where
  pub shapes : AreShapesSupported v.shapes
  pub accepted : All (λ c. c.shapes ≡ v.shapes) v.programs
  pub checked : All IsAccepted v.programs
  pub short : All (IsShort v.long) v.programs
  pub few : length v.programs ≤ v.places
  pub limit : v.places ≤ MOST_SPARE
  pub long_limit : v.long ≤ MOST_LONG

-- ---- what bytes are installed as

-- a program, unless the verdict on it is a refusal
abbrev pub unless_unsafe : Checked → Option Refused → Result Checked InstallRefusal
unless_unsafe c None = Ok c
unless_unsafe c (Some e) = Err (Verify e)

-- what was read, as a program that is accepted for these maps, this mode and an argument of this length
abbrev pub accepted_program : List Shape → Mode → ℕ → Result (List Form) DecodeRefusal → Result Checked InstallRefusal
accepted_program shapes mode arg_len (Ok p) = unless_unsafe (checked p shapes arg_len mode) (verdict p (signature shapes arg_len mode))
accepted_program shapes mode arg_len (Err e) = Err (Decode e)

-- the program that bytes spell, if it is accepted for these maps, this mode and an argument of this length; else the first thing that
-- keeps it from that
abbrev pub installed_program : List Shape → Mode → ℕ → List ℕ → Result Checked InstallRefusal
installed_program shapes mode arg_len bytes = accepted_program shapes mode arg_len (decoded bytes)

-- what is answered is this reading: that there is such a program, or the refusal
abbrev pub IsInstallAnswer : {A : Type 0} → Result Checked InstallRefusal → Result A InstallRefusal → Type 0
IsInstallAnswer read answer = MatchResult answer (λ _. IsOk read) (λ e. read ≡ Err e)

-- an accepted program stands behind the others, and a refusal leaves them
abbrev pub after_install : Result Checked InstallRefusal → InstalledView → InstalledView
after_install (Ok c) v = with_installed v c
after_install (Err e) v = v

-- ---- the type's model alone cites what follows

-- `IsShort` as a test, of each of these
abbrev pub is_short : ℕ → Checked → Bool
is_short long c = nat_le (8 * size c.program) (most_bytes long) && nat_le c.arg_len (most_argument long)

abbrev pub are_short : ℕ → List AcceptedView → Bool
are_short long rooms = list_all (λ a. is_short long (checked_in a)) rooms

-- what was checked of each of these
abbrev pub all_checked : List AcceptedView → List Checked
all_checked rooms = map checked_in rooms

-- each has room for so many slots
abbrev pub AreRooms : ℕ → List AcceptedView → Type 0
AreRooms slots rooms = map (λ a. a.room) rooms ≡ replicate (length rooms) slots

-- so many slots hold each program that may be installed
abbrev pub IsEnough : ℕ → ℕ → Type 0
IsEnough long slots = most_bytes long ≤ 8 * slots

-- the programs of the first rooms
abbrev pub first_rooms : List Shape → ℕ → List AcceptedView → ℕ → InstalledView
first_rooms shapes long rooms count = record { shapes = shapes; places = length rooms; long = long; programs = all_checked (take count rooms) }
