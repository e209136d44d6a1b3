-- The calls on a store that are refused before anything is done.
use Rattle.std.specs.Prelude.{◌≡◌, Bool, ℕ, ◌+◌, ◌<◌, List, length, Option, Some, None, ◌==◌, ◌&&◌, nat_lt, nat_le, if◌then◌else◌, Result, Ok, Err, MatchResult}
use Rattle.maps.specs.declared.shapes.Shape.{Shape}
use Rattle.verifier.specs.declared.refusal.Mode.{Mode}
use Rattle.verifier.specs.declared.refusal.Mode.TheVariants.{Update, Read}
use Rattle.verifier.specs.Accepted.{Checked}
use Rattle.loader.specs.CatalogueView.{CatalogueView}
use Rattle.loader.specs.Installed.{InstalledView, installed_program, most_argument, most_bytes}
use Rattle.loader.specs.declared.installed.InstallRefusal.{InstallRefusal}
use Rattle.loader.specs.declared.installed.InstallRefusal.TheVariants.{Decode, Verify}
use Rattle.oplog.specs.Calls.{NewProgram}
use Rattle.replica.specs.StoreMeaning.{program_at}
use Rattle.replica.specs.declared.refusals.StoreRefused.{StoreRefused}
use Rattle.replica.specs.declared.refusals.StoreRefused.TheVariants.{UnknownProgram, ArgumentLength, WrongMode, Ended, TooLarge, NotDecoded, NotAccepted}

-- the number that a refusal shows after its letter S
abbrev pub store_fault_number : StoreRefused → ℕ
store_fault_number UnknownProgram = 1
store_fault_number ArgumentLength = 2
store_fault_number WrongMode = 3
store_fault_number Ended = 4
store_fault_number TooLarge = 6
store_fault_number (NotDecoded e) = 7
store_fault_number (NotAccepted e) = 8

-- ---- calls

-- the refusal of a program of the second mode, where one of the first is asked for
abbrev pub mode_refusal : Mode → Mode → Option StoreRefused
mode_refusal Update Update = None
mode_refusal Read Read = None
mode_refusal Update Read = Some WrongMode
mode_refusal Read Update = Some WrongMode

abbrev pub program_refusal : Mode → List ℕ → Option Checked → Option StoreRefused
program_refusal mode argument None = Some UnknownProgram
program_refusal mode argument (Some program) = if length argument == program.arg_len then mode_refusal mode program.mode else Some ArgumentLength

-- the refusal of a program of the catalogue and of an argument, where a program of this mode is asked for: unknown, else of another
-- length, else of another mode
abbrev pub offered_refusal : CatalogueView → Mode → ℕ → List ℕ → Option StoreRefused
offered_refusal c mode program argument = program_refusal mode argument (program_at c program)

-- of an argument for a place, whatever will be installed there
abbrev pub place_refusal : CatalogueView → List ℕ → Option StoreRefused
place_refusal c argument = if nat_le (length argument) (most_argument c.long) then None else Some ArgumentLength

-- the refusal of a call: of a program of the catalogue, or of a place behind these, or of a number behind the places
abbrev pub early_refusal : CatalogueView → Mode → ℕ → List ℕ → Option StoreRefused
early_refusal c mode program argument =
    if nat_lt program (length c.programs) then offered_refusal c mode program argument
    else if nat_lt program (length c.programs + c.places) then place_refusal c argument else Some UnknownProgram

-- the refusal of a call of a program of the catalogue, of either mode: unknown, else of another length
abbrev pub length_refusal : List ℕ → Option Checked → Option StoreRefused
length_refusal argument None = Some UnknownProgram
length_refusal argument (Some program) = if length argument == program.arg_len then None else Some ArgumentLength

abbrev pub call_refusal : CatalogueView → ℕ → List ℕ → Option StoreRefused
call_refusal c program argument = length_refusal argument (program_at c program)

-- ---- programs to be installed

-- of bytes, by what they were read as
abbrev pub reading_refusal : Result Checked InstallRefusal → Option StoreRefused
reading_refusal (Ok p) = None
reading_refusal (Err (Decode e)) = Some (NotDecoded e)
reading_refusal (Err (Verify e)) = Some (NotAccepted e)

-- the program and its argument are no longer than those of an installed program may be
abbrev pub is_small : ℕ → NewProgram → Bool
is_small long new = nat_le (length new.bytes) (most_bytes long) && nat_le new.arg_len (most_argument long)

-- the refusal of a program that is to be installed for these maps, where it may have so many bytes: too large, else no program, else not safe
abbrev pub install_refusal : List Shape → ℕ → NewProgram → Option StoreRefused
install_refusal shapes long new =
    if is_small long new
    then reading_refusal (installed_program shapes new.mode new.arg_len new.bytes) else Some TooLarge

-- room to find out whether a program for these maps, of at most so many bytes, may be installed
abbrev pub IsRoomFor : List Shape → ℕ → InstalledView → Type 0
IsRoomFor shapes long room = (room.shapes ≡ shapes) × (room.long ≡ long) × (0 < room.places)

-- what is answered is this refusal, or that there is none
abbrev pub IsRefusedAs : {A : Type 0} → Option StoreRefused → Result A StoreRefused → Type 0
IsRefusedAs refusal answer = MatchResult answer (λ _. refusal ≡ None) (λ e. refusal ≡ Some e)
