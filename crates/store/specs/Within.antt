-- The install of a program that may name some of the store's maps alone: when it is refused.
use Rattle.std.specs.Prelude.{ℕ, if◌then◌else◌, List, Option, Some, Result, Ok, Err, option_map}
use Rattle.insn.specs.declared.instruction.Form.{Form}
use Rattle.maps.specs.declared.shapes.Shape.{Shape}
use Rattle.verifier.specs.Accepted.{Checked}
use Rattle.verifier.specs.declared.refusal.VerifyFault.TheVariants.{UnknownHelperOrMap}
use Rattle.named_maps.specs.Naming.{first_outside}
use Rattle.loader.specs.Installed.{installed_program}
use Rattle.loader.specs.declared.installed.InstallRefusal.{InstallRefusal}
use Rattle.loader.specs.declared.installed.InstallRefusal.TheVariants.{Decode, Verify}
use Rattle.oplog.specs.Calls.{NewProgram}
use Rattle.oplog.specs.Operations.{Operation}
use Rattle.replica.specs.Refusals.{is_small}
use Rattle.replica.specs.declared.refusals.StoreRefused.{StoreRefused}
use Rattle.replica.specs.declared.refusals.StoreRefused.TheVariants.{NotAccepted, NotDecoded, TooLarge}
use Rattle.store.specs.declared.within.Confined.{Confined}
use Rattle.store.specs.Sessions.{StoreView, install_of, new_program}

-- of a slot where a map is named that may not be: the map is not known, V16
abbrev pub outside_at : ℕ → StoreRefused
outside_at slot = NotAccepted (record { slot = slot; why = UnknownHelperOrMap })

-- at the first slot that names another map than these
abbrev pub outside_refusal : ℕ → List Form → Option StoreRefused
outside_refusal maps p = option_map outside_at (first_outside maps p)

-- of bytes that are no program, or none that is safe
abbrev pub refused_as : InstallRefusal → StoreRefused
refused_as (Decode e) = NotDecoded e
refused_as (Verify e) = NotAccepted e

-- of bytes, by what they were read as: no program, else not safe, else it names another map
abbrev pub reading_within : ℕ → Result Checked InstallRefusal → Option StoreRefused
reading_within maps (Ok c) = outside_refusal maps c.program
reading_within maps (Err e) = Some (refused_as e)

-- the refusal of a program that is to be installed for these maps, of at most so many bytes, and may name those alone: too large, else by what
-- it is read as
abbrev pub within_refusal : List Shape → (long : ℕ) → (maps : ℕ) → NewProgram → Option StoreRefused
within_refusal shapes long maps new =
    if is_small long new
    then reading_within maps (installed_program shapes new.mode new.arg_len new.bytes) else Some TooLarge

-- the program that is to be installed, and its installing as an operation: which maps it may name is no part of these
abbrev pub program_within : Confined → NewProgram
program_within p = new_program p.mode p.arg_len p.bytes.now

abbrev pub install_within : Confined → Operation
install_within p = install_of p.mode p.arg_len p.bytes.now

-- its refusal by a store
abbrev pub within_refused : StoreView → Confined → Option StoreRefused
within_refused store p = within_refusal store.catalogue.shapes store.catalogue.long p.maps (program_within p)
