-- What room for a program holds that was just emptied and filled, and what is refused of it.
use Rattle.std.proofs.Common.{◌≡◌, ℕ, ◌≤◌, Bool, true, cond, List, Option, Some, refl, ap, ◌∙◌, arith}
use Rattle.std.specs.Prelude.{length, slice_get, Result, Ok, Err, IsOk}
use Rattle.std.proofs.lemmas.Bool.{false≢true}
use Rattle.std.proofs.lemmas.Bool.Decides.{nat_tests}
use Rattle.maps.specs.declared.shapes.Shape.{Shape}
use Rattle.verifier.specs.Accepted.{Checked}
use Rattle.loader.specs.Installed.{InstalledView, after_install, installed_program, most_argument, most_bytes, no_programs}
use Rattle.loader.specs.declared.installed.InstallRefusal.{InstallRefusal}
use Rattle.oplog.specs.Calls.{NewProgram}
use Rattle.replica.specs.Refusals.{is_small}
use Rattle.replica.specs.declared.refusals.StoreRefused.{StoreRefused}
use Rattle.replica.specs.declared.refusals.StoreRefused.TheVariants.{TooLarge}
use Rattle.store.specs.Within.{outside_refusal, reading_within, within_refusal}

-- the one program in it is what was read
pub record Filled (shapes : List Shape) (read : Result Checked InstallRefusal) (room : InstalledView) : Type 0 where
  pub program : Checked
  pub was_read : read ≡ Ok program
  pub first : slice_get room.programs 0 ≡ Some program

pub filled : (shapes : List Shape) (places long : ℕ) (read : Result Checked InstallRefusal) (room : InstalledView)
    → IsOk read → room ≡ after_install read (no_programs shapes places long) → Filled shapes read room
filled shapes places long (Ok c) room ok is = record { program = c; was_read = refl; first = ap (λ (r : InstalledView). slice_get r.programs 0) is }
filled shapes places long (Err e) room ok is = absurd (false≢true ok)

module _ (shapes : List Shape) (long maps : ℕ) (new : NewProgram) (few : length new.bytes ≤ most_bytes long) (short : new.arg_len ≤ most_argument long) where
  small : is_small long new ≡ true
  small = grind (arith, nat_tests)

  abbrev by_size : Bool → Option StoreRefused
  by_size b = cond b (reading_within maps (installed_program shapes new.mode new.arg_len new.bytes)) (Some TooLarge)

  -- of a program that was read and is accepted, and of one that is not
  pub refused_within : (c : Checked) → installed_program shapes new.mode new.arg_len new.bytes ≡ Ok c
      → within_refusal shapes long maps new ≡ outside_refusal maps c.program
  refused_within c is = ap by_size small ∙ ap (reading_within maps) is
