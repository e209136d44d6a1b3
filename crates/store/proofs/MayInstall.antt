-- What may be installed within some maps may be installed.
use Rattle.std.proofs.Common.{◌≡◌, ℕ, Bool, true, false, cond, List, Some, None, refl}
use Rattle.std.specs.Prelude.{Result, Ok, Err}
use Rattle.maps.specs.declared.shapes.Shape.{Shape}
use Rattle.verifier.specs.Accepted.{Checked}
use Rattle.loader.specs.Installed.{installed_program}
use Rattle.loader.specs.declared.installed.InstallRefusal.{InstallRefusal}
use Rattle.oplog.specs.Calls.{NewProgram}
use Rattle.replica.specs.declared.refusals.StoreRefused.{StoreRefused}
use Rattle.replica.specs.declared.refusals.StoreRefused.TheVariants.{TooLarge}
use Rattle.replica.specs.Refusals.{install_refusal, is_small, reading_refusal}
use Rattle.store.specs.Within.{reading_within, within_refusal}

read_too : (maps : ℕ) (read : Result Checked InstallRefusal) → reading_within maps read ≡ None
    → reading_refusal read ≡ None
read_too maps (Ok c) e = refl
read_too maps (Err e) h = absurd (some≢none h)
  where
    some≢none : {r : StoreRefused} → Some r ≡ None → ⊥
    some≢none e = absurd cc

pub installs_too : (shapes : List Shape) (long maps : ℕ) (new : NewProgram)
    → within_refusal shapes long maps new ≡ None → install_refusal shapes long new ≡ None
installs_too shapes long maps new e = by (is_small long new) e
  where
    by : (b : Bool)
        → cond b (reading_within maps (installed_program shapes new.mode new.arg_len new.bytes)) (Some TooLarge) ≡ None
        → cond b (reading_refusal (installed_program shapes new.mode new.arg_len new.bytes)) (Some TooLarge) ≡ None
    by true h = read_too maps (installed_program shapes new.mode new.arg_len new.bytes) h
    by false h = h
