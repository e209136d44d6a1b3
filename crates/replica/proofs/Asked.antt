-- What is not refused early is an operation.
use Rattle.std.proofs.Common.{◌≡◌, inl, inr, ℕ, ◌+◌, ◌<◌, ◌≤◌, Bool, true, false, List, length, Option, Some, None, Result, Ok, Err, refl, sym, ap, ◌∙◌, eq-eqb, ne_eqb, if◌then◌else◌}
use Rattle.std.specs.Prelude.{nat_lt, nat_le, is_ok}
use Rattle.std.proofs.lemmas.Bool.{and_from}
use mathlib.Core.Logic.{dite}
use native.Mathlib.Decide.{ℕ_discrete}
use Rattle.maps.specs.Maps.{AreBytes}
use Rattle.verifier.specs.declared.refusal.Mode.{Mode}
use Rattle.verifier.specs.declared.refusal.Mode.TheVariants.{Update, Read}
use Rattle.verifier.specs.Accepted.{Checked}
use Rattle.loader.specs.CatalogueView.{CatalogueView}
use Rattle.loader.specs.Installed.{installed_program, most_argument}
use Rattle.loader.specs.declared.installed.InstallRefusal.{InstallRefusal}
use Rattle.loader.specs.declared.installed.InstallRefusal.TheVariants.{Decode, Verify}
use Rattle.oplog.specs.Calls.{Call, NewProgram}
use Rattle.replica.specs.StoreMeaning.{program_at, are_bytes, is_call, is_installable}
use Rattle.replica.specs.declared.refusals.StoreRefused.TheVariants.{UnknownProgram, ArgumentLength, TooLarge}
use Rattle.replica.specs.Refusals.{is_small, mode_refusal, program_refusal, offered_refusal, place_refusal, early_refusal, reading_refusal, install_refusal}
use Rattle.replica.proofs.Tested.{tests_call, below, not_below, at_most, bytes_are}

same_mode : (asked mode : Mode) → mode_refusal asked mode ≡ None → mode ≡ asked
same_mode Update Update e = refl
same_mode Read Read e = refl
same_mode Update Read e = absurd cc
same_mode Read Update e = absurd cc

pub asked_program : (mode : Mode) (argument : List ℕ) (o : Option Checked) → program_refusal mode argument o ≡ None → (p : Checked) × (o ≡ Some p) × (p.mode ≡ mode) × (length argument ≡ p.arg_len)
asked_program mode argument None e = absurd cc
asked_program mode argument (Some p) e = dite (ℕ_discrete (length argument) p.arg_len)
    (λ same. (p, refl, same_mode mode p.mode (sym (ap (λ b. if b then mode_refusal mode p.mode else Some ArgumentLength) (eq-eqb (length argument) p.arg_len same)) ∙ e), same))
    (λ other. absurd (no_length (sym (ap (λ b. if b then mode_refusal mode p.mode else Some ArgumentLength) (ne_eqb (length argument) p.arg_len other)) ∙ e)))
  where
    no_length : Some ArgumentLength ≡ None → ⊥
    no_length f = cc

-- a call that is not refused is one
pub is_asked : (mode : Mode) (c : CatalogueView) (program : ℕ) (argument : List ℕ) → early_refusal c mode program argument ≡ None → AreBytes argument → is_call mode c (record { program = program; argument = argument }) ≡ true
is_asked mode c program argument e bytes = by_number (nat_lt program (length c.programs)) refl e
  where
    asked : Call
    asked = record { program = program; argument = argument }

    of_place : (b : Bool) → length c.programs ≤ program → program < length c.programs + c.places → nat_le (length argument) (most_argument c.long) ≡ b → (if b then None else Some ArgumentLength) ≡ None
        → is_call mode c asked ≡ true
    of_place true behind within short f = tests_call mode c asked (inr (record { behind = behind; within = within; short = at_most _ _ short; bytes = bytes }))
    of_place false behind within long f = absurd cc

    by_place : (b : Bool) → length c.programs ≤ program → nat_lt program (length c.programs + c.places) ≡ b → (if b then place_refusal c argument else Some UnknownProgram) ≡ None
        → is_call mode c asked ≡ true
    by_place true behind within f = of_place (nat_le (length argument) (most_argument c.long)) behind (below _ _ within) refl f
    by_place false behind beyond f = absurd cc

    by_number : (b : Bool) → nat_lt program (length c.programs) ≡ b
        → (if b then offered_refusal c mode program argument else if nat_lt program (length c.programs + c.places) then place_refusal c argument else Some UnknownProgram) ≡ None
        → is_call mode c asked ≡ true
    by_number true offered f =
        let t = asked_program mode argument (program_at c program) f in
        tests_call mode c asked (inl (record { program = t.0; named = t.1; mode_is = t.2; length_is = t.3; bytes = bytes }))
    by_number false other f = by_place (nat_lt program (length c.programs + c.places)) (not_below _ _ other) refl f

-- ---- programs to be installed

is_read : (r : Result Checked InstallRefusal) → reading_refusal r ≡ None → is_ok r ≡ true
is_read (Ok p) e = refl
is_read (Err (Decode why)) e = absurd cc
is_read (Err (Verify why)) e = absurd cc

-- one that is not refused may be installed
pub may_install : (c : CatalogueView) (new : NewProgram) → install_refusal c.shapes c.long new ≡ None → AreBytes new.bytes → is_installable c new ≡ true
may_install c new e bytes = by_size (is_small c.long new) refl e
  where
    reading : Result Checked InstallRefusal
    reading = installed_program c.shapes new.mode new.arg_len new.bytes

    by_size : (b : Bool) → is_small c.long new ≡ b → (if b then reading_refusal reading else Some TooLarge) ≡ None
        → is_installable c new ≡ true
    by_size true small f = and_from _ _ small (and_from (are_bytes new.bytes) (is_ok reading) (bytes_are new.bytes bytes) (is_read reading f))
    by_size false large f = absurd cc
