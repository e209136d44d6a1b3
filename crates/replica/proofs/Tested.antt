-- The test for operations.
use Rattle.std.proofs.Common.{◌≡◌, inl, inr, ℕ, ◌+◌, ◌<◌, ◌≤◌, Bool, true, false, List, [], ◌∷◌, length, Option, Some, None, Result, Ok, Err, refl, ap, ◌∙◌, subst, arith}
use Rattle.std.specs.Prelude.{◌&&◌, nat_eq, nat_lt, nat_le, is_ok, slice_get, if◌then◌else◌}
use Rattle.std.specs.List.{list_all}
use Rattle.std.specs.Option.{option_map}
use Rattle.std.proofs.lemmas.Bool.Decides.{nat_tests}
use Rattle.std.proofs.lemmas.Option.{slice_get_within}
use Rattle.std.proofs.lemmas.Bool.{and_parts, and_from}
use Rattle.insn.proofs.Export.{read_is_spelled, spelled_is_read}
use Rattle.maps.specs.Maps.{AreBytes}
use Rattle.verifier.specs.declared.refusal.Mode.{Mode}
use Rattle.verifier.specs.declared.refusal.Mode.TheVariants.{Update, Read}
use Rattle.verifier.specs.Signature.{signature}
use Rattle.verifier.specs.Accepted.{Checked, checked}
use Rattle.verifier.proofs.Export.{accepts, accepted_iff}
use Rattle.loader.specs.CatalogueView.{CatalogueView, Entry}
use Rattle.loader.specs.Installed.{accepted_program, installed_program, most_argument, most_bytes, unless_unsafe}
use Rattle.loader.specs.declared.installed.InstallRefusal.{InstallRefusal}
use Rattle.loader.proofs.Export.{installed_reads}
use Rattle.oplog.specs.Calls.{Call, NewProgram}
use Rattle.oplog.specs.Operations.{Operation}
use Rattle.oplog.specs.declared.records.Op.TheVariants.{Run, Install}
use Rattle.replica.specs.StoreMeaning.{program_at, suits, IsOffered, IsOfPlace, IsCall, IsInstallable, IsOperation, is_mode, are_bytes, fits, fits_place, is_call, is_installable, is_operation}
use Rattle.replica.specs.HistoryLaws.{OperationsAreTested}

same_mode : (m n : Mode) → is_mode m n ≡ true → m ≡ n
same_mode Update Update e = refl
same_mode Read Read e = refl
same_mode Update Read e = absurd cc
same_mode Read Update e = absurd cc

mode_same : (m : Mode) → is_mode m m ≡ true
mode_same Update = refl
mode_same Read = refl

pub below : (a b : ℕ) → nat_lt a b ≡ true → a < b
below a b e = grind (arith, nat_tests)

pub is_below : (a b : ℕ) → a < b → nat_lt a b ≡ true
is_below a b h = grind (arith, nat_tests)

pub not_below : (a b : ℕ) → nat_lt a b ≡ false → b ≤ a
not_below a b e = grind (arith, nat_tests)

is_not_below : (a b : ℕ) → b ≤ a → nat_lt a b ≡ false
is_not_below a b h = grind (arith, nat_tests)

pub at_most : (a b : ℕ) → nat_le a b ≡ true → a ≤ b
at_most a b e = grind (arith, nat_tests)

is_at_most : (a b : ℕ) → a ≤ b → nat_le a b ≡ true
is_at_most a b h = grind (arith, nat_tests)

equal : (a b : ℕ) → nat_eq a b ≡ true → a ≡ b
equal a b e = grind (arith, nat_tests)

is_equal : (a b : ℕ) → a ≡ b → nat_eq a b ≡ true
is_equal a b h = grind (arith, nat_tests)

bytes_from : (xs : List ℕ) → are_bytes xs ≡ true → AreBytes xs
bytes_from [] e = tt
bytes_from (x ∷ xs) e =
    let parts = and_parts (nat_lt x 256) (list_all (λ b. nat_lt b 256) xs) e in (below x 256 parts.0, bytes_from xs parts.1)

pub bytes_are : (xs : List ℕ) → AreBytes xs → are_bytes xs ≡ true
bytes_are [] h = refl
bytes_are (x ∷ xs) h = and_from (nat_lt x 256) (list_all (λ b. nat_lt b 256) xs) (is_below x 256 h.0) (bytes_are xs h.1)

-- ---- a program that suits

pub suited : (mode : Mode) (argument : List ℕ) (p : Checked) → suits mode argument p ≡ true → (p.mode ≡ mode) × (length argument ≡ p.arg_len)
suited mode argument p e =
    let parts = and_parts (is_mode p.mode mode) (nat_eq (length argument) p.arg_len) e in
    (same_mode p.mode mode parts.0, equal (length argument) p.arg_len parts.1)

pub suits_so : (mode : Mode) (argument : List ℕ) (p : Checked) → p.mode ≡ mode → length argument ≡ p.arg_len → suits mode argument p ≡ true
suits_so mode argument p same long =
    and_from (is_mode p.mode mode) (nat_eq (length argument) p.arg_len) (subst (λ (m : Mode). is_mode p.mode m ≡ true) same (mode_same p.mode)) (is_equal (length argument) p.arg_len long)

-- ---- calls

offered_from : (mode : Mode) (c : CatalogueView) (call : Call) (o : Option Checked) → program_at c call.program ≡ o → fits mode call.argument o ≡ true → IsOffered mode c call
offered_from mode c call None named e = absurd cc
offered_from mode c call (Some p) named e =
    let parts = and_parts (suits mode call.argument p) (are_bytes call.argument) e in
    let known = suited mode call.argument p parts.0 in
    record { program = p; named = named; mode_is = known.0; length_is = known.1; bytes = bytes_from call.argument parts.1 }

of_place_from : (c : CatalogueView) (call : Call) → length c.programs ≤ call.program → fits_place c call ≡ true → IsOfPlace c call
of_place_from c call behind e =
    let parts = and_parts (nat_lt call.program (length c.programs + c.places)) _ e in
    let rest = and_parts (nat_le (length call.argument) (most_argument c.long)) (are_bytes call.argument) parts.1 in
    record { behind = behind; within = below _ _ parts.0; short = at_most _ _ rest.0; bytes = bytes_from call.argument rest.1 }

call_from : (mode : Mode) (c : CatalogueView) (call : Call) (b : Bool) → nat_lt call.program (length c.programs) ≡ b
    → (if b then fits mode call.argument (program_at c call.program) else fits_place c call) ≡ true → IsCall mode c call
call_from mode c call true offered e = inl (offered_from mode c call (program_at c call.program) refl e)
call_from mode c call false other e = inr (of_place_from c call (not_below _ _ other) e)

pub call_tested : (mode : Mode) (c : CatalogueView) (call : Call) → is_call mode c call ≡ true → IsCall mode c call
call_tested mode c call e = call_from mode c call (nat_lt call.program (length c.programs)) refl e

-- a program of the catalogue has a number below theirs
known_below : {X Y : Type 0} (f : X → Y) (xs : List X) (k : ℕ) (o : Option X) (y : Y) → slice_get xs k ≡ o → option_map f o ≡ Some y → k < length xs
known_below f xs k None y at e = absurd cc
known_below f xs k (Some x) y at e = slice_get_within xs k x at

pub offered_below : (c : CatalogueView) (k : ℕ) (p : Checked) → program_at c k ≡ Some p → k < length c.programs
offered_below c k p named = known_below (λ (e : Entry). e.checked) c.programs k (slice_get c.programs k) p refl named

pub tests_offered : (mode : Mode) (c : CatalogueView) (call : Call) → IsOffered mode c call → is_call mode c call ≡ true
tests_offered mode c call h =
    ap (λ b. if b then fits mode call.argument (program_at c call.program) else fits_place c call) (is_below _ _ (offered_below c call.program h.program h.named))
    ∙ ap (fits mode call.argument) h.named
    ∙ and_from (suits mode call.argument h.program) (are_bytes call.argument) (suits_so mode call.argument h.program h.mode_is h.length_is) (bytes_are call.argument h.bytes)

tests_place : (mode : Mode) (c : CatalogueView) (call : Call) → IsOfPlace c call → is_call mode c call ≡ true
tests_place mode c call h =
    ap (λ b. if b then fits mode call.argument (program_at c call.program) else fits_place c call) (is_not_below _ _ h.behind)
    ∙ and_from (nat_lt call.program (length c.programs + c.places)) _ (is_below _ _ h.within)
    (and_from (nat_le (length call.argument) (most_argument c.long)) (are_bytes call.argument) (is_at_most _ _ h.short) (bytes_are call.argument h.bytes))

pub tests_call : (mode : Mode) (c : CatalogueView) (call : Call) → IsCall mode c call → is_call mode c call ≡ true
tests_call mode c call (inl h) = tests_offered mode c call h
tests_call mode c call (inr h) = tests_place mode c call h

-- the argument of a call is bytes
pub call_bytes : {mode : Mode} {c : CatalogueView} {call : Call} → IsCall mode c call → AreBytes call.argument
call_bytes (inl h) = h.bytes
call_bytes (inr h) = h.bytes

-- ---- programs to be installed

good : {A E : Type 0} (r : Result A E) → is_ok r ≡ true → (x : A) × (r ≡ Ok x)
good (Ok x) e = (x, refl)
good (Err why) e = absurd cc

pub installable_tested : (c : CatalogueView) (new : NewProgram) → is_installable c new ≡ true → IsInstallable c new
installable_tested c new e =
    let parts = and_parts (nat_le (length new.bytes) (most_bytes c.long) && nat_le new.arg_len (most_argument c.long)) _ e in
    let sizes = and_parts (nat_le (length new.bytes) (most_bytes c.long)) (nat_le new.arg_len (most_argument c.long)) parts.0 in
    let rest = and_parts (are_bytes new.bytes) (is_ok (installed_program c.shapes new.mode new.arg_len new.bytes)) parts.1 in
    let known = good (installed_program c.shapes new.mode new.arg_len new.bytes) rest.1 in
    let read = installed_reads c.shapes new.mode new.arg_len new.bytes known.0 known.1 in
    let bytes = bytes_from new.bytes rest.0 in
    record {
      few = at_most _ _ sizes.0;
      argument = at_most _ _ sizes.1;
      bytes = bytes;
      program = read.program;
      spelled = read_is_spelled new.bytes read.program bytes read.read;
      typable = accepts read.program (signature c.shapes new.arg_len new.mode) read.passed;
    }

-- what it is installed as
pub installs_as : (c : CatalogueView) (new : NewProgram) (h : IsInstallable c new) → installed_program c.shapes new.mode new.arg_len new.bytes ≡ Ok (checked h.program c.shapes new.arg_len new.mode)
installs_as c new h =
    ap (accepted_program c.shapes new.mode new.arg_len) (spelled_is_read new.bytes h.program h.spelled)
    ∙ ap (unless_unsafe (checked h.program c.shapes new.arg_len new.mode)) ((accepted_iff h.program (signature c.shapes new.arg_len new.mode) h.spelled.each).1 h.typable)

pub tests_installable : (c : CatalogueView) (new : NewProgram) → IsInstallable c new → is_installable c new ≡ true
tests_installable c new h =
    and_from (nat_le (length new.bytes) (most_bytes c.long) && nat_le new.arg_len (most_argument c.long)) _
    (and_from (nat_le (length new.bytes) (most_bytes c.long)) (nat_le new.arg_len (most_argument c.long)) (is_at_most _ _ h.few) (is_at_most _ _ h.argument))
    (and_from (are_bytes new.bytes) (is_ok (installed_program c.shapes new.mode new.arg_len new.bytes)) (bytes_are new.bytes h.bytes) (ap (λ (r : Result Checked InstallRefusal). is_ok r) (installs_as c new h)))

-- ---- operations

is_tested : (mode : Mode) (c : CatalogueView) (op : Operation) → is_operation mode c op ≡ true → IsOperation mode c op
is_tested mode c (Run call) e = call_tested mode c call e
is_tested Update c (Install new) e = installable_tested c new e
is_tested Read c (Install new) e = absurd cc

tests_true : (mode : Mode) (c : CatalogueView) (op : Operation) → IsOperation mode c op → is_operation mode c op ≡ true
tests_true mode c (Run call) h = tests_call mode c call h
tests_true Update c (Install new) h = tests_installable c new h
tests_true Read c (Install new) h = absurd h

pub are_tested : OperationsAreTested
are_tested mode c op = (is_tested mode c op, tests_true mode c op)
