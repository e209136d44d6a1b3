-- What a history may have fits in the room for the longest argument, or the longest program, of the catalogue.
use Rattle.std.proofs.Common.{inl, inr, ◌≡◌, ℕ, zero, suc, ◌+◌, ◌<◌, ◌≤◌, true, List, [], ◌∷◌, length, refl, ap, ⊎_elim, arith}
use Rattle.std.proofs.lemmas.Bool.{cases_lt}
use Rattle.maps.specs.declared.shapes.TheConstants.{MAX_ARG_LEN}
use Rattle.std.specs.Prelude.{slice_get, Option, Some, None}
use Rattle.std.specs.Option.{option_map}
use Rattle.std.proofs.lemmas.Option.{none-some, same_Some}
use Rattle.verifier.specs.declared.refusal.Mode.{Mode}
use Rattle.verifier.specs.declared.refusal.Mode.TheVariants.{Read, Update}
use Rattle.verifier.specs.Accepted.{Checked}
use Rattle.loader.specs.CatalogueView.{CatalogueView, Entry, longest_of, longest_part}
use Rattle.oplog.specs.Calls.{Call, NewProgram}
use Rattle.oplog.specs.declared.records.TheConstants.{MAX_INSTALLED_BYTES}
use Rattle.oplog.specs.declared.records.Op.TheVariants.{Run, Install}
use Rattle.oplog.specs.Operations.{Operation, FitsIn}
use Rattle.oplog.specs.History.{History, AllFit}
use Rattle.oplog.proofs.Export.{part_at_most, program_at_most, short_part, short_program}
use Rattle.replica.specs.StoreMeaning.{is_operation, AreUpdates, IsCall, IsInstallable}
use Rattle.replica.proofs.Tested.{are_tested, installable_tested}

longest_at : (es : List Entry) (k : ℕ) (e : Entry) → slice_get es k ≡ Some e → e.checked.arg_len ≤ longest_of es
longest_at [] k e at = absurd (none-some e at)
longest_at (x ∷ es) zero e at = let same : x.checked.arg_len ≡ e.checked.arg_len = ap (λ (y : Entry). y.checked.arg_len) (same_Some x e at) in omega (arith, same)
longest_at (x ∷ es) (suc k) e at = let rest = longest_at es k e at in omega (arith, rest)

longest_named : (es : List Entry) (k : ℕ) (o : Option Entry) (p : Checked) → slice_get es k ≡ o → option_map (λ (e : Entry). e.checked) o ≡ Some p → p.arg_len ≤ longest_of es
longest_named es k None p at is = absurd (none-some p is)
longest_named es k (Some e) p at is =
    let few = longest_at es k e at in
    let same : e.checked.arg_len ≡ p.arg_len = ap (λ (q : Checked). q.arg_len) (same_Some e.checked p is) in
    omega (arith, few, same)

call_fits : (mode : Mode) (c : CatalogueView) (call : Call) → IsCall mode c call → FitsIn (longest_part c) (Run call)
call_fits mode c call (inl h) =
    let few = longest_named c.programs call.program (slice_get c.programs call.program) h.program refl h.named in
    let long = h.length_is in
    let part = part_at_most call.argument in
    omega (arith, few, long, part)
call_fits mode c call (inr h) = ⊎_elim
    (λ (short : length call.argument < MAX_ARG_LEN + 1). let le : length call.argument ≤ MAX_ARG_LEN = omega (arith, short) in let none = short_part call.argument le in omega (arith, none))
    (λ (long : MAX_ARG_LEN + 1 ≤ length call.argument). let few = h.short in let part = part_at_most call.argument in omega (arith, few, long, part))
    (cases_lt (length call.argument) (MAX_ARG_LEN + 1))

install_fits : (c : CatalogueView) (new : NewProgram) → IsInstallable c new → FitsIn (longest_part c) (Install new)
install_fits c new h = ⊎_elim
    (λ (short : length new.bytes < MAX_INSTALLED_BYTES + 1). let le : length new.bytes ≤ MAX_INSTALLED_BYTES = omega (arith, short) in let none = short_program new.bytes le in omega (arith, none))
    (λ (long : MAX_INSTALLED_BYTES + 1 ≤ length new.bytes). let few = h.few in let part = program_at_most new.bytes in omega (arith, few, long, part))
    (cases_lt (length new.bytes) (MAX_INSTALLED_BYTES + 1))

pub operation_fits : (mode : Mode) (c : CatalogueView) (op : Operation) → is_operation mode c op ≡ true → FitsIn (longest_part c) op
operation_fits mode c (Run call) is = call_fits mode c call ((are_tested mode c (Run call)).0 is)
operation_fits Update c (Install new) is = install_fits c new (installable_tested c new is)
operation_fits Read c (Install new) is = absurd cc

pub updates_fit : (c : CatalogueView) (records : History) → AreUpdates c records → AllFit (longest_part c) records
updates_fit c records are k r at = operation_fits Update c r.op (are k r at)
