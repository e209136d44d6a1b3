use Rattle.std.proofs.Common.{◌≡◌, Some, sym, ap, ◌∙◌, subst, w32}
use Rattle.std.proofs.lemmas.Int.{to_z-of_z}
use Rattle.insn.specs.declared.instruction.Form.TheVariants as form
use Rattle.helpers.specs.declared.numbers.Helper.TheVariants.{Lookup}
use Rattle.helpers.specs.Numbers.{helper_of}
use Rattle.helpers.proofs.Export.{only_number}
use Rattle.machine.specs.Executing.{Executes}
use Rattle.machine.proofs.calls.call_helper.Goals as goal

pub returns-in-Some-Lookup : goal.returns-in-Some-Lookup
returns-in-Some-Lookup c =
    let named : helper_of c.args.id ≡ Some Lookup = ap helper_of (sym (to_z-of_z w32 c.args.id c.ranges.id)) ∙ sym c.in-Some-Lookup.ensures.helper ∙ ap Some c.in-Some-Lookup.field-0-is in
    record {
      executes = subst (λ z. Executes (form.Call z) c.args.next.now c.args.machine.now c.args.maps.now c.args.argument.now c.call_lookup.new.machine c.args.maps.now c.call_lookup.result) (sym (only_number c.args.id Lookup named)) c.call_lookup.ensures.executes;
    }

pub returns-in-Some : goal.returns-in-Some
returns-in-Some c =
    let helper = c.in-Some.changing in
    let named : helper_of c.args.id ≡ Some helper = ap helper_of (sym (to_z-of_z w32 c.args.id c.ranges.id)) ∙ sym c.in-Some.ensures.helper in
    record {
      executes = subst (λ z. Executes (form.Call z) c.args.next.now c.args.machine.now c.args.maps.now c.args.argument.now c.call_changing.new.machine c.call_changing.new.maps c.call_changing.result) (sym (only_number c.args.id helper named)) c.call_changing.ensures.executes;
    }
