use Rattle.std.proofs.Common.{◌+◌, arith, refl, sym, ap, ◌∙◌, false}
use Rattle.insn.specs.Layout.{slot_count}
use Rattle.verifier.proofs.Export.{slot_after, stands_here}
use Rattle.named_maps.specs.Naming.{is_outside}
use Rattle.named_maps.proofs.Named.{found_outside, none_outside, passed_on}
use Rattle.flow.proofs.Export.{stands_within}
use Rattle.named_maps.proofs.naming.outside_in.Goals as goal

pub loop-insn-init : goal.loop-insn-init
loop-insn-init c = (refl, λ k lt. absurd (omega arith))

pub returns-then-is_outside-clause-slot : goal.returns-then-is_outside-clause-slot
returns-then-is_outside-clause-slot c =
    found_outside c.args.maps c.args.program.now c.loop-insn.insn-index c.loop-insn.invariant.1 c.loop-insn.slot c.insn-item.result c.loop-insn-test.true c.insn-item.is c.loop-insn.invariant.0
    (sym (ap (is_outside c.args.maps) c.form-form.ensures.same) ∙ sym c.is_outside.ensures ∙ c.if-is_outside.true)

pub returns-then-is_outside-clause-few : goal.returns-then-is_outside-clause-few
returns-then-is_outside-clause-few c =
    let stands = stands_here c.args.program.now c.loop-insn.insn-index c.loop-insn.slot c.insn-item.result c.loop-insn-test.true c.insn-item.is c.loop-insn.invariant.0 in
    omega (arith, stands_within c.args.program.now c.insn-item.result c.loop-insn.slot stands, c.requires.few)

pub overflow_add-slot : goal.overflow_add-slot
overflow_add-slot c =
    let next = slot_after c.args.program.now c.loop-insn.insn-index c.loop-insn.slot c.slot_count-slot.result (c.loop-insn.slot + c.slot_count-slot.result) c.insn-item.result c.loop-insn-test.true c.insn-item.is c.loop-insn.invariant.0 (c.slot_count-slot.ensures.count ∙ ap slot_count c.form-form.ensures.same) refl in
    omega (arith, next.1, c.requires.few)

pub loop-insn-preserved : goal.loop-insn-preserved
loop-insn-preserved c =
    let next = slot_after c.args.program.now c.loop-insn.insn-index c.loop-insn.slot c.slot_count-slot.result (c.loop-insn.slot + c.slot_count-slot.result) c.insn-item.result c.loop-insn-test.true c.insn-item.is c.loop-insn.invariant.0 (c.slot_count-slot.ensures.count ∙ ap slot_count c.form-form.ensures.same) refl in (
      next.0,
      passed_on c.args.maps c.args.program.now c.loop-insn.insn-index c.loop-insn.invariant.1 c.insn-item.result c.loop-insn-test.true c.insn-item.is
          (sym (ap (is_outside c.args.maps) c.form-form.ensures.same) ∙ sym c.is_outside.ensures ∙ c.if-is_outside.false),
    )

pub returns-clause-slot : goal.returns-clause-slot
returns-clause-slot c = none_outside c.args.maps c.args.program.now c.loop-insn.insn-index c.loop-insn.invariant.1 (omega (arith, c.loop-insn.auto.insn-index-end, c.loop-insn-test.false))
