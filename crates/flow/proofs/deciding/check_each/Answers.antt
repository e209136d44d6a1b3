use Rattle.std.proofs.Common.{◌≡◌, ◌+◌, get_or, Some, refl, sym, ap, ◌∙◌, subst, arith}
use Rattle.std.specs.Prelude.{nat_eq, ◌||◌}
use Rattle.insn.specs.Layout.{slot_count}
use Rattle.flow.specs.Faults.{is_reached_from, reached_slots, leads_to, first_rule, lowest_fault}
use Rattle.flow.specs.SlotSets.{has_slot}
use Rattle.flow.proofs.Positions.{Placed, placed, begins_within, size_next}
use Rattle.flow.proofs.Pass.{first_here, as_found, lowest_next, reached_next, reached_here, fault_here, targets_within}
use Rattle.flow.proofs.deciding.check_each.Goals as goal
use Rattle.flow.proofs.deciding.check_each.Goals.{After-form-form, After-contains}

pub loop-insn-init : goal.loop-insn-init
unfolding reached_slots lowest_fault
loop-insn-init c = record {
  counted = refl;
  reached = λ t. c.insert.ensures t ∙ ap (λ b. nat_eq t 0 || b) (c.new-reached.ensures t);
  unbroken = refl;
}

-- where the instruction stands that the loop has come to
at : (c : After-form-form) → Placed c.args.program.now c.form-form.result c.loop-insn.slot
at c =
    let is = subst (λ j. j ≡ get_or c.args.program.now c.loop-insn.insn-index j) (sym c.form-form.ensures.same) c.insn-item.is in
    placed c.args.program.now c.loop-insn.insn-index c.loop-insn.slot c.form-form.result c.loop-insn-test.true is c.loop-insn.invariant.counted

-- the rule that the code's sets give there is the program's
found : (c : After-contains) → first_rule c.args.end (has_slot c.second_halves-halves.result) c.contains.result c.form-form.result c.loop-insn.slot ≡ first_here c.args.program.now c.form-form.result c.loop-insn.slot
found c =
    as_found c.args.program.now c.form-form.result c.loop-insn.slot c.args.end c.second_halves-halves.result c.contains.result c.requires.sized c.second_halves-halves.ensures (c.contains.ensures ∙ c.loop-insn.invariant.reached c.loop-insn.slot)

pub contains-requires : goal.contains-requires
contains-requires c =
    omega (arith, begins_within (at (goal.at.contains-requires c).After-form-form))

pub broken_rule-requires-clause-within : goal.broken_rule-requires-clause-within
broken_rule-requires-clause-within c =
    omega (arith, begins_within (at (goal.at.broken_rule-requires-clause-within c).After-form-form))

pub broken-requires : goal.broken-requires
broken-requires c =
    omega (arith, begins_within (at (goal.at.broken-requires c).After-form-form))

pub insert_targets-requires-clause-at : goal.insert_targets-requires-clause-at
insert_targets-requires-clause-at c =
    omega (arith, begins_within (at (goal.at.insert_targets-requires-clause-at c).After-form-form))

pub overflow_add-next : goal.overflow_add-next
overflow_add-next c =
    let at = at (goal.at.overflow_add-next c).After-form-form in
    omega (arith, at.within, ap slot_count c.form-form.ensures.same)

pub insert_targets-requires-clause-next : goal.insert_targets-requires-clause-next
insert_targets-requires-clause-next c = omega (arith, ap slot_count c.form-form.ensures.same)

pub insert_targets-requires-clause-within : goal.insert_targets-requires-clause-within
insert_targets-requires-clause-within c = λ t leads.
    let at = at (goal.at.insert_targets-requires-clause-within c).After-form-form in
    let found = found (goal.at.insert_targets-requires-clause-within c).After-contains in
    let within = targets_within at (sym found ∙ sym c.broken_rule.ensures ∙ c.in_default.is) t leads in
    omega (arith, within)

pub returns-in-Some : goal.returns-in-Some
returns-in-Some c =
    let at = at (goal.at.returns-in-Some c).After-form-form in
    let found = found (goal.at.returns-in-Some c).After-contains in
    let broken = sym found ∙ sym c.broken_rule.ensures ∙ c.in-Some.is in
    let lowest = fault_here c.args.end c.in-Some.rule at broken c.loop-insn.invariant.unbroken (omega (arith, begins_within at)) in
    lowest ∙ ap Some (sym c.broken.ensures)

pub loop-insn-preserved : goal.loop-insn-preserved
loop-insn-preserved c =
    let at = at (goal.at.loop-insn-preserved c).After-form-form in
    let found = found (goal.at.loop-insn-preserved c).After-contains in
    let none = sym found ∙ sym c.broken_rule.ensures ∙ c.in_default.is in
    let next : c.loop-insn.slot + c.slot_count.result ≡ c.loop-insn.slot + slot_count c.form-form.result = omega (arith, ap slot_count c.form-form.ensures.same) in
    record {
      counted = omega (arith, size_next c.args.program.now c.loop-insn.insn-index c.insn-item.result c.loop-insn-test.true c.insn-item.is);
      reached = λ t.
          c.insert_targets.ensures t
          ∙ ap (λ b. leads_to (Some c.form-form.result) c.loop-insn.slot t || b) (c.loop-insn.invariant.reached t)
          ∙ sym (reached_next at (reached_here at none) t)
          ∙ ap (λ n. is_reached_from c.args.program.now (reached_slots c.args.program.now n) t) (sym next);
      unbroken = ap (lowest_fault c.args.program.now) next ∙ lowest_next at none c.loop-insn.invariant.unbroken;
    }
