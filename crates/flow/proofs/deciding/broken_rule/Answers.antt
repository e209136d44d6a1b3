use Rattle.std.proofs.Common.{not, cond, Some, None, sym, ◌∙◌, ap}
use Rattle.flow.specs.declared.rules.StructureRule.TheVariants.{Unreachable}
use Rattle.flow.specs.SlotSets.{has_slot}
use Rattle.flow.proofs.Steps.{jump_breaks, end_breaks, end_passes}
use Rattle.flow.proofs.deciding.broken_rule.Goals as goal

pub returns-in-Some : goal.returns-in-Some
returns-in-Some c =
    jump_breaks c.args.end (has_slot c.args.halves.now) c.args.is_reached c.args.form c.args.slot c.in-Some.rule (sym c.in-Some.is ∙ c.broken_by_jump.ensures c.args.is_reached)

pub returns-then-runs_off : goal.returns-then-runs_off
returns-then-runs_off c =
    let ends = sym c.runs_off.ensures ∙ c.if-runs_off.true in
    end_breaks c.args.end (has_slot c.args.halves.now) c.args.is_reached c.args.form c.args.slot (sym c.in_default.is ∙ c.broken_by_jump.ensures c.args.is_reached) ends

pub returns-then-not-is_reached : goal.returns-then-not-is_reached
returns-then-not-is_reached c =
    let goes_on = sym c.runs_off.ensures ∙ c.if-runs_off.false in
    ap (λ b. cond (not b) (Some Unreachable) None) (sym c.if-not-is_reached.true)
    ∙ end_passes c.args.end (has_slot c.args.halves.now) c.args.is_reached c.args.form c.args.slot (sym c.in_default.is ∙ c.broken_by_jump.ensures c.args.is_reached) goes_on

pub returns : goal.returns
returns c =
    let goes_on = sym c.runs_off.ensures ∙ c.if-runs_off.false in
    ap (λ b. cond (not b) (Some Unreachable) None) (sym c.if-not-is_reached.false)
    ∙ end_passes c.args.end (has_slot c.args.halves.now) c.args.is_reached c.args.form c.args.slot (sym c.in_default.is ∙ c.broken_by_jump.ensures c.args.is_reached) goes_on
