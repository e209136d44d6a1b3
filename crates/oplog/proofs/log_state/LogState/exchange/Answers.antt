use Rattle.std.proofs.Common.{rules, arith, ◌≡◌, ◌-◌, ◌≤◌, length, drop, subst, sym, ap, ◌∙◌}
use Rattle.std.proofs.lemmas.Grind.{common_steps}
use Rattle.std.proofs.lemmas.List.{length-drop}
use Rattle.oplog.specs.Fields.{HasEnds}
use Rattle.oplog.specs.History.{History}
use Rattle.oplog.proofs.Ends.{based}
use Rattle.oplog.proofs.log_state.LogState.exchange.Goals as goal

pub invariant_of-self : goal.invariant_of-self
invariant_of-self c =
    let g = c.self.inside in
    let kept : c.copy_from.new.self.records ≡ drop (c.args.at - g.base) g.records.records = grind (arith, common_steps) in
    let up : g.base ≤ c.args.at = search rules in
    let is = c.self.invariant.0 in
    let few : length c.copy_from.new.self.records ≡ length g.records.records - (c.args.at - g.base) = ap length kept ∙ length-drop (c.args.at - g.base) g.records.records in
    let old = is.kept in
    let most = is.within in
    let done : c.args.at ≤ g.done = search rules in
    let tail = is.completed in (
      record {
        shapes = search rules;
        reclaimed = done;
        completed = omega (arith, few, tail, up, done);
        kept = omega (arith, few, old);
        within = omega (arith, few, most, up, done, tail);
        window = is.window;
        limit = is.limit;
      },
      grind (arith, common_steps),
      search rules,
      subst (λ (rs : History). HasEnds c.args.at rs g.ends) (sym kept) (based g.base c.args.at g.records.records g.ends up c.self.invariant.3),
    )
