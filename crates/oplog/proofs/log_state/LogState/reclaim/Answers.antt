use Rattle.std.proofs.Common.{rules, ◌≡◌, ◌-◌, ◌≤◌, length, drop, subst, sym, ap, ◌∙◌, arith}
use Rattle.maps.specs.Maps.{shapes_of}
use Rattle.std.proofs.lemmas.Grind.{common_steps}
use Rattle.std.proofs.lemmas.List.{length-drop}
use Rattle.oplog.specs.Fields.{HasEnds}
use Rattle.oplog.specs.History.{History}
use Rattle.oplog.specs.Logs.{Log}
use Rattle.maps.proofs.Export.{stored_are}
use Rattle.oplog.proofs.Ends.{based}
use Rattle.oplog.proofs.log_state.LogState.reclaim.Goals as goal

pub copy_from-requires : goal.copy_from-requires
copy_from-requires c =
    record { shapes = stored_are c.self.inside.base_maps ∙ ap (λ (g : Log). shapes_of g.base_state.maps) c.self.view_is ∙ sym c.requires.shapes.same ∙ sym (stored_are c.args.maps.now) }

pub invariant_of-self : goal.invariant_of-self
invariant_of-self c =
    let g = c.self.inside in
    let kept : c.drop_first.new.self.records ≡ drop (c.args.at - g.base) g.records.records = grind (arith, common_steps) in
    let long : length c.drop_first.new.self.records ≡ length g.records.records - (c.args.at - g.base) = ap length kept ∙ length-drop (c.args.at - g.base) g.records.records in
    let up : g.base ≤ c.args.at = search rules in
    (search rules, grind (arith, common_steps), search rules, subst (λ (rs : History). HasEnds c.args.at rs g.ends) (sym kept) (based g.base c.args.at g.records.records g.ends up c.self.invariant.3))
