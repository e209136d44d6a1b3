use Rattle.std.proofs.Common.{sym, ap, ◌∙◌, subst}
use Rattle.maps.specs.MapSets.{maps_of, stored_shapes}
use Rattle.maps.specs.Shapes.{AreShapesSupported}
use Rattle.maps.specs.Maps.{HasShapes}
use Rattle.maps.proofs.OpeningShapes.{opening_shapes}
use Rattle.maps.proofs.Opened.{opened_shapes, opened_maps}
use Rattle.maps.proofs.map_set.MapSet.open_supported.Goals as goal

pub invariant_of-result : goal.invariant_of-result
invariant_of-result c = record {
  shapes = subst (λ x. AreShapesSupported (stored_shapes x)) (sym c.in_ok-tables.ensures.opened) (opened_shapes c.args.shapes.now c.requires.shapes);
  each = c.in_ok-tables.ensures.tables;
}

pub returns-clause-maps : goal.returns-clause-maps
returns-clause-maps c = ap maps_of c.in_ok-tables.ensures.opened ∙ opened_maps c.args.shapes.now

pub returns-clause-shapes : goal.returns-clause-shapes
returns-clause-shapes c = subst (HasShapes c.args.shapes.now) (sym (ap maps_of c.in_ok-tables.ensures.opened ∙ opened_maps c.args.shapes.now)) (opening_shapes c.args.shapes.now c.requires.shapes)
