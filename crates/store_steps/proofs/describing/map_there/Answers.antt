use Rattle.std.proofs.Common.{◌≡◌, ℕ, Option, Some, None, ap, subst, sym, ◌∙◌}
use Rattle.std.specs.Prelude.{IfSome, slice_get}
use Rattle.std.specs.Option.{option_map}
use Rattle.std.specs.FinMap as finite_map
use Rattle.std.proofs.lemmas.Option.{slice_get-map}
use Rattle.maps.specs.declared.shapes.Shape.{Shape}
use Rattle.maps.specs.Maps.{Maps, MapState, shapes_of}
use Rattle.maps.proofs.Export.{stored_are}
use Rattle.store_steps.specs.Describing.{key_count}
use Rattle.store_steps.proofs.describing.map_there.Goals as goal

counted : (o : Option MapState) (shape : Shape) (keys : ℕ) → option_map (λ (m : MapState). m.shape) o ≡ Some shape → IfSome o (λ (m : MapState). keys ≡ finite_map.len m.entries) → option_map key_count o ≡ Some keys
counted None shape keys e h = absurd cc
counted (Some m) shape keys e h = ap Some (sym h)

pub returns-clause-has : goal.returns-clause-has
returns-clause-has c =
    let at = c.args.map in
    let maps = c.args.node.now.replica.state.maps in
    let same = c.maps-maps.ensures.maps in
    let shape : option_map (λ (m : MapState). m.shape) (slice_get maps at) ≡ Some c.shape.result =
    sym (slice_get-map (λ (m : MapState). m.shape) maps at) ∙ (ap (λ z. slice_get z at) (sym (stored_are c.maps-maps.result.now ∙ ap shapes_of same)) ∙ c.shape.ensures.shape) in
    record {
      shape = shape;
      keys = counted (slice_get maps at) c.shape.result c.len.result shape (subst (λ (z : Maps). IfSome (slice_get z at) (λ (m : MapState). c.len.result ≡ finite_map.len m.entries)) same c.len.ensures.keys);
    }
