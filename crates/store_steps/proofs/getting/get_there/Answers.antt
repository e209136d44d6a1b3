use Rattle.std.proofs.Common.{◌≡◌, Some, ap, length, subst, sym, ◌∙◌}
use Rattle.std.specs.Prelude.{IfSome, slice_get}
use Rattle.std.proofs.lemmas.Option.{slice_get_within}
use Rattle.maps.specs.declared.shapes.Shape.{Shape}
use Rattle.maps.specs.Maps.{shapes_of}
use Rattle.maps.specs.MapSets.{stored_shapes}
use Rattle.maps.specs.Shapes.{key_size, value_size}
use Rattle.maps.proofs.Export.{stored_are}
use Rattle.store_steps.proofs.getting.get_there.Goals as goal

pub lookup-requires-clause-map : goal.lookup-requires-clause-map
lookup-requires-clause-map c =
    let m = c.maps-maps.result.now in
    let f = c.requires.fits in
    let there : slice_get (stored_shapes m) c.args.of.map ≡ Some f.0 = ap (λ z. slice_get z c.args.of.map) (stored_are m ∙ ap shapes_of c.maps-maps.ensures.maps) ∙ f.1 in
    slice_get_within (stored_shapes m) c.args.of.map f.0 there

pub lookup-requires-clause-key : goal.lookup-requires-clause-key
lookup-requires-clause-key c =
    let m = c.maps-maps.result.now in
    let f = c.requires.fits in
    let there : slice_get (stored_shapes m) c.args.of.map ≡ Some f.0 = ap (λ z. slice_get z c.args.of.map) (stored_are m ∙ ap shapes_of c.maps-maps.ensures.maps) ∙ f.1 in
    subst (λ o. IfSome o (λ (s : Shape). length c.args.of.key.now ≡ key_size s)) (sym there) f.2

pub copy_from_slice-requires : goal.copy_from_slice-requires
copy_from_slice-requires c =
    let m = c.maps-maps.result.now in
    let f = c.requires.fits in
    let there : slice_get (stored_shapes m) c.args.of.map ≡ Some f.0 = ap (λ z. slice_get z c.args.of.map) (stored_are m ∙ ap shapes_of c.maps-maps.ensures.maps) ∙ f.1 in
    let found = c.in-Some.ensures.found in
    let size = subst (λ o. IfSome o (λ (s : Shape). length c.value.result.now ≡ value_size s)) (ap (λ z. slice_get (stored_shapes m) z) found.0 ∙ there) c.value.ensures.size in
    f.3 ∙ sym size
