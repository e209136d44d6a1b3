use Rattle.std.proofs.Common.{◌≡◌, ◌++◌, Some, OnOk, slice_get, sym, ap, subst, ◌∙◌}
use Rattle.std.specs.Option.{option_map}
use Rattle.std.proofs.lemmas.Option.{slice_get-map}
use Rattle.maps.specs.Maps.{MapState}
use Rattle.maps.specs.MapSets.{maps_of}
use Rattle.maps.proofs.Export.{stored_are}
use Rattle.serving.proofs.StoreTexts.{map_told}
use Rattle.serving.proofs.store_texts.put_map.Goals as goal

pub returns : goal.returns
returns c =
    let maps = maps_of c.args.maps.now in
    let shape : option_map (λ (m : MapState). m.shape) (slice_get maps c.args.m) ≡ Some c.shape.result =
    sym (slice_get-map (λ (m : MapState). m.shape) maps c.args.m) ∙ (ap (λ z. slice_get z c.args.m) (sym (stored_are c.args.maps.now)) ∙ c.shape.ensures.shape) in
    subst (λ t. OnOk c.put_keys.result (c.put_keys.new.out.items ≡ c.args.out.now.items ++ t))
    (sym (map_told (slice_get maps c.args.m) c.shape.result c.len.result shape c.len.ensures.keys)) c.put_keys.ensures
