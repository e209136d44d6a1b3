use Rattle.std.proofs.Common.{length, ap, ◌∙◌}
use Rattle.std.proofs.lemmas.List.{length-map}
use Rattle.maps.specs.Maps.{MapState}
use Rattle.maps.specs.MapSets.{maps_of}
use Rattle.maps.proofs.Export.{stored_are}
use Rattle.serving.proofs.store_texts.map_count.Goals as goal

pub returns : goal.returns
returns c =
    c.count.ensures.count ∙ ap length (stored_are c.maps.result.now) ∙ length-map (maps_of c.maps.result.now) (λ (m : MapState). m.shape) ∙ ap length c.maps.ensures.maps
