-- The shapes of contents are those of their maps.
use Rattle.std.proofs.Common.{◌≡◌, [], ◌∷◌, refl, ap}
use Rattle.maps.specs.Maps.{shapes_of}
use Rattle.maps.specs.MapSets.{Contents, stored_shapes, maps_of}

pub stored_are : (c : Contents) → stored_shapes c ≡ shapes_of (maps_of c)
stored_are [] = refl
stored_are (s ∷ c) = ap (λ shapes. s.shape ∷ shapes) (stored_are c)
