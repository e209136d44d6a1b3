use Rattle.std.proofs.Common.{◌≡◌, ◌++◌, take}
use Rattle.std.specs.List.{flat_map}
use Rattle.maps.specs.MapSets.{maps_of}
use Rattle.serving.specs.StoreText.{map_line}
use Rattle.serving.proofs.store_texts.put_maps.Given as goal

abbrev pub invariant-loop-m : goal.invariant-loop-m
invariant-loop-m l = l.out.items ≡ l.fn.out.items ++ flat_map map_line (take l.m (maps_of l.maps))
