use Rattle.std.proofs.Common.{◌≡◌, take, map}
use Rattle.std.specs.List.{AllByRecursion}
use Rattle.maps.specs.MapSets.{opened_map}
use Rattle.maps.specs.Blocks.{contents, IsTable}
use Rattle.maps.proofs.map_set.open_tables.Given as goal

abbrev pub invariant-loop-shape : goal.invariant-loop-shape
invariant-loop-shape l = record { opened : contents l.tables.items ≡ map opened_map (take l.shape-index l.shapes); tables : AllByRecursion IsTable l.tables.items }
