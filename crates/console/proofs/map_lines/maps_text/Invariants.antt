use Rattle.std.proofs.Common.{take}
use Rattle.console.specs.MapsAnswer.{AreMapsLines}
use Rattle.console.proofs.map_lines.maps_text.Given as goal

abbrev pub invariant-loop-k : goal.invariant-loop-k
invariant-loop-k l = AreMapsLines (take l.k l.catalogue.programs) l.out.items
