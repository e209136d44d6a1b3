use Rattle.std.proofs.Common.{◌≡◌, ◌++◌}
use Rattle.console.specs.MapsAnswer.{fields_below}
use Rattle.console.proofs.map_lines.put_maps.Given as goal

abbrev pub invariant-loop-m : goal.invariant-loop-m
invariant-loop-m l = l.out.items ≡ l.initial.out.items ++ fields_below l.m l.maps
