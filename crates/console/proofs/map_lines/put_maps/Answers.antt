use Rattle.console.proofs.MapLines.{map_more}
use Rattle.console.proofs.map_lines.put_maps.Goals as goal

pub loop-m-preserved : goal.loop-m-preserved
loop-m-preserved c = map_more c.args.maps c.loop-m.m c.args.out.now.items c.loop-m.out.items c.put_map.new.out.items c.loop-m.invariant c.in_ok-put_map.ensures
