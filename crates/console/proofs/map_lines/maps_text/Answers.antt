use Rattle.console.proofs.MapLines.{lines_more}
use Rattle.console.proofs.map_lines.maps_text.Goals as goal

pub loop-k-preserved : goal.loop-k-preserved
loop-k-preserved c = lines_more c.args.catalogue.now.programs c.loop-k.k c.loop-k.out.items c.put_line_of.new.out.items c.loop-k.invariant c.in_ok-put_line_of.ensures
