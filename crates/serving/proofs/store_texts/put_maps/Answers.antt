use Rattle.maps.specs.MapSets.{maps_of}
use Rattle.serving.specs.StoreText.{map_line}
use Rattle.serving.proofs.StoreTexts.{line_more, no_line}
use Rattle.serving.proofs.store_texts.put_maps.Goals as goal

pub loop-m-init : goal.loop-m-init
loop-m-init c = no_line map_line (maps_of c.args.maps.now) c.args.out.now.items

pub loop-m-preserved : goal.loop-m-preserved
loop-m-preserved c =
    line_more map_line (maps_of c.args.maps.now) c.args.out.now.items c.loop-m.m c.loop-m.out.items c.put_map.new.out.items c.loop-m.invariant c.in_ok-put_map.ensures
