use Rattle.maps.specs.Blocks.{stored}
use Rattle.maps.proofs.Stored.{within, is_at, shape_at}
use Rattle.maps.proofs.map_set.MapSet.shape.Goals as goal

pub returns : goal.returns
returns c =
    let at = is_at c.self.inside.tables.items c.args.self.now c.args.m c.index.result.now c.self.view_is c.self.invariant (within c.args.self.now c.args.m c.requires.map) c.index.ensures in
    record { shape = shape_at c.args.self.now c.args.m (stored c.index.result.now) at.there }
