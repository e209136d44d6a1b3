use Rattle.std.proofs.Common.{length, sym, ap, ◌∙◌, subst}
use Rattle.maps.specs.Blocks.{stored}
use Rattle.maps.specs.MapSets.{HoldsValues}
use Rattle.maps.proofs.Stored.{within, is_at, of_shape}
use Rattle.maps.proofs.WholeBlocks.{holds_values}
use Rattle.maps.proofs.map_set.MapSet.block.Goals as goal

pub returns-clause-size : goal.returns-clause-size
returns-clause-size c =
    let t = c.index.result.now in
    let at = is_at c.self.inside.tables.items c.args.self.now c.args.m t c.self.view_is c.self.invariant (within c.args.self.now c.args.m c.requires.map) c.index.ensures in
    of_shape _ c.args.self.now c.args.m (stored t) at.there (ap length c.deref.ensures.value ∙ at.table.full)

pub returns-clause-values : goal.returns-clause-values
returns-clause-values c =
    subst (HoldsValues c.args.self.now c.args.m) (sym c.deref.ensures.value)
    (holds_values c.self.inside.tables.items c.args.self.now c.args.m c.index.result.now c.self.view_is c.self.invariant (within c.args.self.now c.args.m c.requires.map) c.index.ensures)
