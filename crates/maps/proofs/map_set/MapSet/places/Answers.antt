use Rattle.std.proofs.Common.{◌≡◌, sym, subst, length, IfSome}
use Rattle.maps.specs.Shapes.{entry_count}
use Rattle.maps.specs.Blocks.{stored}
use Rattle.maps.specs.MapSets.{Stored}
use Rattle.maps.proofs.Stored.{within, is_at, of_shape}
use Rattle.maps.proofs.map_set.MapSet.places.Goals as goal

pub places-requires-clause-shape : goal.places-requires-clause-shape
places-requires-clause-shape c =
    (is_at c.self.inside.tables.items c.args.self.now c.args.m c.index-table.result.now c.self.view_is c.self.invariant (within c.args.self.now c.args.m c.requires.map) c.index-table.ensures).ok

pub places-requires-clause-table : goal.places-requires-clause-table
places-requires-clause-table c =
    (is_at c.self.inside.tables.items c.args.self.now c.args.m c.index-table.result.now c.self.view_is c.self.invariant (within c.args.self.now c.args.m c.requires.map) c.index-table.ensures).table

pub returns-clause-places : goal.returns-clause-places
returns-clause-places c =
    let at = is_at c.self.inside.tables.items c.args.self.now c.args.m c.index-table.result.now c.self.view_is c.self.invariant (within c.args.self.now c.args.m c.requires.map) c.index-table.ensures in
    subst (λ o. IfSome o (λ (s : Stored). c.places.result ≡ length s.keys)) (sym at.there) c.places.ensures.places

pub returns-clause-entries : goal.returns-clause-entries
returns-clause-entries c =
    let at = is_at c.self.inside.tables.items c.args.self.now c.args.m c.index-table.result.now c.self.view_is c.self.invariant (within c.args.self.now c.args.m c.requires.map) c.index-table.ensures in
    of_shape (λ s. c.places.result ≡ entry_count s) c.args.self.now c.args.m (stored c.index-table.result.now) at.there c.places.ensures.entries
