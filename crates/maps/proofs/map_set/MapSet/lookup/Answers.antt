use Rattle.std.proofs.Common.{◌≡◌, true, false, length, refl, ap}
use Rattle.std.specs.Prelude.{is_some}
use Rattle.maps.specs.Shapes.{key_size}
use Rattle.maps.specs.Blocks.{stored}
use Rattle.maps.proofs.Stored.{within, is_at, of_shape, for_shape, below, key_stands, present, missing, both}
use Rattle.maps.proofs.map_set.MapSet.lookup.Goals as goal

pub find-requires-clause-shape : goal.find-requires-clause-shape
find-requires-clause-shape c = (is_at c.self.inside.tables.items c.args.self.now c.args.m c.index.result.now c.self.view_is c.self.invariant (within c.args.self.now c.args.m c.requires.map) c.index.ensures).ok

pub find-requires-clause-key : goal.find-requires-clause-key
find-requires-clause-key c =
    let t = c.index.result.now in
    let at = is_at c.self.inside.tables.items c.args.self.now c.args.m t c.self.view_is c.self.invariant (within c.args.self.now c.args.m c.requires.map) c.index.ensures in
    for_shape (λ s. length c.args.key.now ≡ key_size s) c.args.self.now c.args.m (stored t) at.there c.requires.key

pub returns-in_err-place-clause-absent : goal.returns-in_err-place-clause-absent
returns-in_err-place-clause-absent c =
    let t = c.index.result.now in
    let at = is_at c.self.inside.tables.items c.args.self.now c.args.m t c.self.view_is c.self.invariant (within c.args.self.now c.args.m c.requires.map) c.index.ensures in
    both _ _ false (ap is_some c.from_residual.ensures) (ap is_some (missing c.args.self.now c.args.m t c.args.key.now at c.in_err-place.ensures.absent))

pub returns-clause-found : goal.returns-clause-found
returns-clause-found c =
    let t = c.index.result.now in
    let at = is_at c.self.inside.tables.items c.args.self.now c.args.m t c.self.view_is c.self.invariant (within c.args.self.now c.args.m c.requires.map) c.index.ensures in
    (refl, key_stands c.args.self.now c.args.m c.in_ok-place.place t c.args.key.now at c.in_ok-place.ensures.found)

pub returns-clause-place : goal.returns-clause-place
returns-clause-place c =
    let t = c.index.result.now in
    let at = is_at c.self.inside.tables.items c.args.self.now c.args.m t c.self.view_is c.self.invariant (within c.args.self.now c.args.m c.requires.map) c.index.ensures in
    of_shape _ c.args.self.now c.args.m (stored t) at.there (below t.shape t.index c.in_ok-place.place c.args.key.now at.table.index c.in_ok-place.ensures.found)

pub returns-clause-absent : goal.returns-clause-absent
returns-clause-absent c =
    let t = c.index.result.now in
    let at = is_at c.self.inside.tables.items c.args.self.now c.args.m t c.self.view_is c.self.invariant (within c.args.self.now c.args.m c.requires.map) c.index.ensures in
    both true _ true refl (ap is_some (present c.args.self.now c.args.m c.in_ok-place.place t c.args.key.now at c.in_ok-place.ensures.found))
