use Rattle.std.proofs.Common.{◌≡◌, ◌∙◌, length, ap, subst, sym}
use Rattle.std.specs.Prelude.{slice_get}
use Rattle.std.specs.FinMap as finite_map
use Rattle.maps.specs.Shapes.{key_size, IsHash}
use Rattle.maps.specs.Maps.{HasShapes, MapState}
use Rattle.maps.specs.MapSets.{maps_of, entries_of, stored_shapes}
use Rattle.maps.specs.Blocks.{stored}
use Rattle.maps.proofs.Stored.{within, many_tables, table_at, for_shape}
use Rattle.maps.proofs.Written.{kept_shapes, tables_kept, view_exchanged, maps_exchanged, others_kept}
use Rattle.maps.proofs.Exchanged.{exchanged, was_there, exchanged_stored}
use Rattle.maps.proofs.Kept.{of_map, take_has_shapes}
use Rattle.maps.proofs.map_set.MapSet.remove.Goals as goal

pub take_out-requires-clause-shape : goal.take_out-requires-clause-shape
take_out-requires-clause-shape c =
    let ts = c.self.inside.tables.items in let t = c.index_mut-table.result.now in
    let before = c.args.self.now in let m = c.args.m in
    let e = c.index_mut-table.ensures.value in
    let at = table_at ts before m t c.self.view_is c.self.invariant c.requires.map e in
    at.ok

pub take_out-requires-clause-key : goal.take_out-requires-clause-key
take_out-requires-clause-key c =
    let ts = c.self.inside.tables.items in let t = c.index_mut-table.result.now in
    let before = c.args.self.now in let m = c.args.m in
    let e = c.index_mut-table.ensures.value in
    let at = table_at ts before m t c.self.view_is c.self.invariant c.requires.map e in
    for_shape (λ s. length c.args.key.now ≡ key_size s) before m (stored t) at.there c.requires.key

pub take_out-requires-clause-hash : goal.take_out-requires-clause-hash
take_out-requires-clause-hash c =
    let ts = c.self.inside.tables.items in let t = c.index_mut-table.result.now in
    let before = c.args.self.now in let m = c.args.m in
    let e = c.index_mut-table.ensures.value in
    let at = table_at ts before m t c.self.view_is c.self.invariant c.requires.map e in
    for_shape IsHash before m (stored t) at.there c.requires.hash

pub invariant_of-self : goal.invariant_of-self
invariant_of-self c =
    tables_kept c.self.inside.tables.items c.args.m c.index_mut-table.result.now c.take_out.new.self c.self.invariant c.index_mut-table.ensures.value c.take_out.ensures.shape c.take_out.ensures.table

pub returns-clause-removed : goal.returns-clause-removed
returns-clause-removed c =
    let ts = c.self.inside.tables.items in let t = c.index_mut-table.result.now in
    let before = c.args.self.now in let m = c.args.m in
    let e = c.index_mut-table.ensures.value in
    let at = table_at ts before m t c.self.view_is c.self.invariant c.requires.map e in
    let u = c.take_out.new.self in
    ap maps_of (view_exchanged ts before m t u c.self.view_is (many_tables ts before m c.self.view_is (within before m c.requires.map)) e)
    ∙ maps_exchanged before m t u (λ (s : MapState). record { shape = s.shape; entries = finite_map.remove s.entries c.args.key.now }) at
    (ap (λ k. record { shape = k; entries = entries_of (stored u) }) c.take_out.ensures.shape ∙ ap (λ x. record { shape = t.shape; entries = x }) c.take_out.ensures.entries)

pub returns-clause-others : goal.returns-clause-others
returns-clause-others c = λ n ne.
    let ts = c.self.inside.tables.items in let t = c.index_mut-table.result.now in
    let before = c.args.self.now in let m = c.args.m in
    let e = c.index_mut-table.ensures.value in
    let u = c.take_out.new.self in
    ap (λ x. slice_get x n) (view_exchanged ts before m t u c.self.view_is (many_tables ts before m c.self.view_is (within before m c.requires.map)) e) ∙ others_kept _ before m n ne

pub returns-clause-shapes : goal.returns-clause-shapes
returns-clause-shapes c =
    kept_shapes c.self.inside.tables.items c.args.m c.index_mut-table.result.now c.take_out.new.self c.index_mut-table.ensures.value c.take_out.ensures.shape ∙ ap stored_shapes c.self.view_is

pub returns-clause-was : goal.returns-clause-was
returns-clause-was c =
    let ts = c.self.inside.tables.items in let t = c.index_mut-table.result.now in
    let before = c.args.self.now in let m = c.args.m in let key = c.args.key.now in
    let e = c.index_mut-table.ensures.value in
    let at = table_at ts before m t c.self.view_is c.self.invariant c.requires.map e in
    was_there before m t key c.take_out.result at c.take_out.ensures.was c.take_out.ensures.absent

pub returns-clause-unchanged : goal.returns-clause-unchanged
returns-clause-unchanged c =
    let ts = c.self.inside.tables.items in let t = c.index_mut-table.result.now in let u = c.take_out.new.self in
    let before = c.args.self.now in let m = c.args.m in
    let e = c.index_mut-table.ensures.value in
    let x = exchanged ts before m t u c.self.view_is c.self.invariant c.requires.map e in
    λ gone. exchanged_stored ts before m t u x (c.take_out.ensures.unchanged gone)

pub returns-clause-maps : goal.returns-clause-maps
returns-clause-maps c = λ shapes has.
    let before = c.args.self.now in
    let m = c.args.m in
    subst (HasShapes shapes) (sym (returns-clause-removed c)) (take_has_shapes (maps_of before) m c.args.key.now (λ s there. of_map IsHash before m s there c.requires.hash) shapes has)
