use Rattle.std.proofs.Common.{◌≡◌, ◌∙◌, length, ap, subst, sym}
use Rattle.std.specs.Prelude.{slice_get}
use Rattle.std.specs.FinMap as finite_map
use Rattle.maps.specs.Shapes.{key_size, value_size}
use Rattle.maps.specs.Maps.{HasShapes, MapState}
use Rattle.maps.specs.MapSets.{maps_of, entries_of, stored_shapes}
use Rattle.maps.specs.Blocks.{stored}
use Rattle.maps.proofs.Stored.{within, many_tables, table_at, for_shape}
use Rattle.maps.proofs.Written.{kept_shapes, tables_kept, view_exchanged, maps_exchanged, others_kept}
use Rattle.maps.proofs.TableKeys.{room_for}
use Rattle.maps.proofs.Kept.{are_bytes, fits_room, put_has_shapes}
use Rattle.maps.proofs.map_set.MapSet.update.Goals as goal

pub put-requires-clause-shape : goal.put-requires-clause-shape
put-requires-clause-shape c =
    let ts = c.self.inside.tables.items in let t = c.index_mut-table.result.now in
    let before = c.args.self.now in let m = c.args.m in
    let e = c.index_mut-table.ensures.value in
    let at = table_at ts before m t c.self.view_is c.self.invariant c.requires.map e in
    at.ok

pub put-requires-clause-key : goal.put-requires-clause-key
put-requires-clause-key c =
    let ts = c.self.inside.tables.items in let t = c.index_mut-table.result.now in
    let before = c.args.self.now in let m = c.args.m in
    let e = c.index_mut-table.ensures.value in
    let at = table_at ts before m t c.self.view_is c.self.invariant c.requires.map e in
    for_shape (λ s. length c.args.key.now ≡ key_size s) before m (stored t) at.there c.requires.key

pub put-requires-clause-value : goal.put-requires-clause-value
put-requires-clause-value c =
    let ts = c.self.inside.tables.items in let t = c.index_mut-table.result.now in
    let before = c.args.self.now in let m = c.args.m in
    let e = c.index_mut-table.ensures.value in
    let at = table_at ts before m t c.self.view_is c.self.invariant c.requires.map e in
    for_shape (λ s. length c.args.value.now ≡ value_size s) before m (stored t) at.there c.requires.value

pub put-requires-clause-room : goal.put-requires-clause-room
put-requires-clause-room c =
    let ts = c.self.inside.tables.items in let t = c.index_mut-table.result.now in
    let before = c.args.self.now in let m = c.args.m in
    let e = c.index_mut-table.ensures.value in
    let at = table_at ts before m t c.self.view_is c.self.invariant c.requires.map e in
    room_for before m t c.args.key.now at c.requires.room

pub invariant_of-self : goal.invariant_of-self
invariant_of-self c =
    tables_kept c.self.inside.tables.items c.args.m c.index_mut-table.result.now c.put.new.self c.self.invariant c.index_mut-table.ensures.value c.put.ensures.shape c.put.ensures.table

pub returns-clause-updated : goal.returns-clause-updated
returns-clause-updated c =
    let ts = c.self.inside.tables.items in let t = c.index_mut-table.result.now in
    let before = c.args.self.now in let m = c.args.m in
    let e = c.index_mut-table.ensures.value in
    let at = table_at ts before m t c.self.view_is c.self.invariant c.requires.map e in
    let u = c.put.new.self in
    ap maps_of (view_exchanged ts before m t u c.self.view_is (many_tables ts before m c.self.view_is (within before m c.requires.map)) e)
    ∙ maps_exchanged before m t u (λ (s : MapState). record { shape = s.shape; entries = finite_map.insert s.entries c.args.key.now c.args.value.now }) at
    (ap (λ k. record { shape = k; entries = entries_of (stored u) }) c.put.ensures.shape ∙ ap (λ x. record { shape = t.shape; entries = x }) c.put.ensures.entries)

pub returns-clause-others : goal.returns-clause-others
returns-clause-others c = λ n ne.
    let ts = c.self.inside.tables.items in let t = c.index_mut-table.result.now in
    let before = c.args.self.now in let m = c.args.m in
    let e = c.index_mut-table.ensures.value in
    let u = c.put.new.self in
    ap (λ x. slice_get x n) (view_exchanged ts before m t u c.self.view_is (many_tables ts before m c.self.view_is (within before m c.requires.map)) e) ∙ others_kept _ before m n ne

pub returns-clause-shapes : goal.returns-clause-shapes
returns-clause-shapes c =
    kept_shapes c.self.inside.tables.items c.args.m c.index_mut-table.result.now c.put.new.self c.index_mut-table.ensures.value c.put.ensures.shape ∙ ap stored_shapes c.self.view_is

pub returns-clause-maps : goal.returns-clause-maps
returns-clause-maps c = λ shapes has.
    let before = c.args.self.now in
    let m = c.args.m in
    let key = c.args.key.now in
    let value = c.args.value.now in
    let fits = fits_room before m key value c.requires.room (are_bytes key c.type_inv.key) (are_bytes value c.type_inv.value) c.requires.key c.requires.value in
    subst (HasShapes shapes) (sym (returns-clause-updated c)) (put_has_shapes (maps_of before) m key value fits shapes has)
