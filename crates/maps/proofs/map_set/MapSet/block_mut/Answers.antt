use Rattle.std.proofs.Common.{◌≡◌, ◌*◌, length, take, refl, sym, ap, ◌∙◌, subst}
use Rattle.std.specs.Prelude.{IfSome, Some, slice_get}
use Rattle.std.proofs.Math.Seq.{take-length}
use Rattle.maps.specs.Shapes.{value_size}
use Rattle.maps.specs.MapSets.{HoldsValues, write_block, write_over, maps_of, put_value, stored_shapes}
use Rattle.maps.specs.Blocks.{stored}
use Rattle.maps.proofs.Stored.{within, is_at, of_shape, many_tables}
use Rattle.maps.proofs.WholeBlocks.{block_is, holds_values, full_block, view_block, block_written, value_put, other_blocks_kept, places_kept, block_shapes_kept}
use Rattle.maps.proofs.map_set.MapSet.block_mut.Goals as goal

pub invariant_of-self-lent : goal.invariant_of-self-lent
invariant_of-self-lent c w =
    full_block c.self.inside.tables.items c.args.self.now c.args.m c.index_mut-table.result.now 0 w c.self.view_is c.self.invariant (within c.args.self.now c.args.m c.requires.map) c.index_mut-table.ensures.value

pub returns : goal.returns
returns c =
    let ts = c.self.inside.tables.items in
    let t = c.index_mut-table.result.now in
    let m = c.args.m in
    let before = c.args.self.now in
    let lent = c.bytes_mut.result.now in
    let inside = within before m c.requires.map in
    let at = c.index_mut-table.ensures.value in
    let is = is_at ts before m t c.self.view_is c.self.invariant inside at in
    let there = is.there in
    let all : lent ≡ t.block.items = c.bytes_mut.ensures.value ∙ (ap (λ n. take n t.block.items) (c.len-len.ensures ∙ t.block.ok.0) ∙ take-length t.block.items) in (
      (refl, λ w. view_block ts before m t w c.self.view_is (many_tables ts before m c.self.view_is inside) at),
      record {
        writes_back = tt;
        block = block_is before m (stored t) there ∙ ap Some (sym all);
        size = of_shape _ before m (stored t) there (ap length all ∙ is.table.full);
        values = subst (HoldsValues before m) (sym all) (holds_values ts before m t c.self.view_is c.self.invariant inside at);
        written = λ w same. block_written before m (stored t) w there (same ∙ ap length all);
        one_value = λ key v e same has.
            subst (λ b. IfSome (slice_get (stored_shapes before) m) (λ s. length v ≡ value_size s → maps_of (write_block before m (write_over b (e.place * value_size s) v)) ≡ put_value (maps_of before) m key v)) (sym all)
            (value_put ts before m t key v e c.self.view_is c.self.invariant inside at same has);
        others = λ w n ne. other_blocks_kept before m w n ne;
        places = λ w e. places_kept before m w e;
        shapes = λ w. block_shapes_kept before m w;
      },
    )
