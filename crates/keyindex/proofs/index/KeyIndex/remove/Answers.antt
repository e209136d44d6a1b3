use Rattle.std.proofs.Common.{refl, set, ap, sym, ◌∙◌, length, arith}
use Rattle.std.proofs.lemmas.List.{length-set}
use Rattle.keyindex.specs.Indexes.{key_of, key_at}
use Rattle.keyindex.specs.Places.{listed}
use Rattle.keyindex.proofs.Found.{cell_within}
use Rattle.keyindex.proofs.Leaves.{used_within}
use Rattle.keyindex.proofs.Parts.{byte_at}
use Rattle.keyindex.proofs.Taken.{stands_here}
use Rattle.keyindex.proofs.Dropped.{Drops, dropped, dropped_keys, some_place}
use Rattle.keyindex.proofs.index.KeyIndex.remove.Goals as goal
use Rattle.keyindex.proofs.index.KeyIndex.remove.Goals.{After-move_in}

pub index_mut-requires : goal.index_mut-requires
index_mut-requires c =
    let s = c.args.self.now in let leaf = c.leaf_below-leaf.result in
    let low = cell_within s.size s.buckets s.links.items s.depths.items s.keys.items s.free.items s.room (key_of s.size s.keys.items leaf.node) leaf.depth in
    let is = c.leaf_below-leaf.ensures.cell in let len = s.links.ok.0 in omega (arith, low, is, len)

pub index_mut-requires-3 : goal.index_mut-requires-3
index_mut-requires-3 c =
    let s = c.args.self.now in let leaf = c.leaf_below-leaf.result in
    let low = some_place s.depths.items s.free.items s.free_count leaf.node leaf.depth s.store c.leaf_below-leaf.ensures.depth in
    let len = s.free.ok.0 in omega (arith, low, len)

-- what is taken out, once the leaf's key is moved
drops : (c : After-move_in) → Drops c.args.self.now.size c.args.self.now.buckets c.args.self.now.links.items c.args.self.now.depths.items c.args.self.now.keys.items c.move_in.new.block.items c.args.self.now.free.items c.args.self.now.free_count c.find-spot.result.depth c.find-spot.result.node c.leaf_below-leaf.result.depth c.leaf_below-leaf.result.cell c.leaf_below-leaf.result.node
drops c =
    let s = c.args.self.now in let k = c.args.key.now in let spot = c.find-spot.result in let leaf = c.leaf_below-leaf.result in
    record {
      room = s.room;
      index = s.linked;
      store = s.store;
      depth = (s.linked.sound k spot.depth spot.node c.find-spot.ensures.node c.if-spot-eq0.false).0;
      leaf_depth = c.leaf_below-leaf.ensures.depth;
      cell_is = c.leaf_below-leaf.ensures.cell;
      over = c.leaf_below-leaf.ensures.over;
      leaf = c.leaf_below-leaf.ensures.leaf;
      wrote = record { len = c.move_in.ensures.len; inside = λ i low. c.move_in.ensures.inside i low ∙ sym (byte_at s.size s.keys.items leaf.node i low); below = c.move_in.ensures.below; above = c.move_in.ensures.above };
    }

pub invariant_of-self : goal.invariant_of-self
invariant_of-self c =
    let s = c.args.self.now in let spot = c.find-spot.result in let leaf = c.leaf_below-leaf.result in
    let all = dropped s.size s.buckets s.links.items s.depths.items s.keys.items c.move_in.new.block.items s.free.items s.free_count spot.depth spot.node leaf.depth leaf.cell leaf.node (drops (goal.at.invariant_of-self c).After-move_in) in
    record { room = all.room; linked = all.index; store = all.store }

pub returns : goal.returns
returns c =
    let s = c.args.self.now in let k = c.args.key.now in let spot = c.find-spot.result in let leaf = c.leaf_below-leaf.result in
    let drops = drops (goal.at.returns c).After-move_in in
    let some = c.if-spot-eq0.false in let low = c.leaf_below-leaf.ensures.some in
    let here = used_within s.depths.items spot.node spot.depth drops.depth in
    let len = s.room.free_len in
    let there = c.leaf_below-leaf.ensures.within in
    record {
      sizes = record { size_is = refl; places_are = length-set s.free.items s.free_count leaf.node; buckets_are = refl };
      place = (omega (arith, len, here, some), omega (arith, len, there, low));
      was = stands_here s.size s.depths.items s.keys.items k spot.node spot.depth some drops.depth (c.find-spot.ensures.found some);
      keys =
          ap (listed (key_at s.size (set s.depths.items leaf.node 0) c.move_in.new.block.items) 0) (length-set s.free.items s.free_count leaf.node)
          ∙ dropped_keys s.size s.buckets s.links.items s.depths.items s.keys.items c.move_in.new.block.items s.free.items s.free_count spot.depth spot.node leaf.depth leaf.cell leaf.node drops (omega (arith, some)) (omega (arith, low)) (length s.free.items) s.room.free_len;
      absent = tt;
      unchanged = tt;
    }
