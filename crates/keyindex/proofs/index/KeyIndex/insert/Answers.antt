use Rattle.std.proofs.Common.{◌≡◌, ◌≢◌, ◌+◌, ◌-◌, ◌<◌, ℕ, List, Option, refl, sym, ap, ◌∙◌, subst, arith, length, get_or, set, Some, None, true, false}
use Rattle.keyindex.specs.Indexes.{at, key_of, key_at, standing}
use Rattle.std.proofs.lemmas.List.{get_or_read}
use Rattle.keyindex.proofs.Found.{cell_within, key_within}
use Rattle.keyindex.proofs.Leaves.{used_within}
use Rattle.keyindex.proofs.Listed.{listed_set, keys_counted}
use Rattle.keyindex.proofs.Taken.{low_node, Takes, took, took_found, took_others, was_free, stands_no_more}
use Rattle.keyindex.proofs.index.KeyIndex.insert.Goals as goal
use Rattle.keyindex.proofs.index.KeyIndex.insert.Goals.{After-write_at}

not_false : true ≡ false → ⊥
not_false e = cc

no_key : (o : Option (List ℕ)) (k : List ℕ) → o ≡ None → o ≢ Some k
no_key o k e f = let no : None ≡ Some k = sym e ∙ f in cc

same_key : (o : Option (List ℕ)) (j k : List ℕ) → o ≡ Some j → o ≡ Some k → j ≡ k
same_key o j k e f = let both : Some j ≡ Some k = sym e ∙ f in cc

pub index_mut-requires-2 : goal.index_mut-requires-2
index_mut-requires-2 c =
    let s = c.args.self.now in
    let low = cell_within s.size s.buckets s.links.items s.depths.items s.keys.items s.free.items s.room c.args.key.now c.find-spot.result.depth in
    let is = c.find-spot.ensures.cell in let len = s.links.ok.0 in omega (arith, low, is, len)

-- what is taken, once the key's bytes are written
takes : (c : After-write_at) → 0 < c.args.self.now.free_count → Takes c.args.self.now.size c.args.self.now.buckets c.args.self.now.links.items c.args.self.now.depths.items c.args.self.now.keys.items c.write_at.new.block.items c.args.self.now.free.items c.args.self.now.free_count c.args.key.now c.find-spot.result.depth c.find-spot.result.cell c.index-node.result.now
takes c some =
    let s = c.args.self.now in let k = c.args.key.now in let spot = c.find-spot.result in let v = c.index-node.result.now in
    let none : spot.node ≡ 0 = c.if-spot-ne0.false in
    let within : s.free_count - 1 < length s.free.items = let p = s.store.within in omega (arith, p, some) in
    record {
      room = s.room;
      index = s.linked;
      store = s.store;
      some_free = some;
      last = get_or_read s.free.items (s.free_count - 1) v within c.index-node.ensures 0;
      length_is = c.requires.key;
      deep = c.find-spot.ensures.depth;
      cell_is = c.find-spot.ensures.cell;
      nowhere = c.find-spot.ensures.node ∙ none;
      before = c.find-spot.ensures.before none;
      absent = c.find-spot.ensures.absent none;
      wrote = record { len = c.write_at.ensures.len; inside = λ i low. c.write_at.ensures.inside i (let p = c.requires.key in omega (arith, p, low)); below = c.write_at.ensures.below; above = λ i low. c.write_at.ensures.above i (let p = c.requires.key in omega (arith, p, low)) };
    }

pub invariant_of-self : goal.invariant_of-self
invariant_of-self c =
    let s = c.args.self.now in let k = c.args.key.now in let spot = c.find-spot.result in let v = c.index-node.result.now in
    let some : 0 < s.free_count = let z = c.if-self-eq0.false in omega (arith, z) in
    let all = took s.size s.buckets s.links.items s.depths.items s.keys.items c.write_at.new.block.items s.free.items s.free_count k spot.depth spot.cell v (takes (goal.at.invariant_of-self c).After-write_at some) in
    record { room = all.room; linked = all.index; store = all.store }

pub returns : goal.returns
returns c =
    let s = c.args.self.now in let k = c.args.key.now in let spot = c.find-spot.result in let v = c.index-node.result.now in
    let some : 0 < s.free_count = let z = c.if-self-eq0.false in omega (arith, z) in
    let takes = takes (goal.at.returns c).After-write_at some in
    let node = low_node s.size s.buckets s.links.items s.depths.items s.keys.items c.write_at.new.block.items s.free.items s.free_count k spot.depth spot.cell v takes in
    let low : v - 1 < length s.free.items = let p = s.room.free_len in omega (arith, p, node.0, node.1) in
    record {
      sizes = record { size_is = refl; places_are = refl; buckets_are = refl };
      place = low;
      keys =
          listed_set (key_at s.size s.depths.items s.keys.items) (key_at s.size (set s.depths.items v (spot.depth + 1)) c.write_at.new.block.items) 0 (length s.free.items) (v - 1) (Some k) low
          (ap (key_at s.size (set s.depths.items v (spot.depth + 1)) c.write_at.new.block.items) (let e : 0 + (v - 1) ≡ v - 1 = omega arith in e) ∙ took_found s.size s.buckets s.links.items s.depths.items s.keys.items c.write_at.new.block.items s.free.items s.free_count k spot.depth spot.cell v takes)
          (λ q ne. took_others s.size s.buckets s.links.items s.depths.items s.keys.items c.write_at.new.block.items s.free.items s.free_count k spot.depth spot.cell v takes q (λ e. ne (omega (arith, e))));
      own = λ other e. absurd (no_key _ other (was_free s.size s.buckets s.links.items s.depths.items s.keys.items c.write_at.new.block.items s.free.items s.free_count k spot.depth spot.cell v takes) e);
      found = λ e. absurd (not_false e);
      kept = λ e. absurd (not_false e);
      new = λ _. stands_no_more s.size s.depths.items s.keys.items k (c.find-spot.ensures.absent c.if-spot-ne0.false);
      room = λ _.
          let counted = keys_counted s.size s.depths.items s.keys.items (length s.free.items) s.room.free_len s.linked.null in
          let all = s.store.all in omega (arith, counted, all, some);
      full = tt;
      absent = tt;
      unchanged = tt;
    }

pub returns-then-self-eq0-clause-full : goal.returns-then-self-eq0-clause-full
returns-then-self-eq0-clause-full c =
    let s = c.args.self.now in
    let counted = keys_counted s.size s.depths.items s.keys.items (length s.free.items) s.room.free_len s.linked.null in
    let all = s.store.all in let none = c.if-self-eq0.true in
    omega (arith, counted, all, none)

pub returns-then-self-eq0-clause-absent : goal.returns-then-self-eq0-clause-absent
returns-then-self-eq0-clause-absent c =
    let s = c.args.self.now in
    stands_no_more s.size s.depths.items s.keys.items c.args.key.now (c.find-spot.ensures.absent c.if-spot-ne0.false)

pub returns-then-spot-ne0 : goal.returns-then-spot-ne0
returns-then-spot-ne0 c =
    let s = c.args.self.now in let k = c.args.key.now in let n = c.find-spot.result.node in
    let f = key_at s.size s.depths.items s.keys.items in
    let some = c.if-spot-ne0.true in
    let used = (s.linked.sound k c.find-spot.result.depth n c.find-spot.ensures.node some).0 in
    let within = used_within s.depths.items n c.find-spot.result.depth used in
    let low : n - 1 < length s.free.items = let p = s.room.free_len in omega (arith, p, within, some) in
    let e : n - 1 + 1 ≡ n = omega (arith, some) in
    let is : f (n - 1) ≡ Some k = ap (λ i. standing (at s.depths.items i) (key_of s.size s.keys.items i)) e ∙ (ap (λ d. standing d (key_of s.size s.keys.items n)) used ∙ ap Some (c.find-spot.ensures.found some)) in
    record {
      sizes = record { size_is = refl; places_are = refl; buckets_are = refl };
      place = low;
      keys = listed_set f f 0 (length s.free.items) (n - 1) (Some k) low (ap f (let z : 0 + (n - 1) ≡ n - 1 = omega arith in z) ∙ is) (λ q ne. refl);
      own = λ other q. same_key _ other k q is;
      found = λ _. is;
      kept = λ _. refl;
      new = λ e. absurd (not_false (sym e));
      room = λ e. absurd (not_false (sym e));
      full = tt;
      absent = tt;
      unchanged = tt;
    }

pub write_at-requires : goal.write_at-requires
write_at-requires c =
    let s = c.args.self.now in let v = c.index-node.result.now in
    let some : 0 < s.free_count = let z = c.if-self-eq0.false in omega (arith, z) in
    let within : s.free_count - 1 < length s.free.items = let p = s.store.within in omega (arith, p, some) in
    let last : v ≡ get_or s.free.items (s.free_count - 1) 0 = get_or_read s.free.items (s.free_count - 1) v within c.index-node.ensures 0 in
    let low : v < length s.depths.items = subst (λ n. n < length s.depths.items) (sym last) (s.store.high (s.free_count - 1) (omega (arith, some))) in
    let it = key_within s.size s.buckets s.links.items s.depths.items s.keys.items s.free.items s.room v low in
    let ok = s.keys.ok.0 in let lk = c.requires.key in omega (arith, it.0, ok, lk)

pub index_mut-requires : goal.index_mut-requires
index_mut-requires c =
    let s = c.args.self.now in let v = c.index-node.result.now in
    let some : 0 < s.free_count = let z = c.if-self-eq0.false in omega (arith, z) in
    let within : s.free_count - 1 < length s.free.items = let p = s.store.within in omega (arith, p, some) in
    let last : v ≡ get_or s.free.items (s.free_count - 1) 0 = get_or_read s.free.items (s.free_count - 1) v within c.index-node.ensures 0 in
    let low : v < length s.depths.items = subst (λ n. n < length s.depths.items) (sym last) (s.store.high (s.free_count - 1) (omega (arith, some))) in
    let ok = s.depths.ok.0 in omega (arith, low, ok)
