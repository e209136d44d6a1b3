use Rattle.std.proofs.Common.{◌≤◌, arith, length}
use Rattle.combiner.proofs.Placed.{place_there, put_place, collects_there, low_in, placed_still}
use Rattle.combiner.proofs.Counts.{collect_kept}
use Rattle.combiner.proofs.desks.Desk.collect.Goals as goal

pub collect-requires : goal.collect-requires
collect-requires c = record {
  countable = c.requires.countable _ (place_there c.self.inside c.args.slot _ c.args.self.now c.self.view_is c.requires.slot);
}

pub invariant_of-self : goal.invariant_of-self
invariant_of-self c =
    let is = c.self.invariant in
    let a = c.self.inside in
    let few = is.1 in
    let fits : a.count ≤ length a.places = omega (arith, few) in
    let kept = collect_kept a _ c.args.slot _ c.collect.new.self c.args.self.now c.collect.result (c.self.view_is, fits, c.requires.slot, (is.0, is.1, is.2, is.3)) (c.collect.ensures.answer a.beside.items) (c.collect.ensures.collected a.beside.items) in
    let low = low_in a c.args.slot c.args.self.now c.self.view_is fits c.requires.slot in
    (kept.0, kept.1, kept.2, kept.3, placed_still a _ c.args.slot _ c.collect.new.self fits low c.collect.ensures.op is.4, is.5)

pub returns : goal.returns
returns c =
    let a = c.self.inside in
    let most = c.self.invariant.1 in
    let fits : a.count ≤ length a.places = omega (arith, most) in
    let here = place_there a c.args.slot _ c.args.self.now c.self.view_is c.requires.slot in
    let put = put_place a _ c.args.slot c.collect.new.self c.args.self.now c.self.view_is fits in
    record { collected = collects_there a.beside.items c.collect.result c.args.self.now _ c.args.slot _ c.collect.new.self here put (c.collect.ensures.answer a.beside.items) (c.collect.ensures.collected a.beside.items) }
