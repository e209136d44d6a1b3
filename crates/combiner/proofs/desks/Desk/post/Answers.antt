use Rattle.std.proofs.Common.{◌≤◌, length, arith}
use Rattle.combiner.specs.Slots.{is_posted}
use Rattle.combiner.proofs.Placed.{place_there, post_place, posts_there, placed_put, slots_posted}
use Rattle.combiner.proofs.Counts.{number_few, post_kept}
use Rattle.combiner.proofs.desks.Desk.post.Goals as goal

pub overflow_add-self : goal.overflow_add-self
overflow_add-self c =
    let a = c.self.inside in
    let is = c.self.invariant in
    let most = is.1 in
    let fits : a.count ≤ length a.places = omega (arith, most) in
    let few = number_few is_posted a a.posted_count fits is.2 in
    omega (arith, most, few)

pub invariant_of-self-2 : goal.invariant_of-self-2
invariant_of-self-2 c =
    let a = c.self.inside in
    let is = c.self.invariant in
    let most = is.1 in
    let fits : a.count ≤ length a.places = omega (arith, most) in
    let put = slots_posted a _ c.args.slot c.post.new.self c.post.new.beside.items fits is.4 c.in_ok-post.ensures.apart in
    let kept = post_kept a _ c.args.slot _ _ c.args.self.now c.args.op.now (c.self.view_is, fits, c.requires.slot, (is.0, is.1, is.2, is.3)) put c.in_ok-post.ensures.posted in
    let own = c.in_ok-post.ensures.own in
    let room = is.5 in
    let more = c.in_ok-post.ensures.capacity in (
      kept.0,
      kept.1,
      kept.2,
      kept.3,
      placed_put a _ c.args.slot (length c.post.new.beside.items) c.post.new.self fits c.in_ok-post.ensures.longer own is.4,
      omega (arith, room, more),
    )

pub returns-clause-posted : goal.returns-clause-posted
returns-clause-posted c =
    let a = c.self.inside in
    let is = c.self.invariant in
    let most = is.1 in
    let fits : a.count ≤ length a.places = omega (arith, most) in
    let here = place_there a c.args.slot _ c.args.self.now c.self.view_is c.requires.slot in
    let put = post_place a _ c.args.slot c.post.new.self c.post.new.beside.items c.args.self.now c.self.view_is fits is.4 c.in_ok-post.ensures.apart in
    posts_there c.args.self.now _ c.args.slot c.args.op.now _ _ here put c.in_ok-post.ensures.posted
