use Rattle.std.proofs.Common.{rules, ◌<◌, ◌∷◌, [], length, length-append, ap, ◌∙◌, subst, arith}
use Rattle.store.proofs.Ascending.{Leaving, at_read, first_out, leaving_first, leaving_more}
use Rattle.store.proofs.pipeline.Pipeline.into_sessions.Goals as goal

pub loop-member-init : goal.loop-member-init
loop-member-init c = record {
  leaving = subst (λ z. Leaving z c.self.inside.emptied.items c.self.inside.members.items c.self.inside.rooms.items) c.self.view_is (leaving_first c.self.inside.members.items c.self.inside.rooms.items c.self.inside.emptied.items c.self.invariant.0 c.self.invariant.1);
  left = search rules;
  gone = ap length c.self.invariant.1;
  space = search rules;
}

pub new-requires-clause-idle : goal.new-requires-clause-idle
new-requires-clause-idle c =
    let left = c.loop-member.invariant.left in
    let more = c.loop-member-test.true in
    let some : 0 < length c.loop-member.members.items = omega (arith, left, more) in
    c.loop-member.invariant.leaving.members.idle 0 c.remove-seat.result (at_read c.loop-member.members.items 0 c.remove-seat.result some c.remove-seat.ensures.value)

pub new-requires-clause-room : goal.new-requires-clause-room
new-requires-clause-room c =
    let left = c.loop-member.invariant.left in
    let more = c.loop-member-test.true in
    let count = c.loop-member.invariant.leaving.members.count in
    let some : 0 < length c.loop-member.members.items = omega (arith, left, more) in
    let there : 0 < length c.loop-member.rooms.items = omega (arith, left, more, count) in
    c.loop-member.invariant.leaving.members.rooms_are 0 c.remove-seat.result c.remove.result (at_read c.loop-member.members.items 0 c.remove-seat.result some c.remove-seat.ensures.value)
    (at_read c.loop-member.rooms.items 0 c.remove.result there c.remove.ensures.value)

pub loop-member-preserved : goal.loop-member-preserved
loop-member-preserved c =
    let i = c.loop-member.invariant in
    let left = i.left in
    let more = c.loop-member-test.true in
    let count = i.leaving.members.count in
    let some : 0 < length c.loop-member.members.items = omega (arith, left, more) in
    let there : 0 < length c.loop-member.rooms.items = omega (arith, left, more, count) in
    let is = first_out c.loop-member.members.items c.remove-seat.new.self.items c.remove-seat.result some c.remove-seat.ensures.value c.remove-seat.ensures.items in
    let room_is = first_out c.loop-member.rooms.items c.remove.new.self.items c.remove.result there c.remove.ensures.value c.remove.ensures.items in
    let fewer = ap length is in
    let wider = ap length c.push_reserved.ensures.items ∙ length-append c.loop-member.sessions.items (c.new.result ∷ []) in
    let gone = i.gone in
    let space = i.space in
    let kept = c.push_reserved.ensures.capacity in
    record {
      leaving = leaving_more c.args.self c.loop-member.sessions.items c.push_reserved.new.self.items c.remove-seat.result c.remove-seat.new.self.items c.remove.result c.remove.new.self.items c.new.result
          (subst (λ z. Leaving c.args.self c.loop-member.sessions.items z (c.remove.result ∷ c.remove.new.self.items)) is (subst (λ z. Leaving c.args.self c.loop-member.sessions.items c.loop-member.members.items z) room_is i.leaving)) c.new.ensures.session c.push_reserved.ensures.items;
      left = omega (arith, left, fewer);
      gone = omega (arith, wider, gone);
      space = omega (arith, space, kept);
    }
