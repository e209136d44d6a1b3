use Rattle.std.proofs.Common.{rules, ◌<◌, ◌∷◌, [], List, length, length-append, refl, sym, ap, ◌∙◌, subst, arith}
use Rattle.loader.specs.Installed.{InstalledView}
use Rattle.store_steps.specs.declared.pipelines.Member.{Member}
use Rattle.store.proofs.Ascending.{Joining, all_joined, first_out, joining_first, joining_more, none_left}
use Rattle.store.proofs.pipeline.joined.Goals as goal

pub loop-session-init : goal.loop-session-init
loop-session-init c = record {
  joining = joining_first c.args.sessions.items c.args.members.items c.args.rooms.items c.requires.empty.0 c.requires.empty.1;
  left = search rules;
  total = search rules;
  came = (ap length c.requires.empty.0, ap length c.requires.empty.1);
  space = (refl, refl);
  kept = refl;
}

pub loop-session-preserved : goal.loop-session-preserved
loop-session-preserved c =
    let i = c.loop-session.invariant in
    let left = i.left in
    let more = c.loop-session-test.true in
    let some : 0 < length c.loop-session.sessions.items = omega (arith, left, more) in
    let is = first_out c.loop-session.sessions.items c.remove.new.self.items c.remove.result some c.remove.ensures.value c.remove.ensures.items in
    let fewer = ap length is in
    let wider = ap length c.push_reserved.ensures.items ∙ length-append c.loop-session.members.items (_ ∷ []) in
    let roomier = ap length c.push_reserved-in-loop-session.ensures.items ∙ length-append c.loop-session.rooms.items (_ ∷ []) in
    let came = i.came.0 in
    let roomed = i.came.1 in
    record {
      joining = subst (λ (z : List Member × List InstalledView). Joining c.args.sessions.items z.0 z.1 c.remove.new.self.items) (λ j. ((sym c.push_reserved.ensures.items) j, (sym c.push_reserved-in-loop-session.ensures.items) j))
          (joining_more c.args.sessions.items c.loop-session.members.items c.loop-session.rooms.items c.loop-session.sessions.items c.remove.new.self.items c.remove.result c.into_room-seat.result.0 c.into_room-seat.result.1 c.into_room-seat.result.2 i.joining is c.into_room-seat.ensures.shelf c.into_room-seat.ensures.known
          c.into_room-seat.ensures.idle c.into_room-seat.ensures.room);
      left = omega (arith, left, fewer);
      total = i.total;
      came = (omega (arith, wider, came), omega (arith, roomier, roomed));
      space = (c.push_reserved.ensures.capacity ∙ i.space.0, c.push_reserved-in-loop-session.ensures.capacity ∙ i.space.1);
      kept = c.remove.ensures.capacity ∙ i.kept;
    }

pub invariant_of-result : goal.invariant_of-result
invariant_of-result c =
    let i = c.loop-session.invariant in
    let left = i.left in
    let past = c.loop-session-test.false in
    let none = none_left c.loop-session.sessions.items (omega (arith, left, past)) in
    let total = i.total in
    let came = i.came.0 in
    let kept = i.kept in
    let holds = c.args.sessions.ok.0 in (
      (all_joined c.args.store.now c.args.sessions.items c.loop-session.members.items c.loop-session.rooms.items c.loop-session.sessions.items i.joining none c.requires.own c.requires.ascending c.requires.few).0,
      none,
      omega (arith, left, past, total, came, kept, holds),
      (let roomy = i.space.0 in let space = c.requires.space.0 in omega (arith, roomy, space)),
      (let roomy = i.space.1 in let space = c.requires.space.1 in omega (arith, roomy, space)),
    )
