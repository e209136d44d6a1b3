use Rattle.ownlock.proofs.Export.{stepped_by}
use Rattle.std.proofs.Common.{◌++◌, ◌∙◌, sym, ap, refl, subst}
use Rattle.std.specs.Prelude.{[]}
use Rattle.ownlock.specs.Invariant.{first_of, others_of}
use Rattle.ownlock.specs.Seats.{HoldsNone}
use Rattle.replica.specs.StoreMeaning.{store_meaning}
use Rattle.accounts.specs.Accounts.{IsAllowed}
use Rattle.accounts.specs.Moves.{IsAtRest}
use Rattle.store_steps.proofs.Handing.{allowed, has_posted_so, holds_none, may_hand, may_put, next_as, posts_so, taken, took_as}
use Rattle.store_steps.proofs.TakenDesk.{is_at, is_desk}
use Rattle.store_steps.proofs.passing.post_and_hand_on.Goals as goal

pub desk_mut-requires : goal.desk_mut-requires
desk_mut-requires c =
    let i = c.requires.has in
    record { desk = is_desk c.args.here.caller i.0 i.1 c.args.held.spot.place c.args.held.value (taken c.args.at.now c.args.here c.args.held i.0 i.1 i.2 c.requires.place) }

pub post-requires : goal.post-requires
post-requires c =
    let i = c.requires.has in
    let b = taken c.args.at.now c.args.here c.args.held i.0 i.1 i.2 c.requires.place in
    let may = allowed c.args.at.now c.args.here c.args.held i.0 i.1 i.2 c.requires.place c.args.op.now c.requires.update i.3.rests in
    record { own = (i.1, is_at c.args.here.caller i.0 i.1 c.args.held.spot.place c.args.held.value b c.desk_mut.result.now c.desk_mut.ensures.desk, (subst IsAtRest (sym b.note) i.3.rests, subst (λ z. IsAllowed store_meaning z c.args.op.now) b.extends.catalogue may)) }

pub join-requires-clause-idle : goal.join-requires-clause-idle
join-requires-clause-idle c = let n = c.requires.next in subst HoldsNone (sym n.1.is) (holds_none n.0 n.1.free.held)

pub hand_on-held-requires-clause-may : goal.hand_on-held-requires-clause-may
hand_on-held-requires-clause-may c =
    let i = c.requires.has in
    let n = c.requires.next in
    let both = c.join.ensures.joined ∙ (λ j. i.2.is j ++ n.1.is j) in (
      i.1,
      n.0,
      [],
      both,
      may_put c.args.at.now c.args.here c.args.held i.0 i.1 i.2 c.requires.place c.args.op.now c.requires.update i.3.rests c.desk_mut.result.now c.post.new.desk c.desk_mut.ensures.desk c.post.ensures.posted (first_of c.join.new.seat.sessions) (ap first_of both),
      may_hand c.args.at.now c.args.here c.args.held i.0 i.1 i.2 c.requires.place c.args.next n.0 n.1,
    )

pub split_off-done-requires-clause-some : goal.split_off-done-requires-clause-some
split_off-done-requires-clause-some c =
    let i = c.requires.has in
    let n = c.requires.next in
    let s = c.hand_on-held.ensures.handed i.1 n.0 [] (c.join.ensures.joined ∙ (λ j. i.2.is j ++ n.1.is j)) in
    (_, _, s.2.2.3)

pub split_off-done-requires-clause-idle : goal.split_off-done-requires-clause-idle
split_off-done-requires-clause-idle c =
    let i = c.requires.has in
    let n = c.requires.next in
    let both = c.join.ensures.joined ∙ (λ j. i.2.is j ++ n.1.is j) in
    let s = c.hand_on-held.ensures.handed i.1 n.0 [] both in
    let p = has_posted_so c.args.at.now c.args.here c.args.held i.0 i.1 i.2 c.requires.place c.args.op.now c.requires.update i.3.rests c.desk_mut.result.now c.post.new.desk c.desk_mut.ensures.desk c.post.ensures.posted (first_of c.join.new.seat.sessions) (ap first_of both) s.0 s.1.0 s.1.1 s.2.0 s.2.1 in
    subst HoldsNone (sym (ap others_of s.2.2.3)) (holds_none _ p.back.held)

pub returns-clause-handed : goal.returns-clause-handed
returns-clause-handed c k t m h alone next =
    let both = c.join.ensures.joined ∙ (λ j. h.is j ++ next.is j) in
    let s = c.hand_on-held.ensures.handed t m [] both in
    let x = c.desk_mut.result.now in
    let y = c.post.new.desk in
    let on = s.2.1 in
    let apart = c.split_off-done.ensures.apart _ _ s.2.2.3 in
    record {
      asked = _;
      posted = has_posted_so c.args.at.now c.args.here c.args.held k t h c.requires.place c.args.op.now c.requires.update alone.rests x y c.desk_mut.ensures.desk c.post.ensures.posted (first_of c.join.new.seat.sessions) (ap first_of both) s.0 s.1.0 s.1.1 s.2.0 on;
      posts = posts_so c.args.at.now c.args.here c.args.held k t h c.requires.place c.args.op.now c.requires.update alone.rests x y c.desk_mut.ensures.desk c.post.ensures.posted (first_of c.join.new.seat.sessions) (ap first_of both) s.0 s.1.0 s.1.1 s.2.0 on;
      handed = record {
        done_is = apart.0;
        put = (_, _, stepped_by t _ _ refl refl on);
        now = s.2.2.0;
        is = apart.1;
        took = took_as _ s.2.2.0 _ _ _ _ c.hand_on-held.ensures.same.1 c.hand_on-held.ensures.same.2 s.2.2.1;
        next = next_as s.2.0 s.2.2.0 _ _ _ _ c.hand_on-held.ensures.same.1 c.hand_on-held.ensures.same.2 s.2.2.2;
      };
    }
