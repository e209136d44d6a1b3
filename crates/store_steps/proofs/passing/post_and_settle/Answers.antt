use Rattle.ownlock.proofs.Export.{stepped_by}
use Rattle.std.proofs.Common.{sym, refl, subst}
use Rattle.replica.specs.StoreMeaning.{store_meaning}
use Rattle.accounts.specs.Accounts.{IsAllowed}
use Rattle.accounts.specs.Moves.{IsAtRest}
use Rattle.store_steps.proofs.PutBack.{took_last}
use Rattle.store_steps.proofs.Handing.{allowed, free_so, has_posted_so, may_put, next_as, on_so, posts_so, taken, took_as}
use Rattle.store_steps.proofs.TakenDesk.{is_at, is_desk}
use Rattle.store_steps.proofs.passing.post_and_settle.Goals as goal

pub desk_mut-requires : goal.desk_mut-requires
desk_mut-requires c =
    let i = c.requires.has in
    record { desk = is_desk c.args.here.caller i.0 i.1 c.args.held.spot.place c.args.held.value (taken c.args.seat.now c.args.here c.args.held i.0 i.1 i.2 c.requires.place) }

pub post-requires : goal.post-requires
post-requires c =
    let i = c.requires.has in
    let b = taken c.args.seat.now c.args.here c.args.held i.0 i.1 i.2 c.requires.place in
    let may = allowed c.args.seat.now c.args.here c.args.held i.0 i.1 i.2 c.requires.place c.args.op.now c.requires.update i.3.rests in
    record { own = (i.1, is_at c.args.here.caller i.0 i.1 c.args.held.spot.place c.args.held.value b c.desk_mut.result.now c.desk_mut.ensures.desk, (subst IsAtRest (sym b.note) i.3.rests, subst (λ z. IsAllowed store_meaning z c.args.op.now) b.extends.catalogue may)) }

pub settle-requires-clause-may : goal.settle-requires-clause-may
settle-requires-clause-may c =
    let i = c.requires.has in (
      i.1,
      i.2.is,
      may_put c.args.seat.now c.args.here c.args.held i.0 i.1 i.2 c.requires.place c.args.op.now c.requires.update i.3.rests c.desk_mut.result.now c.post.new.desk c.desk_mut.ensures.desk c.post.ensures.posted c.args.seat.now.sessions i.2.is,
      took_last c.args.here.caller i.0 i.1 c.args.held.spot.place c.args.held.value (taken c.args.seat.now c.args.here c.args.held i.0 i.1 i.2 c.requires.place),
    )

pub returns-clause-kept : goal.returns-clause-kept
returns-clause-kept c k t h alone =
    let s = c.settle.ensures.settled t h.is in
    let x = c.desk_mut.result.now in
    let y = c.post.new.desk in
    let on = s.2.1 in
    record {
      asked = _;
      posted = has_posted_so c.args.seat.now c.args.here c.args.held k t h c.requires.place c.args.op.now c.requires.update alone.rests x y c.desk_mut.ensures.desk c.post.ensures.posted c.args.seat.now.sessions h.is s.0 s.1.0 s.1.1 s.2.0 on;
      posts = posts_so c.args.seat.now c.args.here c.args.held k t h c.requires.place c.args.op.now c.requires.update alone.rests x y c.desk_mut.ensures.desk c.post.ensures.posted c.args.seat.now.sessions h.is s.0 s.1.0 s.1.1 s.2.0 on;
      put = (_, _, stepped_by t _ _ refl refl on);
      now = s.2.2.0;
      has = record {
        is = s.2.2.2;
        free = free_so c.args.seat.now c.args.here c.args.held k t h c.requires.place c.args.op.now c.requires.update alone.rests x y c.desk_mut.ensures.desk c.post.ensures.posted c.args.seat.now.sessions h.is s.0 s.1.0 s.1.1 s.2.0 on;
        on = on_so c.args.seat.now c.args.here c.args.held k t h c.requires.place c.args.op.now c.requires.update alone.rests x y c.desk_mut.ensures.desk c.post.ensures.posted c.args.seat.now.sessions h.is s.0 s.1.0 s.1.1 s.2.0 on;
        took = took_as _ s.2.2.0 _ _ _ _ c.settle.ensures.same.1 c.settle.ensures.same.2 s.2.2.1;
      };
      next = next_as s.2.0 s.2.2.0 _ _ _ _ c.settle.ensures.same.1 c.settle.ensures.same.2 s.2.2.3;
    }
