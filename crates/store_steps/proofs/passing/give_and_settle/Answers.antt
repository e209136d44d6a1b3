use Rattle.std.proofs.Common.{◌∙◌, sym, ap, subst, Some}
use Rattle.combiner.specs.Desks.{IsBatchOf, replied}
use Rattle.store_steps.proofs.PutBack.{took_last}
use Rattle.store_steps.proofs.Parts.{desk_put, has_desk}
use Rattle.store_steps.proofs.Handing.{desk_is, free_given, give_may, gives_so, has_given, is_batch_there, next_as, on_given, ready_there, taken, took_as}
use Rattle.store_steps.proofs.TakenDesk.{is_at, is_desk}
use Rattle.store_steps.specs.Lending.{desk_of, with_desk}
use Rattle.store_steps.proofs.passing.give_and_settle.Goals as goal

pub desk_mut-requires : goal.desk_mut-requires
desk_mut-requires c =
    let i = c.requires.has in
    record { desk = is_desk c.args.here.caller i.0 i.1 c.args.held.spot.place c.args.held.value (taken c.args.seat.now c.args.here c.args.held i.0 i.1 i.2 c.requires.place) }

pub reply-requires : goal.reply-requires
reply-requires c =
    let i = c.requires.has in
    let b = taken c.args.seat.now c.args.here c.args.held i.0 i.1 i.2 c.requires.place in
    record { own = (i.1, c.args.here.caller.slot, is_at c.args.here.caller i.0 i.1 c.args.held.spot.place c.args.held.value b c.desk_mut.result.now c.desk_mut.ensures.desk, ready_there c.args.seat.now c.args.here c.args.held i.0 i.1 i.2 c.requires.place c.args.batch.now c.args.replies.now i.3 i.4) }

pub settle-requires-clause-may : goal.settle-requires-clause-may
settle-requires-clause-may c =
    let i = c.requires.has in (
      i.1,
      i.2.is,
      give_may c.args.seat.now c.args.here c.args.held i.0 i.1 i.2 c.requires.place c.args.batch.now c.args.replies.now i.3 i.4 c.desk_mut.result.now c.reply.new.desk c.desk_mut.ensures.desk c.reply.new.batch c.reply.ensures.answered c.reply.ensures.replied c.args.seat.now.sessions i.2.is,
      took_last c.args.here.caller i.0 i.1 c.args.held.spot.place c.args.held.value (taken c.args.seat.now c.args.here c.args.held i.0 i.1 i.2 c.requires.place),
    )

pub returns-clause-replied : goal.returns-clause-replied
returns-clause-replied c x is =
    let i = c.requires.has in
    let same = desk_is c.args.held.value c.desk_mut.result.now x c.desk_mut.ensures.desk is in (
      subst (IsBatchOf x) (sym c.reply.ensures.answered) (is_batch_there c.args.seat.now c.args.here c.args.held i.0 i.1 i.2 c.requires.place c.args.batch.now c.args.replies.now i.3 i.4 x is),
      ap desk_of c.settle.ensures.same.2 ∙ (has_desk (with_desk c.args.held.value c.reply.new.desk) c.reply.new.desk (desk_put c.args.held.value c.desk_mut.result.now c.reply.new.desk c.desk_mut.ensures.desk) ∙ ap Some (c.reply.ensures.replied ∙ ap (replied c.reply.new.batch) same)),
    )

pub returns-clause-kept : goal.returns-clause-kept
returns-clause-kept c k t h ready stands =
    let s = c.settle.ensures.settled t h.is in
    let x = c.desk_mut.result.now in
    let y = c.reply.new.desk in
    let on = s.2.1 in
    record {
      combined = _;
      has = has_given c.args.seat.now c.args.here c.args.held k t h c.requires.place c.args.batch.now c.args.replies.now ready stands x y c.desk_mut.ensures.desk c.reply.new.batch c.reply.ensures.answered c.reply.ensures.replied c.args.seat.now.sessions h.is s.0 s.1.0 s.1.1 s.2.0 on;
      gives = gives_so c.args.seat.now c.args.here c.args.held k t h c.requires.place c.args.batch.now c.args.replies.now ready stands x y c.desk_mut.ensures.desk c.reply.new.batch c.reply.ensures.answered c.reply.ensures.replied c.args.seat.now.sessions h.is s.0 s.1.0 s.1.1 s.2.0 on;
      now = s.2.2.0;
      desk = record {
        is = s.2.2.2;
        free = free_given c.args.seat.now c.args.here c.args.held k t h c.requires.place c.args.batch.now c.args.replies.now ready stands x y c.desk_mut.ensures.desk c.reply.new.batch c.reply.ensures.answered c.reply.ensures.replied c.args.seat.now.sessions h.is s.0 s.1.0 s.1.1 s.2.0 on;
        on = on_given c.args.seat.now c.args.here c.args.held k t h c.requires.place c.args.batch.now c.args.replies.now ready stands x y c.desk_mut.ensures.desk c.reply.new.batch c.reply.ensures.answered c.reply.ensures.replied c.args.seat.now.sessions h.is s.0 s.1.0 s.1.1 s.2.0 on;
        took = took_as _ s.2.2.0 _ _ _ _ c.settle.ensures.same.1 c.settle.ensures.same.2 s.2.2.1;
      };
      next = next_as s.2.0 s.2.2.0 _ _ _ _ c.settle.ensures.same.1 c.settle.ensures.same.2 s.2.2.3;
    }
