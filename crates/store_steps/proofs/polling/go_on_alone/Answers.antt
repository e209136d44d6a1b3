use Rattle.std.proofs.Common.{sym, subst}
use Rattle.combiner.specs.Desks.{BatchView, only}
use Rattle.replica.specs.Views.{RepliesView}
use Rattle.store_steps.specs.declared.deeds.Deed.{Deed}
use Rattle.store_steps.specs.declared.deeds.Deed.TheVariants.{Busy, Went}
use Rattle.store_steps.specs.declared.deeds.Stage.{Stage}
use Rattle.store_steps.specs.declared.deeds.Stage.TheVariants.{Claimed, Ready}
use Rattle.store_steps.specs.Polling.{DeedsGo}
use Rattle.store_steps.specs.Stages.{HasGone}
use Rattle.store_steps.specs.Updating.{Tries}
use Rattle.store_steps.proofs.AtOnce.{answered_waits}
use Rattle.store_steps.proofs.Begun.{gave_alone, one_deed, ran_alone}
use Rattle.store_steps.proofs.Gone.{held_gone}
use Rattle.store_steps.proofs.Own.{may_reply}
use Rattle.store_steps.proofs.polling.go_on_alone.Goals as goal

-- ---- another session holds the replica or the log

pub returns-in_default-clause-gone : goal.returns-in_default-clause-gone
returns-in_default-clause-gone c =
    let v = c.requires.polled in
    let t = c.in_default.ensures.stays v.0 v.2.is in
    let old = c.args.seat.now in
    let new = c.try_combine.new.seat in
    subst (λ z. HasGone DeedsGo old new c.args.at.here.caller z c.args.replies.now Claimed Busy)
    (sym c.set_only.ensures.only)
    (held_gone DeedsGo old new c.args.at.here.caller (only c.args.new.now) c.args.replies.now v.0 v.1 v.2 t.0 t.1 v.3 t.2
    (one_deed v.0 t.0 (Tries t.2.tries t.2.nothing t.2.did t.2.note)))

-- ---- another session holds the desk

pub returns-in_default-try_reply_and_turn-clause-gone : goal.returns-in_default-try_reply_and_turn-clause-gone
returns-in_default-try_reply_and_turn-clause-gone c =
    let v = c.requires.polled in
    let t = c.in-Ok.ensures.combined v.0 v.2.is in
    let old = c.args.seat.now in
    let new = c.try_reply_and_turn.new.seat in
    subst (λ (z : BatchView × RepliesView). HasGone DeedsGo old new c.args.at.here.caller z.0 z.1 Ready Went)
    (λ j. (sym c.set_only-in_default-try_reply_and_turn.ensures.only j, sym c.move_to.ensures.moved j))
    (ran_alone old c.try_combine.new.seat new c.args.at.here.caller v.0 t.0 v.1 v.2 t.1 c.args.new.now
    c.try_combine.new.replies v.3 t.2 t.3 c.in_default-try_reply_and_turn.ensures.stays)

-- ---- the answer is handed over

pub returns-clause-gone : goal.returns-clause-gone
returns-clause-gone c =
    let v = c.requires.polled in
    let at = c.args.at.here in
    let r = c.args.new.now in
    let old = c.args.seat.now in
    let mid = c.try_combine.new in
    let new = c.try_reply_and_turn.new in
    let t = c.in-Ok.ensures.combined v.0 v.2.is in
    let may =
    may_reply at.caller.node old mid.seat at.caller at.shared r mid.replies c.requires.claimed c.in-Ok.ensures.combined in
    let waits = answered_waits v.0 t.0 v.1 (only r) mid.replies (v.2.pending, v.2.few) t.2 in
    let gives = c.in-Some.ensures.turned r may t.0 v.1 t.1 waits in
    subst (λ (z : Stage × Deed). HasGone DeedsGo old new.seat at.caller new.batch c.args.replies.now z.0 z.1)
    (sym c.after.ensures.after)
    (gave_alone old mid.seat new.seat at.caller v.0 t.0 v.1 v.2 t.1 r mid.replies v.3 t.2 t.3 new.batch c.args.replies.now
    c.in-Some.turn gives)
