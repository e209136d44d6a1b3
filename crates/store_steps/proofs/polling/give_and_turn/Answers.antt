use Rattle.std.proofs.Common.{sym, subst}
use Rattle.store_steps.specs.declared.deeds.Deed.{Deed}
use Rattle.store_steps.specs.declared.deeds.Deed.TheVariants.{Busy}
use Rattle.store_steps.specs.declared.deeds.Stage.{Stage}
use Rattle.store_steps.specs.declared.deeds.Stage.TheVariants.{Ready}
use Rattle.store_steps.specs.Polling.{DeedsGo}
use Rattle.store_steps.specs.Stages.{HasGone}
use Rattle.store_steps.specs.Updating.{Rests}
use Rattle.store_steps.proofs.Gone.{on_known, stays_gone}
use Rattle.store_steps.proofs.Begun.{gave_and_turned}
use Rattle.store_steps.proofs.polling.give_and_turn.Goals as goal

pub try_hand_over_and_turn-requires-clause-ready : goal.try_hand_over_and_turn-requires-clause-ready
try_hand_over_and_turn-requires-clause-ready c =
    let v = c.requires.polled in
    let on = on_known c.args.here.shared c.args.seat.now v.0 v.2.is c.requires.on in
    (v.0, v.2.is, (v.2.free, v.3, on, v.4, (v.1, (v.2.pending, v.2.few))))

-- ---- the desk is held

pub returns-in_default-clause-gone : goal.returns-in_default-clause-gone
returns-in_default-clause-gone c =
    let v = c.requires.polled in
    let e = c.in_default.ensures.stays in
    let new = c.try_hand_over_and_turn.new.seat in
    subst (λ z. HasGone DeedsGo c.args.seat.now new c.args.here.caller z c.args.replies.now c.args.stage.now Busy) (sym e.1)
    (subst (λ z. HasGone DeedsGo c.args.seat.now new c.args.here.caller c.args.batch.now c.args.replies.now z Busy) (sym c.requires.ready)
    (stays_gone DeedsGo c.args.seat.now new c.args.here.caller c.args.batch.now c.args.replies.now v.0 v.1 v.2 e.0 Ready v (Rests v.0)))

-- ---- the answers are handed over

pub returns-clause-gone : goal.returns-clause-gone
returns-clause-gone c =
    let v = c.requires.polled in
    let new = c.try_hand_over_and_turn.new in
    let turn = c.in-Some.turn in
    let t = c.in-Some.ensures.turned v.0 v.1 v.2.is (v.2.pending, v.2.few) in
    let kept = c.args.replies.now in
    subst (λ (z : Stage × Deed). HasGone DeedsGo c.args.seat.now new.seat c.args.here.caller new.batch kept z.0 z.1)
    (sym c.after-at.ensures.after)
    (gave_and_turned c.args.seat.now new.seat c.args.here.caller v.0 v.1 v.2 c.args.batch.now kept v.3 new.batch kept
    turn t)
