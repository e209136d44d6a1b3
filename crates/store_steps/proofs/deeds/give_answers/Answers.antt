use Rattle.std.proofs.Common.{[], refl, sym, subst}
use Rattle.store_steps.specs.declared.deeds.Deed.TheVariants.{Busy}
use Rattle.store_steps.specs.declared.deeds.Stage.TheVariants.{Ready}
use Rattle.store_steps.specs.Stages.{HasGone}
use Rattle.store_steps.specs.Doing.{Nothing}
use Rattle.store_steps.specs.Updating.{DeedGoes, Gives, Tries}
use Rattle.store_steps.proofs.Doing.{did_none}
use Rattle.store_steps.proofs.Gone.{gave_gone, on_known, stays_gone}
use Rattle.store_steps.proofs.deeds.give_answers.Goals as goal

pub try_hand_over-requires-clause-ready : goal.try_hand_over-requires-clause-ready
try_hand_over-requires-clause-ready c =
    let v = c.requires.polled in
    (v.0, v.2.is, (v.2.free, v.3, on_known c.args.here.shared c.args.seat.now v.0 v.2.is c.requires.on, v.4))

pub returns-in_default-clause-gone : goal.returns-in_default-clause-gone
returns-in_default-clause-gone c =
    let v = c.requires.polled in
    let e = c.in_default.ensures.stays in
    subst (λ z. HasGone DeedGoes c.args.seat.now c.try_hand_over.new.seat c.args.here.caller z c.args.replies.now c.args.stage.now Busy) (sym e.1)
    (subst (λ z. HasGone DeedGoes c.args.seat.now c.try_hand_over.new.seat c.args.here.caller c.args.batch.now c.args.replies.now z Busy) (sym c.requires.ready)
    (stays_gone DeedGoes c.args.seat.now c.try_hand_over.new.seat c.args.here.caller c.args.batch.now c.args.replies.now v.0 v.1 v.2 e.0 Ready v (Tries [] Nothing (did_none v.0 v.0 refl) refl)))

pub returns-clause-gone : goal.returns-clause-gone
returns-clause-gone c =
    let v = c.requires.polled in
    let t = c.in-Some.ensures.handed v.0 v.2.is in
    gave_gone DeedGoes c.args.seat.now c.try_hand_over.new.seat c.args.here.caller c.try_hand_over.new.batch c.args.replies.now v.0 v.1 v.2 t.0 t.1 t.2 (Gives c.args.here.caller.node c.args.batch.now c.args.replies.now v.3 t.3 t.2.note)
