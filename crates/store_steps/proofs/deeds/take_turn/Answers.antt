use Rattle.std.proofs.Common.{[], refl, sym, subst}
use Rattle.store_steps.specs.declared.deeds.Deed.{Deed}
use Rattle.store_steps.specs.declared.deeds.Deed.TheVariants.{Busy}
use Rattle.store_steps.specs.declared.deeds.Stage.{Stage}
use Rattle.store_steps.specs.declared.deeds.Stage.TheVariants.{Asked}
use Rattle.store_steps.specs.Stages.{HasGone}
use Rattle.store_steps.specs.Doing.{Nothing}
use Rattle.store_steps.specs.Updating.{DeedGoes, Tries}
use Rattle.store_steps.proofs.Begun.{turned_gone}
use Rattle.store_steps.proofs.Doing.{did_none}
use Rattle.store_steps.proofs.Gone.{asked_of, on_known, stays_gone}
use Rattle.store_steps.proofs.deeds.take_turn.Goals as goal

pub try_turn-requires-clause-asked : goal.try_turn-requires-clause-asked
try_turn-requires-clause-asked c =
    let v = c.requires.polled in
    (v.0, v.1, v.2.is, v.2.free, asked_of c.args.seat.now c.args.here.caller v.0 v.1 v.2 v.3, on_known c.args.here.shared c.args.seat.now v.0 v.2.is c.requires.on)

pub returns-in_default-clause-gone : goal.returns-in_default-clause-gone
returns-in_default-clause-gone c kept =
    let v = c.requires.polled in
    subst (λ z. HasGone DeedGoes c.args.seat.now c.try_turn.new.seat c.args.here.caller c.try_turn.new.batch kept z Busy) (sym c.requires.asked)
    (stays_gone DeedGoes c.args.seat.now c.try_turn.new.seat c.args.here.caller c.try_turn.new.batch kept v.0 v.1 v.2 c.in_default.ensures.stays.0 Asked v (Tries [] Nothing (did_none v.0 v.0 refl) refl))

pub returns-clause-gone : goal.returns-clause-gone
returns-clause-gone c kept =
    let v = c.requires.polled in
    let new = c.try_turn.new in
    let t = c.in-Some.ensures.turned v.0 v.1 v.2.is (asked_of c.args.seat.now c.args.here.caller v.0 v.1 v.2 v.3) in
    subst (λ (z : Stage × Deed). HasGone DeedGoes c.args.seat.now new.seat c.args.here.caller new.batch kept z.0 z.1) (sym c.after-at.ensures.after)
    (turned_gone c.args.seat.now new.seat c.args.here.caller new.batch kept v.0 v.1 v.2 v.3 t.0 t.1 c.in-Some.turn t.2 t.3)
