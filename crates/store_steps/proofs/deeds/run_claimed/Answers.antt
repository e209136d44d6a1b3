use Rattle.std.proofs.Common.{sym, subst}
use Rattle.store_steps.specs.declared.deeds.Deed.TheVariants.{Busy}
use Rattle.store_steps.specs.Stages.{HasGone}
use Rattle.store_steps.specs.Updating.{Answers, DeedGoes, Tries}
use Rattle.store_steps.proofs.Gone.{held_gone, on_known, ran_gone}
use Rattle.store_steps.proofs.deeds.run_claimed.Goals as goal

pub try_combine-requires-clause-claimed : goal.try_combine-requires-clause-claimed
try_combine-requires-clause-claimed c =
    let v = c.requires.polled in
    (v.0, v.2.is, (v.2.free, v.3, on_known c.args.here.shared c.args.seat.now v.0 v.2.is c.requires.on))

pub returns-in_default-clause-gone : goal.returns-in_default-clause-gone
returns-in_default-clause-gone c =
    let v = c.requires.polled in
    let t = c.in_default.ensures.stays v.0 v.2.is in
    subst (λ z. HasGone DeedGoes c.args.seat.now c.try_combine.new.seat c.args.here.caller c.args.batch.now c.try_combine.new.replies z Busy) (sym c.requires.claimed)
    (held_gone DeedGoes c.args.seat.now c.try_combine.new.seat c.args.here.caller c.args.batch.now c.try_combine.new.replies v.0 v.1 v.2 t.0 t.1 v.3 t.2 (Tries t.2.tries t.2.nothing t.2.did t.2.note))

pub returns-clause-gone : goal.returns-clause-gone
returns-clause-gone c =
    let v = c.requires.polled in
    let t = c.in-Ok.ensures.combined v.0 v.2.is in
    ran_gone DeedGoes c.args.seat.now c.try_combine.new.seat c.args.here.caller c.args.batch.now c.try_combine.new.replies v.0 v.1 v.2 t.0 t.1 t.2 (Answers c.args.here.caller.node c.args.batch.now c.try_combine.new.replies v.3.noted t.3 t.2.ready)
