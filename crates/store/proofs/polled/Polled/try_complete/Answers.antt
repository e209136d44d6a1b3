use Rattle.std.proofs.Common.{None, refl, ap, subst, sym, ◌∙◌}
use Rattle.replica.specs.StoreMeaning.{store_meaning}
use Rattle.accounts.specs.Accounts.{IsWellFormed}
use Rattle.accounts.specs.declared.sessions.SessionNote.{SessionNote}
use Rattle.store_steps.specs.Stages.{HasDone, IsOnItsWay}
use Rattle.store_steps.specs.Views.{SessionView}
use Rattle.store.proofs.Between.{goes_still, goes_then, way_then, well_at}
use Rattle.store.proofs.Linear.{adds_answer, adds_back}
use Rattle.store_steps.proofs.Export.{deeds_on}
use Rattle.store.specs.Sessions.{SessionGoesOn, known_of}
use Rattle.store_steps.specs.Polling.{DeedsGo}
use Rattle.store_steps.specs.Updating.{Deeds, Rests}
use Rattle.store.proofs.polled.Polled.try_complete.Goals as goal

pub loop-init : goal.loop-init
loop-init c =
    let s = c.self.inside in
    record {
      session = goes_still c.args.store.now c.args.self.now c.args.self.now refl c.requires.own
          (subst (λ (z : SessionView). IsWellFormed store_meaning z.progress) c.self.view_is (well_at s.seat s.caller s.batch s.replies s.stage c.self.invariant.0));
      way = refl;
      deeds = Rests (known_of c.args.self.now);
    }

pub deed-requires-clause-asked : goal.deed-requires-clause-asked
deed-requires-clause-asked c = let o = c.requires.asked in (o.0, ap (λ (n : SessionNote). n.pending) c.loop.invariant.way ∙ o.1)

pub loop-preserved : goal.loop-preserved
loop-preserved c =
    let i = c.loop.invariant in
    let o = c.requires.asked in
    let d = subst (λ z. HasDone c.loop.self c.deed.new.self o.0 z) c.in-Went.is (c.deed.ensures.done o.0 (ap (λ (n : SessionNote). n.pending) i.way ∙ o.1)) in
    let e = sym c.count_batch.ensures.same in
    record {
      session = subst (SessionGoesOn c.args.store.now c.args.self.now) e (goes_then c.args.store.now c.args.self.now c.loop.self c.deed.new.self i.session c.deed.ensures.session);
      way = subst (IsOnItsWay c.args.self.now) e (way_then c.args.self.now c.loop.self c.deed.new.self i.way d);
      deeds = subst (λ (z : SessionView). Deeds (known_of c.args.self.now) (known_of z)) e
          (deeds_on (known_of c.args.self.now) (known_of c.loop.self) (known_of c.deed.new.self) i.deeds (subst (λ z. DeedsGo (known_of c.loop.self) (known_of c.deed.new.self) z) c.in-Went.is c.deed.ensures.goes));
    }

pub returns-in-Busy-clause-session : goal.returns-in-Busy-clause-session
returns-in-Busy-clause-session c = goes_then c.args.store.now c.args.self.now c.loop.self c.deed.new.self c.loop.invariant.session c.deed.ensures.session

pub returns-in-Busy-clause-goes : goal.returns-in-Busy-clause-goes
returns-in-Busy-clause-goes c =
    deeds_on (known_of c.args.self.now) (known_of c.loop.self) (known_of c.deed.new.self) c.loop.invariant.deeds (subst (λ z. DeedsGo (known_of c.loop.self) (known_of c.deed.new.self) z) c.in-Busy.is c.deed.ensures.goes)

pub returns-in-Collected-clause-session : goal.returns-in-Collected-clause-session
returns-in-Collected-clause-session c = goes_then c.args.store.now c.args.self.now c.loop.self c.deed.new.self c.loop.invariant.session c.deed.ensures.session

pub returns-in-Collected-clause-goes : goal.returns-in-Collected-clause-goes
returns-in-Collected-clause-goes c =
    let d = subst (λ z. DeedsGo (known_of c.loop.self) (known_of c.deed.new.self) z) c.in-Collected.is c.deed.ensures.goes in
    (c.in-Collected.reply, c.answer_of.ensures.said, (d.0, deeds_on (known_of c.args.self.now) (known_of c.loop.self) d.0 c.loop.invariant.deeds d.1, d.2))

pub returns-in-Busy-clause-adds : goal.returns-in-Busy-clause-adds
unfolding returns-in-Busy-clause-session
returns-in-Busy-clause-adds c =
    let o = c.requires.asked in
    let i = c.loop.invariant in
    let d = subst (λ z. HasDone c.loop.self c.deed.new.self o.0 z) c.in-Busy.is
    (c.deed.ensures.done o.0 (ap (λ (n : SessionNote). n.pending) i.way ∙ o.1)) in
    adds_answer c.args.store.now c.args.self.now c.deed.new.self o.0 (returns-in-Busy-clause-session c) None
    (way_then c.args.self.now c.loop.self c.deed.new.self i.way d)

pub returns-in-Collected-clause-adds : goal.returns-in-Collected-clause-adds
unfolding returns-in-Collected-clause-session
returns-in-Collected-clause-adds c =
    let o = c.requires.asked in
    let i = c.loop.invariant in
    let t = subst (λ z. HasDone c.loop.self c.deed.new.self o.0 z) c.in-Collected.is
    (c.deed.ensures.done o.0 (ap (λ (n : SessionNote). n.pending) i.way ∙ o.1)) in
    let on = returns-in-Collected-clause-session c in (
      c.in-Collected.reply,
      c.answer_of.ensures.said,
      adds_back c.args.store.now c.args.self.now c.loop.self c.deed.new.self o.0 c.in-Collected.reply on i.way t.1,
    )

pub returns-clause-adds : goal.returns-clause-adds
returns-clause-adds c =
    let o = c.requires.asked in
    let i = c.loop.invariant in
    adds_answer c.args.store.now c.args.self.now c.loop.self o.0 i.session None i.way
