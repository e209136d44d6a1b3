use Rattle.std.proofs.Common.{[], ◌∷◌, refl, ap, ◌∙◌, subst}
use Rattle.store_steps.proofs.Export.{store_laws}
use Rattle.accounts.specs.declared.sessions.SessionNote.{SessionNote}
use Rattle.store_steps.specs.Views.{known_of}
use Rattle.schedule.specs.Trace.{Back, Updated}
use Rattle.store.specs.Linear.{Adds}
use Rattle.store.proofs.Export.{adds_still, adds_then, goes_then, gone_self}
use Rattle.example_calls.proofs.finish.Goals as goal

pub loop-init : goal.loop-init
loop-init g c = record {
  session = record {
    own = c.requires.own;
    same = (refl, refl);
    grown =
        store_laws.extends_self c.args.polled.now.progress;
    well_formed = c.requires.well;
    gone =
        gone_self (known_of c.args.polled.now);
  };
  way = refl;
  adds = adds_still c.args.polled.now c.args.polled.now refl;
}

pub loop-preserved : goal.loop-preserved
loop-preserved g c =
    let i = c.loop.invariant in
    let o = c.requires.asked in
    let way = c.in_default.ensures.completed o.0 (ap (λ (n : SessionNote). n.pending) i.way ∙ o.1) in record {
      session = goes_then c.args.store.now c.args.polled.now c.loop.polled c.try_complete.new.self i.session
          c.try_complete.ensures.session;
      way = way ∙ i.way;
      adds = adds_then c.args.polled.now c.loop.polled c.try_complete.new.self [] [] i.adds c.in_default.ensures.adds;
    }

pub try_complete-requires-clause-asked : goal.try_complete-requires-clause-asked
try_complete-requires-clause-asked g c = let o =
    c.requires.asked in (o.0, ap (λ (n : SessionNote). n.pending) c.loop.invariant.way ∙ o.1)

pub returns-in-Some-try_complete-clause-adds : goal.returns-in-Some-try_complete-clause-adds
returns-in-Some-try_complete-clause-adds g c =
    let i = c.loop.invariant in
    let told = c.in-Some-try_complete.ensures.adds in (
      told.0,
      told.1,
      adds_then c.args.polled.now c.loop.polled c.try_complete.new.self [] _ i.adds
          (subst (λ x. Adds c.loop.polled c.try_complete.new.self (Back x (Updated told.0) ∷ [])) i.session.same.1
          told.2),
    )

pub returns-in-Some-try_complete-clause-session : goal.returns-in-Some-try_complete-clause-session
returns-in-Some-try_complete-clause-session g c =
    goes_then c.args.store.now c.args.polled.now c.loop.polled c.try_complete.new.self c.loop.invariant.session
    c.try_complete.ensures.session
