use Rattle.ownlock.proofs.Export.{adds_on, one_known, stepped_by}
use Rattle.std.proofs.Common.{◌∙◌, ap, refl}
use Rattle.store_steps.specs.Standing.{SessionKnown}
use Rattle.combiner.specs.Desks.{only}
use Rattle.store_steps.specs.declared.desks.Turn.TheVariants.{Combines}
use Rattle.store_steps.proofs.Resumed.{asked_by}
use Rattle.store_steps.proofs.TakenDesk.{is_at, is_desk}
use Rattle.store_steps.proofs.Turning.{turns_there}
use Rattle.store_steps.proofs.Visiting.{turns_by}
use Rattle.store_steps.proofs.visits.claim_and_put.Goals as goal

pub desk_mut-requires : goal.desk_mut-requires
desk_mut-requires c = let a = c.requires.asked in record { desk = is_desk c.args.here.caller a.0 a.1 _ _ a.4 }

pub claim_only-new-requires : goal.claim_only-new-requires
claim_only-new-requires c =
    let a = c.requires.asked in
    record {
      own = (a.1, a.2, is_at c.args.here.caller a.0 a.1 _ _ a.4 c.desk_mut.result.now c.desk_mut.ensures.desk, asked_by a.0 a.1 a.2 a.4.note a.5);
      only = c.requires.only c.desk_mut.result.now c.desk_mut.ensures.desk;
    }

pub put_by-requires-clause-may : goal.put_by-requires-clause-may
put_by-requires-clause-may c =
    let a = c.requires.asked in
    (a.1, a.3, (turns_there c.args.here.caller a.0 a.1 _ _ a.2 a.4 c.args.seat.now.sessions a.3 a.5 c.desk_mut.result.now c.claim_only-new.new.desk c.desk_mut.ensures.desk (only c.claim_only-new.result) Combines c.claim_only-new.ensures.turn).may)

pub returns-clause-turned : goal.returns-clause-turned
returns-clause-turned c k t o is b asked =
    let f = c.put_by.ensures.put t is in
    let x = c.desk_mut.result.now in
    let y = c.claim_only-new.new.desk in
    let put = turns_there c.args.here.caller k t _ _ o b c.args.seat.now.sessions is asked x y c.desk_mut.ensures.desk (only c.claim_only-new.result) Combines c.claim_only-new.ensures.turn in
    let on = adds_on t _ _ _ _ f.3 in
    let stepped = stepped_by t _ _ refl refl f.3 in
    (_, f.2, put.back f.0 f.1.0 f.1.1 _ on, turns_by c.args.here.caller k t _ _ b x y c.desk_mut.ensures.desk _ stepped (only c.claim_only-new.result) Combines c.claim_only-new.ensures.turn, (_, _, stepped))

pub returns-clause-own : goal.returns-clause-own
returns-clause-own c k is =
    let a = c.requires.asked in
    c.claim_only-new.ensures.own a.1 (is_at c.args.here.caller a.0 a.1 _ _ a.4 c.desk_mut.result.now c.desk_mut.ensures.desk) ∙ ap (λ (z : SessionKnown). z.session) (one_known c.args.seat.now a.1 k a.3 is)
