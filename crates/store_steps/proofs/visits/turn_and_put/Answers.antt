use Rattle.ownlock.proofs.Export.{adds_on, stepped_by}
use Rattle.std.proofs.Common.{◌∙◌, refl, subst, sym}
use Rattle.std.proofs.lemmas.Option.{same_Some}
use Rattle.store_steps.specs.AtDesk.{IsTurn}
use Rattle.store_steps.proofs.Resumed.{asked_by}
use Rattle.store_steps.proofs.TakenDesk.{is_at, is_desk}
use Rattle.store_steps.proofs.Turning.{turns_there}
use Rattle.store_steps.proofs.Visiting.{turns_by}
use Rattle.store_steps.proofs.visits.turn_and_put.Goals as goal

pub desk_mut-requires : goal.desk_mut-requires
desk_mut-requires c = let a = c.requires.asked in record { desk = is_desk c.args.here.caller a.0 a.1 _ _ a.4 }

pub collect_or_claim-turn-requires : goal.collect_or_claim-turn-requires
collect_or_claim-turn-requires c = let a = c.requires.asked in record { own = (a.1, a.2, is_at c.args.here.caller a.0 a.1 _ _ a.4 c.desk_mut.result.now c.desk_mut.ensures.desk, asked_by a.0 a.1 a.2 a.4.note a.5) }

pub put_by-requires-clause-may : goal.put_by-requires-clause-may
put_by-requires-clause-may c =
    let a = c.requires.asked in
    (a.1, a.3, (turns_there c.args.here.caller a.0 a.1 _ _ a.2 a.4 c.args.seat.now.sessions a.3 a.5 c.desk_mut.result.now c.collect_or_claim-turn.new.desk c.desk_mut.ensures.desk c.collect_or_claim-turn.new.batch c.collect_or_claim-turn.result c.collect_or_claim-turn.ensures.turn).may)

pub returns-clause-turn : goal.returns-clause-turn
returns-clause-turn c x lent = (c.collect_or_claim-turn.new.desk, subst (λ z. IsTurn c.args.here.caller.slot z c.collect_or_claim-turn.new.desk c.collect_or_claim-turn.new.batch c.collect_or_claim-turn.result) (same_Some _ x (sym c.desk_mut.ensures.desk ∙ lent)) c.collect_or_claim-turn.ensures.turn)

pub returns-clause-turned : goal.returns-clause-turned
returns-clause-turned c k t o is b asked =
    let f = c.put_by.ensures.put t is in
    let put = turns_there c.args.here.caller k t _ _ o b c.args.seat.now.sessions is asked c.desk_mut.result.now c.collect_or_claim-turn.new.desk c.desk_mut.ensures.desk c.collect_or_claim-turn.new.batch c.collect_or_claim-turn.result c.collect_or_claim-turn.ensures.turn in
    let on = adds_on t _ _ _ _ f.3 in
    (_, f.2, put.back f.0 f.1.0 f.1.1 _ on, turns_by c.args.here.caller k t _ _ b c.desk_mut.result.now c.collect_or_claim-turn.new.desk c.desk_mut.ensures.desk _ (stepped_by t _ _ refl refl f.3) c.collect_or_claim-turn.new.batch c.collect_or_claim-turn.result c.collect_or_claim-turn.ensures.turn, (_, _, (stepped_by t _ _ refl refl f.3)))
