use Rattle.store_steps.specs.declared.desks.Turn.TheVariants.{Collects}
use Rattle.store_steps.proofs.AtDesk.{countable, claim_turn, turn_steps}
use Rattle.store_steps.proofs.desks.collect_or_claim.Goals as goal

pub collect-requires-clause-countable : goal.collect-requires-clause-countable
collect-requires-clause-countable c = let i = c.requires.own in countable c.args.slot i.0 c.args.desk.now i.1 i.2 i.3

pub returns-in-Some-clause-step : goal.returns-in-Some-clause-step
returns-in-Some-clause-step c k o i asked = turn_steps c.args.slot k o c.args.desk.now c.collect.new.self c.args.batch.now (Collects c.in-Some.reply) c.in-Some.ensures.collected i asked

pub returns-in-None-clause-step : goal.returns-in-None-clause-step
returns-in-None-clause-step c k o i asked =
    let none = c.in-None.ensures.collected in
    turn_steps c.args.slot k o c.args.desk.now c.claim.new.desk c.claim.new.batch c.claim.result (claim_turn c.args.slot c.args.desk.now c.collect.new.self c.claim.new.desk c.claim.new.batch c.claim.result none.1 none.0 c.claim.ensures.claims) i asked
