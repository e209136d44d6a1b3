use Rattle.std.proofs.Common.{subst}
use Rattle.store_steps.specs.Stages.{IsOut, IsPolled}
use Rattle.store_steps.proofs.deeds.go_on.Goals as goal

pub unreached-assert_unchecked-requires : goal.unreached-assert_unchecked-requires
unreached-assert_unchecked-requires c = absurd (subst IsOut c.in-Idle.is c.requires.out)

pub take_turn-requires-clause-polled : goal.take_turn-requires-clause-polled
take_turn-requires-clause-polled c = subst (λ z. IsPolled c.args.seat.now c.args.here.caller c.args.batch.now c.args.replies.now z) c.in-Asked.is c.requires.polled

pub run_claimed-requires-clause-polled : goal.run_claimed-requires-clause-polled
run_claimed-requires-clause-polled c = subst (λ z. IsPolled c.args.seat.now c.args.here.caller c.args.batch.now c.args.replies.now z) c.in-Claimed.is c.requires.polled

pub give_answers-requires-clause-polled : goal.give_answers-requires-clause-polled
give_answers-requires-clause-polled c = subst (λ z. IsPolled c.args.seat.now c.args.here.caller c.args.batch.now c.args.replies.now z) c.in-Ready.is c.requires.polled

pub returns-in-Asked-clause-gone : goal.returns-in-Asked-clause-gone
returns-in-Asked-clause-gone c = c.take_turn.ensures.gone c.args.replies.now
