use Rattle.std.proofs.Common.{◌∙◌, ap, sym, subst, arith}
use Rattle.combiner.specs.Desks.{IsBatchOf, IsAnswered, replied}
use Rattle.store_steps.proofs.AtDesk.{is_batch, is_answered, reply_steps}
use Rattle.store_steps.proofs.desks.reply.Goals as goal

pub answer_batch-requires-clause-run : goal.answer_batch-requires-clause-run
answer_batch-requires-clause-run c = c.requires.own.3.run

pub answer_batch-requires-clause-short : goal.answer_batch-requires-clause-short
answer_batch-requires-clause-short c = let low = c.requires.own.3.within in omega (arith, low)

pub reply-requires-clause-own : goal.reply-requires-clause-own
reply-requires-clause-own c =
    let i = c.requires.own in
    subst (IsBatchOf c.args.desk.now) (sym c.answer_batch.ensures.answered) (is_batch i.0 c.args.batch.now c.args.replies.now i.3 i.1 c.args.desk.now i.2)

pub reply-requires-clause-answered : goal.reply-requires-clause-answered
reply-requires-clause-answered c =
    let i = c.requires.own in
    subst IsAnswered (sym c.answer_batch.ensures.answered) (is_answered i.0 c.args.batch.now c.args.replies.now i.3)

pub returns-clause-step : goal.returns-clause-step
returns-clause-step c k r =
    reply_steps k c.args.batch.now c.args.replies.now r c.args.desk.now c.reply.new.self (c.reply.ensures.replied ∙ ap (λ z. replied z c.args.desk.now) c.answer_batch.ensures.answered)
