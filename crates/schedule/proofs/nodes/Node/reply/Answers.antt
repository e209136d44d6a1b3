use Rattle.std.proofs.Common.{rules, sym, subst}
use Rattle.combiner.specs.Desks.{IsAnswered}
use Rattle.node.specs.declared.parts.Written.{Written}
use Rattle.schedule.proofs.Answers.{have_run, all_answered}
use Rattle.schedule.proofs.nodes.Node.reply.Goals as goal

pub answer_batch-requires-clause-run : goal.answer_batch-requires-clause-run
answer_batch-requires-clause-run c =
    let written : Written = record { batch = c.self-inside.inside.0.1.1.0.requests; replies = c.in-InLog.replies } in
    have_run c.requires.own.1 written (search rules) (search rules)

pub reply-requires-clause-answered : goal.reply-requires-clause-answered
reply-requires-clause-answered c =
    let written : Written = record { batch = c.self-inside.inside.0.1.1.0.requests; replies = c.in-InLog.replies } in
    subst IsAnswered (sym c.answer_batch.ensures.answered) (all_answered written (have_run c.requires.own.1 written (search rules) (search rules)))
