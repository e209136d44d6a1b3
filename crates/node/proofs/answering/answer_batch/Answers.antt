use Rattle.std.proofs.Common.{◌∙◌, ap, length, length-set, rules, arith}
use Rattle.std.specs.Prelude.{slice_get}
use Rattle.node.proofs.Answers.{answers_turn, answers_whole}
use Rattle.node.proofs.answering.answer_batch.Goals as goal

pub loop-k-preserved : goal.loop-k-preserved
loop-k-preserved c =
    let i = c.loop-k.invariant in
    let lt = c.loop-k-test.true in
    let all = c.len-k-end.ensures.len ∙ ap length c.records.ensures.records in
    record {
      records = ap (λ b. b.records) c.answer.ensures.set ∙ i.records;
      answers = ap (λ b. length b.answers) c.answer.ensures.set ∙ (length-set c.loop-k.batch.answers c.loop-k.k _ ∙ i.answers);
      set = λ j le. ap (λ b. slice_get b.answers j) c.answer.ensures.set
          ∙ answers_turn c.args.replies.now c.args.batch.now c.loop-k.k c.loop-k.batch.answers c.reply_at-reply.result (omega (arith, lt, all)) i.answers c.requires.run c.reply_at-reply.ensures.placed c.reply_at-reply.ensures.ended i.set j le;
    }

pub returns : goal.returns
returns c = record {
  answered = answers_whole c.args.replies.now c.args.batch.now c.loop-k.batch c.loop-k.k c.loop-k.invariant.records c.loop-k.invariant.answers (search rules) c.loop-k.invariant.set;
}
