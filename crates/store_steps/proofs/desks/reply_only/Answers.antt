use Rattle.std.proofs.Common.{◌∙◌, ap, sym}
use Rattle.combiner.specs.Desks.{only, replied}
use Rattle.store_steps.proofs.AtDesk.{is_batch, own_author}
use Rattle.store_steps.proofs.desks.reply_only.Goals as goal

pub reply_only-requires : goal.reply_only-requires
reply_only-requires c =
    let i = c.requires.own in
    record {
      own = (
        i.1,
        i.4
            ∙ own_author c.args.slot i.0 c.args.desk.now i.2,
        is_batch i.0 (only i.1) c.args.replies.now i.3
            c.args.slot c.args.desk.now i.2,
      );
    }

pub returns : goal.returns
returns c = record {
  replied = λ k r at mine.
      c.reply_only.ensures.replied r (mine ∙ own_author c.args.slot k c.args.desk.now at)
      ∙ ap (λ b. replied b c.args.desk.now) (sym (c.reply.ensures.reply r));
}
