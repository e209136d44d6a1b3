use Rattle.std.proofs.Common.{ap, ◌∙◌}
use Rattle.replica.specs.Views.{RepliesView, with_outcome}
use Rattle.replica.proofs.Kept.{kept_within}
use Rattle.replica.proofs.replying.Replies.keep.Goals as goal

pub returns-then-index-self : goal.returns-then-index-self
returns-then-index-self c = record {
  kept =
      kept_within c.self.inside.first c.self.inside.count c.args.index c.self.inside.outcomes c.args.outcome c.if-self-index.true c.if-index-self.true
      ∙ ap (λ (r : RepliesView). with_outcome r c.args.index c.args.outcome) c.self.view_is;
}
