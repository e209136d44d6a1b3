use Rattle.std.proofs.Common.{◌≡◌}
use Rattle.store_steps.proofs.Numbered.{FirstReplies}
use Rattle.store_steps.proofs.questions.answer_each.Given as goal

abbrev pub invariant-loop-number : goal.invariant-loop-number
invariant-loop-number l = record {
  node : l.node ≡ l.fn.node;
  replies : FirstReplies l.catalogue l.fn.node.replica.state l.questions l.number l.replies;
}
