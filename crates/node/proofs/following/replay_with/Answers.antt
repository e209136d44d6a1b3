use Rattle.node.proofs.Keeping.{keeps_after}
use Rattle.node.proofs.following.replay_with.Goals as goal

pub returns-clause-replies : goal.returns-clause-replies
returns-clause-replies c =
    keeps_after _ _ _ _ _ _ c.replay_with.ensures.replies
