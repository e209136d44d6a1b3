use Rattle.std.proofs.Common.{rules}
use Rattle.store.specs.Looks.{IsSight, TellsTried, HaveReplies}
use Rattle.store.proofs.Looked.{lent_to}
use Rattle.store.proofs.polled.Polled.try_read_each.Goals as goal

pub returns-clause-told : goal.returns-clause-told
returns-clause-told c none = lent_to (λ replies. TellsTried c.try_see.result (IsSight (HaveReplies c.args.questions.now replies) (λ point. point) c.args.self.now c.try_see.new.self)) c.try_see.new.look.replies.now _ (search rules) (c.try_see.ensures.told none)
