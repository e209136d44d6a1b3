use Rattle.std.proofs.Common.{rules}
use Rattle.store.specs.Looks.{TellsSight, HaveReplies}
use Rattle.store.proofs.Looked.{lent_to}
use Rattle.store.proofs.session.Session.read_each.Goals as goal

pub returns-clause-told : goal.returns-clause-told
returns-clause-told g c none = lent_to (λ replies. TellsSight (HaveReplies c.args.questions.now replies) (λ point. point) c.args.self.now c.see.new.self c.see.result) c.see.new.look.replies.now _ (search rules) (c.see.ensures.told none)
