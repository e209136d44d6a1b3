use Rattle.std.proofs.Common.{◌∙◌, ap, sym, subst}
use Rattle.oplog.specs.History.{after}
use Rattle.replica.specs.Replaying.{KeepsOutcomes}
use Rattle.replica.specs.StoreMeaning.{store_meaning}
use Rattle.replica.proofs.Joined.{after_joined, keeps_joined, updates_later}
use Rattle.replica.proofs.replicas.Replica.replay_with.Goals as goal

pub perform_each-requires-clause-allowed : goal.perform_each-requires-clause-allowed
perform_each-requires-clause-allowed c = updates_later c.args.catalogue.now c.args.hand.now.records c.args.more.now c.requires.allowed

pub returns-clause-state : goal.returns-clause-state
returns-clause-state c =
    let before = ap (λ r. r.state) c.self.view_is ∙ c.replay.ensures.state in
    c.perform_each.ensures.state
    ∙ ap (λ s. after store_meaning c.args.catalogue.now s c.args.more.now) before
    ∙ sym (after_joined c.args.catalogue.now c.args.self.now.state c.args.hand.now.records c.args.more.now)

pub returns-clause-replies : goal.returns-clause-replies
returns-clause-replies c =
    let before = ap (λ r. r.state) c.self.view_is ∙ c.replay.ensures.state in
    let tail = ap (λ r. r.tail) c.self.view_is ∙ c.replay.ensures.tail in
    keeps_joined c.args.catalogue.now c.args.self.now.state c.args.self.now.tail c.args.hand.now.records c.args.more.now c.args.replies.now c.replay.new.replies c.perform_each.new.replies
    c.replay.ensures.replies
    (subst (λ n. KeepsOutcomes c.args.catalogue.now (after store_meaning c.args.catalogue.now c.args.self.now.state c.args.hand.now.records) n c.args.more.now c.replay.new.replies c.perform_each.new.replies) tail
    (subst (λ s. KeepsOutcomes c.args.catalogue.now s c.self.inside.tail c.args.more.now c.replay.new.replies c.perform_each.new.replies) before c.perform_each.ensures.kept))
