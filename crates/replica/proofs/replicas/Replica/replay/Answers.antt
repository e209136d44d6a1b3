use Rattle.std.proofs.Common.{◌≡◌, ap, arith, length, subst, sym}
use Rattle.replica.specs.Grounds.{state_in}
use Rattle.replica.specs.Replaying.{KeepsOutcomes}
use Rattle.replica.proofs.Joined.{keeps_empty}
use Rattle.replica.proofs.replicas.Replica.replay.Goals as goal
use Rattle.replica.proofs.replicas.Replica.replay.Goals.{then-count-gt0, else-count-gt0}

pub returns-clause-replies : goal.returns-clause-replies
returns-clause-replies c =
    let now = c.args.self.now in
    let rs = c.args.hand.now.records in
    let old = c.args.replies.now in
    elim c.if-count-gt0.branch [
      | then-count-gt0 w ↦ subst (KeepsOutcomes c.args.catalogue.now now.state now.tail rs old) (sym w.replies-is)
          (subst (λ s. KeepsOutcomes c.args.catalogue.now s now.tail rs old w.perform_each.new.replies) (ap (λ r. r.state) c.self.view_is)
          (subst (λ n. KeepsOutcomes c.args.catalogue.now (state_in c.self.inside.ground) n rs old w.perform_each.new.replies) (ap (λ r. r.tail) c.self.view_is)
          (subst (λ z. KeepsOutcomes c.args.catalogue.now (state_in c.self.inside.ground) c.self.inside.tail z old w.perform_each.new.replies) w.records-records.ensures.records w.perform_each.ensures.kept)))
      | else-count-gt0 w ↦ subst (KeepsOutcomes c.args.catalogue.now now.state now.tail rs old) (sym w.replies-is)
          (let size = c.len-count.ensures.len in let low = w.if-count-gt0.false in let none : length rs ≡ 0 = omega (arith, size, low) in keeps_empty c.args.catalogue.now now.state now.tail rs old none)
    ]
