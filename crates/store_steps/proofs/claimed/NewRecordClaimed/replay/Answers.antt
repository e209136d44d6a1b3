use Rattle.std.proofs.Common.{◌≡◌, [], ◌∷◌, ◌++◌, ◌∙◌, Some, ap, length, subst, sym, take}
use Rattle.std.specs.Prelude.{if◌then◌else◌}
use Rattle.replica.specs.Replaying.{KeepsOutcomes}
use Rattle.replica.specs.Views.{RepliesView}
use Rattle.node.proofs.Export.{keeps_after}
use Rattle.store_steps.specs.Due.{placed_of}
use Rattle.store_steps.proofs.Single.{keeps_none, keeps_one}
use Rattle.store_steps.proofs.claimed.NewRecordClaimed.replay.Goals as goal

pub returns-then-replies-clause-kept : goal.returns-then-replies-clause-kept
returns-then-replies-clause-kept c =
    let n = c.args.node.now in
    let o = c.replay_one-outcome.result in
    let r = c.args.self.now in
    let one : length c.args.replies.now.outcomes ≡ 1 =
    sym (ap (λ (z : RepliesView). length z.outcomes) c.replies.view_is) ∙ ap (λ b. length (if b then c.replies.inside.outcome ∷ [] else [])) c.if-replies.true in
    let first = ap (λ (z : RepliesView). z.first) c.replies.view_is in
    let last = ap (λ b. if b then Some o ∷ [] else []) c.if-replies.true in
    let new : RepliesView = record { first = c.replies.inside.index; outcomes = if c.replies.inside.has_place then Some o ∷ [] else [] } in
    subst (λ more. KeepsOutcomes c.args.catalogue.now n.replica.state n.replica.tail (n.hand.records ++ more) c.args.replies.now new) (sym (ap (λ k. take k (r ∷ [])) one))
    (keeps_one c.args.catalogue.now n.replica.state n.replica.tail n.hand.records r o c.args.replies.now new c.requires.last one (λ j. record { first = first j; outcomes = last j }) c.replay_one-outcome.ensures.outcome)

pub returns-then-replies-clause-replies : goal.returns-then-replies-clause-replies
returns-then-replies-clause-replies c = keeps_after _ _ _ _ _ _ (returns-then-replies-clause-kept c)

pub returns-else-replies-clause-replies : goal.returns-else-replies-clause-replies
returns-else-replies-clause-replies c =
    let none = sym (ap (λ (z : RepliesView). length z.outcomes) c.replies.view_is) ∙ ap (λ b. length (if b then c.replies.inside.outcome ∷ [] else [])) c.if-replies.false in
    let n = c.args.node.now in
    let more = placed_of (c.args.self.now ∷ []) c.args.replies.now in
    keeps_after c.args.catalogue.now n.replica.state n.replica.tail (n.hand.records ++ more) c.args.replies.now c.args.replies.now
    (keeps_none c.args.catalogue.now n.replica.state n.replica.tail (n.hand.records ++ more) c.args.replies.now none)
