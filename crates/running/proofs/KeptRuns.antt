-- The state that a run leaves.
use Rattle.std.proofs.Common.{◌≡◌, ℕ, Option, Some, None, sym, ap, ◌∙◌}
use Rattle.std.specs.Prelude.{option_map}
use Rattle.loader.specs.StoreState.{StoreState}
use Rattle.loader.specs.CatalogueView.{CatalogueView}
use Rattle.oplog.specs.History.{History}
use Rattle.running.specs.declared.single_node.SingleNode.{SingleNode}
use Rattle.engine.specs.declared.replies.Verdict.TheVariants as verdicts
use Rattle.running.specs.RunAnswer.{state_of}
use Rattle.running.proofs.Turns.{whole}
use Rattle.running.specs.Running.{HasLeft}

-- ---- the state that is left

pub left_good : (limit : ℕ) (c : CatalogueView) (n : SingleNode) (left : Option History) (s : StoreState) → s ≡ n.own.replica.state → HasLeft limit c n left verdicts.Good → Some s ≡ option_map (state_of c) left
left_good limit c n None s is has = absurd cc
left_good limit c n (Some h) s is has = ap (λ (x : StoreState). Some x) (is ∙ has.1.state ∙ sym (whole c h))
