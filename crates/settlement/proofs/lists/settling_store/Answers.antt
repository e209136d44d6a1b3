use Rattle.std.proofs.Common.{◌≡◌, ◌++◌, ◌∙◌, ap, sym, rules}
use Rattle.settlement.specs.Settling.{settling}
use Rattle.settlement.proofs.NodeLists.{settling_all_next}
use Rattle.settlement.proofs.lists.settling_store.Goals as goal

pub loop-node-preserved : goal.loop-node-preserved
loop-node-preserved c =
    let more : c.in_ok-more.more.items ≡ settling c.loop-node.node c.args.config.slots = search rules in
    c.in_ok-append.ensures.items ∙ (ap (λ steps. c.loop-node.steps.items ++ steps) more ∙ (ap (λ steps. steps ++ settling c.loop-node.node c.args.config.slots) c.loop-node.invariant ∙ sym (settling_all_next c.loop-node.node c.args.config.slots)))
