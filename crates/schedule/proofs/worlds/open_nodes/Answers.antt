use Rattle.std.proofs.Common.{rules, [], ◌∷◌, ◌++◌, ◌+◌, ◌≡◌, sym, ap, ap₂, ◌∙◌, arith}
use Rattle.schedule.specs.Worlds.{opened_node, opened_nodes}
use Rattle.schedule.proofs.Runs.{nodes_next}
use Rattle.schedule.proofs.worlds.open_nodes.Goals as goal

pub loop-number-preserved : goal.loop-number-preserved
loop-number-preserved c =
    let m = c.args.opening.now in
    let n = c.loop-number.number in
    let from : 0 + n ≡ n = omega arith in
    record {
      capacity = search (rules, c.push_reserved.ensures.capacity, c.loop-number.invariant.capacity);
      items = c.push_reserved.ensures.items ∙ (ap₂ (λ nodes node. nodes ++ node ∷ []) c.loop-number.invariant.items c.in_ok-node.ensures.opened
          ∙ sym (nodes_next m 0 n ∙ ap (λ k. opened_nodes m 0 n ++ opened_node m k ∷ []) from));
    }
