use Rattle.std.proofs.Common.{◌++◌, ℕ, ◌+◌, List, drop, sym, ap, ◌∙◌, append_assoc}
use Rattle.scheduling.specs.ScheduleAnswer.{nodes_text}
use Rattle.scheduling.proofs.StepLines.{tail_text, node_from}
use Rattle.scheduling.proofs.step_lists.put_end.Goals as goal

pub loop-number-preserved : goal.loop-number-preserved
loop-number-preserved c =
    let nodes = c.args.world.now.world.nodes in
    let k = c.loop-number.number in
    let more = nodes_text (k + 1) (drop (k + 1) nodes) in
    ap (λ (x : List ℕ). x ++ more) c.in_ok-put_pair-2.ensures ∙ append_assoc c.loop-number.out.items (tail_text k c.tail-in-loop-number.result) more
    ∙ ap (λ (x : List ℕ). c.loop-number.out.items ++ x) (sym (node_from k k nodes c.in-Some.replica.now c.tail-in-loop-number.result c.in-Some.ensures.replica c.tail-in-loop-number.ensures.tail)) ∙ c.loop-number.invariant
