use Rattle.std.proofs.Common.{◌∙◌, ◌∷◌, [], ◌++◌, ap, sym}
use Rattle.schedule.specs.declared.steps.Step.TheVariants.{Collect, ReadAnswer}
use Rattle.settlement.proofs.NodeLists.{settling_next}
use Rattle.settlement.proofs.lists.settling.Goals as goal

pub loop-slot-preserved : goal.loop-slot-preserved
loop-slot-preserved c =
    c.in_ok-push-2.ensures.items ∙ (ap (λ xs. xs ++ ReadAnswer c.args.node c.loop-slot.slot ∷ []) (c.in_ok-push.ensures.items ∙ ap (λ xs. xs ++ Collect c.args.node c.loop-slot.slot ∷ []) c.loop-slot.invariant)
    ∙ sym (settling_next c.args.node c.loop-slot.slot))
