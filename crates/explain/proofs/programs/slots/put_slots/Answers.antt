use Rattle.std.proofs.Common.{◌≡◌, [], ◌∷◌, length, refl, arith}
use Rattle.std.specs.Prelude.{codes, decimal}
use Rattle.std.specs.List.{concat}
use Rattle.explain.proofs.Slots.{item_more, items_all}
use Rattle.explain.proofs.programs.slots.put_slots.Goals as goal

pub loop-slot-preserved : goal.loop-slot-preserved
loop-slot-preserved c =
    item_more (λ s. concat (codes ", " ∷ decimal s ∷ [])) c.args.slots.now c.loop-slot.slot-index 0 _ c.loop-slot-test.true refl _ _ _ c.loop-slot.invariant (rw c.format.ensures.text at c.in_ok-put_all.ensures)

pub returns : goal.returns
returns c =
    let past = c.loop-slot-test.false in
    let upto = c.loop-slot.auto.slot-index-end in
    let end : c.loop-slot.slot-index ≡ length c.args.slots.now = omega arith in
    items_all (λ s. concat (codes ", " ∷ decimal s ∷ [])) c.args.slots.now c.loop-slot.slot-index _ _ end c.loop-slot.invariant
