use Rattle.std.proofs.Common.{◌+◌, take, sym, ap, ◌∙◌, arith}
use Rattle.std.specs.Prelude.{nat_eq, ◌||◌}
use Rattle.insn.specs.Layout.{size}
use Rattle.flow.specs.SlotSets.{has_slot}
use Rattle.flow.proofs.Positions.{size_next, size_within, wide_halves, narrow_halves}
use Rattle.flow.proofs.deciding.second_halves.Goals as goal
use Rattle.flow.proofs.deciding.second_halves.Goals.{then-slot_count-eq2, else-slot_count-eq2}

pub overflow_add-slot : goal.overflow_add-slot
overflow_add-slot c = omega (arith, size_within c.args.program.now c.loop-insn.insn-index)

pub insert-requires : goal.insert-requires
insert-requires c =
    let p = c.args.program.now in
    let k = c.loop-insn.insn-index in
    omega (arith, size_next p k c.insn-item.result c.loop-insn-test.true c.insn-item.is, size_within p (k + 1))

pub overflow_add-slot-in-loop-insn : goal.overflow_add-slot-in-loop-insn
overflow_add-slot-in-loop-insn c =
    let p = c.args.program.now in
    let k = c.loop-insn.insn-index in
    omega (arith, size_next p k c.insn-item.result c.loop-insn-test.true c.insn-item.is, size_within p (k + 1))

pub loop-insn-preserved : goal.loop-insn-preserved
loop-insn-preserved c =
    let p = c.args.program.now in
    let k = c.loop-insn.insn-index in
    let i = c.insn-item.result in
    let h = c.loop-insn-test.true in
    let counted = c.loop-insn.invariant.counted in
    let before = c.loop-insn.invariant.halves in
    record {
      counted = omega (arith, counted, size_next p k i h c.insn-item.is);
      halves = λ t.
          elim c.if-slot_count-eq2.branch [
            | then-slot_count-eq2 w ↦
                ap (λ s. has_slot s t) w.halves-is
                ∙ w.insert.ensures t
                ∙ ap (λ n. nat_eq t (n + 1) || has_slot c.loop-insn.halves t) counted
                ∙ ap (λ b. nat_eq t (size (take k p) + 1) || b) (before t)
                ∙ sym (wide_halves p k i h c.insn-item.is (omega (arith)) t)
            | else-slot_count-eq2 w ↦
                ap (λ s. has_slot s t) w.halves-is ∙ before t ∙ sym (narrow_halves p k i h c.insn-item.is (λ two. w.if-slot_count-eq2.false (omega (arith, two))) t)
          ];
    }
