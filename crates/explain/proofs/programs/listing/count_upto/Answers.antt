use Rattle.std.proofs.Common.{◌+◌, inl, inr, refl, ap, arith}
use Rattle.explain.proofs.Lines.{begin_upto, counted_more, counted_none}
use Rattle.explain.proofs.programs.listing.count_upto.Goals as goal

pub loop-insn-init : goal.loop-insn-init
loop-insn-init c = record { count = refl; counted = λ small. counted_none c.args.program.now c.args.last }

pub loop-insn-preserved : goal.loop-insn-preserved
loop-insn-preserved c =
    let so_far = c.loop-insn.invariant in
    record {
      count = ap (λ n. n + 1) so_far.count;
      counted = λ small.
          counted_more c.args.program.now c.loop-insn.insn-index _ c.insn-item.result c.loop-insn-test.true c.insn-item.is c.args.last c.loop-insn.slot c.saturating_add-slot.result small c.if-slot-last.false
          (λ fits. grind (arith, c.saturating_add-slot.ensures, c.slot_count.ensures, fits)) (so_far.counted small);
    }

pub returns-then-slot-last-clause-upto : goal.returns-then-slot-last-clause-upto
returns-then-slot-last-clause-upto c = λ small.
    let so_far = c.loop-insn.invariant in
    begin_upto c.args.program.now c.args.last c.loop-insn.insn-index c.loop-insn.slot c.loop-insn.count so_far.count (so_far.counted small) (inr c.if-slot-last.true)

pub returns-clause-upto : goal.returns-clause-upto
returns-clause-upto c = λ small.
    let so_far = c.loop-insn.invariant in
    let past = c.loop-insn-test.false in
    begin_upto c.args.program.now c.args.last c.loop-insn.insn-index c.loop-insn.slot c.loop-insn.count so_far.count (so_far.counted small) (inl (omega arith))
