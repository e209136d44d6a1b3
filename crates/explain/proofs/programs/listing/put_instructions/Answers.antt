use Rattle.std.proofs.Common.{◌≡◌, ◌+◌, length, subst, sym, arith}
use Rattle.std.specs.String.{string_bytes}
use Rattle.insn.specs.Layout.{slot_count}
use Rattle.explain.specs.Slots.{told_upto}
use Rattle.explain.proofs.Lines.{SoFar, nothing, line_more, slots_more, some_slot, whole}
use Rattle.explain.proofs.programs.listing.put_instructions.Goals as goal

pub loop-insn-init : goal.loop-insn-init
loop-insn-init c = λ small. nothing _ c.args.listed.now _

pub loop-insn-preserved : goal.loop-insn-preserved
loop-insn-preserved c =
    let p = c.args.listed.now in
    let told = told_upto c.args.study.now.subject.program.now c.args.study.now.known.kinds in
    let k = c.loop-insn.insn-index in
    let slot = c.loop-insn.slot in
    let i = c.insn-item.result in
    λ small.
    let so_far = c.loop-insn.invariant small in
    let fits = slots_more p k _ i c.loop-insn-test.true c.insn-item.is slot so_far.slots in
    let same : slot + slot_count i ≡ c.saturating_add-slot.result = grind (arith, c.saturating_add-slot.ensures, c.slot_count.ensures, fits, c.requires.first, small) in
    let words = sym (c.as_str.ensures.value) in
    let is_told = c.in_ok-told.ensures (record { few = small; within = omega (arith, fits, c.requires.first, some_slot i) }) in
    subst (λ n. SoFar told p (k + 1) n (string_bytes c.args.out.now) (string_bytes c.put_line.new.out)) same
    (line_more p k _ i c.loop-insn-test.true c.insn-item.is told slot _ _ _ so_far (rw (c.as_str.ensures.value, is_told) at c.in_ok-put_line.ensures))

pub returns : goal.returns
returns c =
    let past = c.loop-insn-test.false in
    let upto = c.loop-insn.auto.insn-index-end in
    let end : c.loop-insn.insn-index ≡ length c.args.listed.now = omega arith in
    λ small. whole _ c.args.listed.now c.loop-insn.insn-index c.loop-insn.slot _ _ end (c.loop-insn.invariant small)
