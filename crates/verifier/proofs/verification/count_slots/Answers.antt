use Rattle.std.proofs.Common.{arith, ap, ◌≡◌, ◌+◌, suc, sym, ◌∙◌, subst, take, length}
use Rattle.std.specs.List.{AllByRecursion}
use Rattle.insn.specs.Layout.{size}
use Rattle.insn.specs.Encoding.{HasEncoding}
use Rattle.verifier.proofs.Slots.{size_next, size_inside, all_next, take_all}
use Rattle.verifier.proofs.Slots.{read}
use Rattle.verifier.proofs.verification.count_slots.Goals as goal

pub overflow_add-slots : goal.overflow_add-slots
overflow_add-slots c =
    let here = read c.args.program.now c.loop-insn.insn-index c.insn-item.result c.form.result c.loop-insn-test.true c.insn-item.is c.form.ensures.same in
    omega (arith, size_inside c.args.program.now c.loop-insn.insn-index c.form.result here, c.loop-insn.invariant.0, c.slot_count-slots.ensures.count, c.requires.few)

pub loop-insn-preserved : goal.loop-insn-preserved
loop-insn-preserved c =
    let here = read c.args.program.now c.loop-insn.insn-index c.insn-item.result c.form.result c.loop-insn-test.true c.insn-item.is c.form.ensures.same in
    let next : suc c.loop-insn.insn-index ≡ c.loop-insn.insn-index + 1 = omega arith in
    let more = size_next c.args.program.now c.loop-insn.insn-index c.form.result here in
    let sum : c.loop-insn.slots + c.slot_count-slots.result ≡ size (take (suc c.loop-insn.insn-index) c.args.program.now) = omega (arith, more, c.loop-insn.invariant.0, c.slot_count-slots.ensures.count) in
    subst (λ n. (c.loop-insn.slots + c.slot_count-slots.result ≡ size (take n c.args.program.now)) × AllByRecursion HasEncoding (take n c.args.program.now)) next
    (sum, all_next HasEncoding c.args.program.now c.loop-insn.insn-index c.form.result here (subst HasEncoding (sym c.form.ensures.same) c.form.ensures.spelled) c.loop-insn.invariant.1)

pub returns-clause-slots : goal.returns-clause-slots
returns-clause-slots c =
    let all : c.loop-insn.insn-index ≡ length c.args.program.now = omega (arith, c.loop-insn.auto.insn-index-end, c.loop-insn-test.false) in
    c.loop-insn.invariant.0 ∙ ap (λ n. size (take n c.args.program.now)) all ∙ ap size (take_all c.args.program.now)

pub returns-clause-instructions : goal.returns-clause-instructions
returns-clause-instructions c =
    let all : c.loop-insn.insn-index ≡ length c.args.program.now = omega (arith, c.loop-insn.auto.insn-index-end, c.loop-insn-test.false) in
    subst (AllByRecursion HasEncoding) (ap (λ n. take n c.args.program.now) all ∙ take_all c.args.program.now) c.loop-insn.invariant.1
