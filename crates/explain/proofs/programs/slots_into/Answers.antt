use Rattle.std.proofs.Common.{◌≡◌, ◌+◌, cond, [], ◌∷◌, ◌++◌, length, take, refl, sym, ap, ◌∙◌, arith}
use Rattle.std.specs.Prelude.{min}
use Rattle.insn.specs.Layout.{size, slot_count}
use Rattle.flow.proofs.Export.{begins_within, placed, size_next}
use Rattle.verifier.specs.Joined.{leads}
use Rattle.explain.proofs.Slots.{into, into_more, take_all}
use Rattle.explain.proofs.programs.slots_into.Goals as goal

pub loop-insn-init : goal.loop-insn-init
loop-insn-init c = λ small within.
    let p = c.args.program.now in
    let none : min 0 c.args.to ≡ 0 = omega arith in
    (refl, c.new-found.ensures.items ∙ ap (into p c.args.edge c.args.to) (sym none))

pub loop-insn-preserved : goal.loop-insn-preserved
loop-insn-preserved c = λ small within.
    let p = c.args.program.now in
    let k = c.loop-insn.insn-index in
    let from = c.loop-insn.from in
    let i = c.insn-item.result in
    let so_far = c.loop-insn.invariant small within in
    let at = placed p k from i c.loop-insn-test.true c.insn-item.is so_far.0 in
    let below = c.if-from-to.false in
    let next : from + slot_count i ≡ c.saturating_add-from.result = grind (arith, c.saturating_add-from.ensures, c.slot_count.ensures, at.within, small) in
    let now : min from c.args.to ≡ from = omega arith in
    let e = c.args.edge in
    let t = c.args.to in
    let led = c.leads.ensures (omega (arith, begins_within at, small)) in (
      omega (arith, next, so_far.0, size_next p k i c.loop-insn-test.true c.insn-item.is),
      (rw (led, c.form.ensures.same) at c.in_ok-push_if.ensures)
          ∙ ap (λ xs. xs ++ cond (leads i from e t) (from ∷ []) []) (so_far.1 ∙ ap (into p e t) now)
          ∙ sym (into_more p e t from i at below)
          ∙ ap (λ n. into p e t (min n t)) next,
    )

pub returns-then-from-to : goal.returns-then-from-to
returns-then-from-to c = λ small within.
    let so_far = c.loop-insn.invariant small within in
    let past = c.if-from-to.true in
    let all : min c.loop-insn.from c.args.to ≡ c.args.to = omega arith in
    so_far.1 ∙ ap (into c.args.program.now c.args.edge c.args.to) all

pub returns : goal.returns
returns c = λ small within.
    let p = c.args.program.now in
    let so_far = c.loop-insn.invariant small within in
    let past = c.loop-insn-test.false in
    let upto = c.loop-insn.auto.insn-index-end in
    let end : c.loop-insn.insn-index ≡ length p = omega arith in
    let whole : c.loop-insn.from ≡ size p = so_far.0 ∙ ap (λ n. size (take n p)) end ∙ ap size (take_all p) in
    let all : min c.loop-insn.from c.args.to ≡ c.args.to = omega (arith, whole, within) in
    so_far.1 ∙ ap (into p c.args.edge c.args.to) all
