use Rattle.std.proofs.Common.{arith, ap, ◌≡◌, ◌+◌, suc, None, sym, ◌∙◌, subst, take, length, refl}
use Rattle.std.specs.Prelude.{slice_get}
use Rattle.insn.specs.Layout.{size, slot_count}
use Rattle.flow.specs.Structure.{StandsAt}
use Rattle.verifier.specs.Verdict.{lowest_refusal}
use Rattle.verifier.proofs.Slots.{size_next, size_inside, stands_in, widths, Widths, take_all, read}
use Rattle.verifier.proofs.Sweep.{Swept, begin, inside, there, known_to, turn, broken_here}
use Rattle.verifier.proofs.verification.sweep.Goals as goal

pub loop-insn-init : goal.loop-insn-init
loop-insn-init c =
    let n = c.count_slots-slots.ensures.slots in
    (refl, begin c.args.program.now c.args.l.now c.count_slots-slots.result c.first_frames.new.frames.items (omega (arith, n, c.requires.good_size.some)) n c.first_frames.ensures.frames, c.first_frames.ensures.room)

pub visit-requires-clause-few : goal.visit-requires-clause-few
visit-requires-clause-few c = omega (arith, c.loop-insn.invariant.1.long, c.requires.good_size.few, c.loop-insn.frames.ok.0)

pub visit-requires-clause-inside : goal.visit-requires-clause-inside
visit-requires-clause-inside c =
    let p = c.args.program.now in
    let here = read p c.loop-insn.insn-index c.insn-item.result c.form-i.result c.loop-insn-test.true c.insn-item.is c.form-i.ensures.same in
    let stands = subst (StandsAt p c.form-i.result) (sym c.loop-insn.invariant.0) (stands_in p c.loop-insn.insn-index c.form-i.result here) in
    omega (arith, inside p c.args.l.now c.loop-insn.frames.items c.loop-insn.slot c.loop-insn.invariant.1 c.form-i.result stands, c.loop-insn.frames.ok.0)

pub visit-requires-clause-frame : goal.visit-requires-clause-frame
visit-requires-clause-frame c =
    let p = c.args.program.now in
    let here = read p c.loop-insn.insn-index c.insn-item.result c.form-i.result c.loop-insn-test.true c.insn-item.is c.form-i.ensures.same in
    let stands = subst (StandsAt p c.form-i.result) (sym c.loop-insn.invariant.0) (stands_in p c.loop-insn.insn-index c.form-i.result here) in
    λ f e. there p c.args.l.now c.loop-insn.frames.items c.loop-insn.slot c.loop-insn.invariant.1 c.form-i.result stands f e

pub overflow_add-slot : goal.overflow_add-slot
overflow_add-slot c =
    let p = c.args.program.now in
    let here = read p c.loop-insn.insn-index c.insn-item.result c.form-i.result c.loop-insn-test.true c.insn-item.is c.form-i.ensures.same in
    omega (arith, size_inside p c.loop-insn.insn-index c.form-i.result here, c.loop-insn.invariant.0, c.slot_count-slot.ensures.count, c.requires.good_size.few)

pub overflow_cast-result : goal.overflow_cast-result
overflow_cast-result c =
    let p = c.args.program.now in
    let here = read p c.loop-insn.insn-index c.insn-item.result c.form-i.result c.loop-insn-test.true c.insn-item.is c.form-i.ensures.same in
    omega (arith, size_inside p c.loop-insn.insn-index c.form-i.result here, c.loop-insn.invariant.0, c.requires.good_size.few)

pub returns-in-Some-clause-reading : goal.returns-in-Some-clause-reading
returns-in-Some-clause-reading c =
    let p = c.args.program.now in
    let here = read p c.loop-insn.insn-index c.insn-item.result c.form-i.result c.loop-insn-test.true c.insn-item.is c.form-i.ensures.same in
    let stands = subst (StandsAt p c.form-i.result) (sym c.loop-insn.invariant.0) (stands_in p c.loop-insn.insn-index c.form-i.result here) in
    let v = c.in-Some.ensures.visits in
    sym (broken_here p c.args.l.now c.loop-insn.frames.items c.loop-insn.slot c.loop-insn.invariant.1 c.form-i.result stands v.0 c.in-Some.why v.1 v.2)

pub returns-in-Some-clause-known : goal.returns-in-Some-clause-known
returns-in-Some-clause-known c =
    let v = c.in-Some.ensures.visits in
    λ t lt le. ap (λ xs. slice_get xs t) v.3 ∙ known_to c.args.program.now c.args.l.now c.loop-insn.frames.items c.loop-insn.slot c.loop-insn.invariant.1 t le lt

pub returns-in-Some-clause-slots : goal.returns-in-Some-clause-slots
returns-in-Some-clause-slots c = let v = c.in-Some.ensures.visits in ap length v.3 ∙ c.loop-insn.invariant.1.long

pub loop-insn-preserved : goal.loop-insn-preserved
loop-insn-preserved c =
    let p = c.args.program.now in
    let here = read p c.loop-insn.insn-index c.insn-item.result c.form-i.result c.loop-insn-test.true c.insn-item.is c.form-i.ensures.same in
    let stands = subst (StandsAt p c.form-i.result) (sym c.loop-insn.invariant.0) (stands_in p c.loop-insn.insn-index c.form-i.result here) in
    let next : suc c.loop-insn.insn-index ≡ c.loop-insn.insn-index + 1 = omega arith in
    let more = size_next p c.loop-insn.insn-index c.form-i.result here in
    let sum : c.loop-insn.slot + c.slot_count-slot.result ≡ size (take (suc c.loop-insn.insn-index) p) = omega (arith, more, c.loop-insn.invariant.0, c.slot_count-slot.ensures.count) in
    let wide = subst (Widths p c.form-i.result) (sym c.loop-insn.invariant.0) (widths p c.loop-insn.insn-index c.form-i.result here) in
    let on = turn p c.args.l.now c.loop-insn.frames.items c.loop-insn.slot c.loop-insn.invariant.1 c.form-i.result stands c.visit.new.frames.items wide c.in-None.ensures.visits in
    let same : c.loop-insn.slot + slot_count c.form-i.result ≡ c.loop-insn.slot + c.slot_count-slot.result = ap (λ n. c.loop-insn.slot + n) (sym c.slot_count-slot.ensures.count) in
    (sum ∙ ap (λ n. size (take n p)) next, subst (Swept p c.args.l.now c.visit.new.frames.items) same on, c.in-None.ensures.room ∙ c.loop-insn.invariant.2)

pub returns-clause-reading : goal.returns-clause-reading
returns-clause-reading c =
    let p = c.args.program.now in
    let all : c.loop-insn.insn-index ≡ length p = omega (arith, c.loop-insn.auto.insn-index-end, c.loop-insn-test.false) in
    let end : c.loop-insn.slot ≡ size p = c.loop-insn.invariant.0 ∙ ap (λ n. size (take n p)) all ∙ ap size (take_all p) in
    sym (subst (λ n. lowest_refusal p c.args.l.now n ≡ None) end c.loop-insn.invariant.1.unbroken)

pub returns-clause-known : goal.returns-clause-known
returns-clause-known c =
    let p = c.args.program.now in
    let all : c.loop-insn.insn-index ≡ length p = omega (arith, c.loop-insn.auto.insn-index-end, c.loop-insn-test.false) in
    let end : c.loop-insn.slot ≡ size p = c.loop-insn.invariant.0 ∙ ap (λ n. size (take n p)) all ∙ ap size (take_all p) in
    λ t lt up. c.loop-insn.invariant.1.behind t (omega (arith, end)) lt

pub returns-clause-slots : goal.returns-clause-slots
returns-clause-slots c = c.loop-insn.invariant.1.long
