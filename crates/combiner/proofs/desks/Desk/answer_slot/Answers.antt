use Rattle.std.proofs.Common.{◌+◌, ◌≤◌, [], ap, sym, ◌∙◌, arith, length}
use Rattle.std.proofs.lemmas.Option.{same_Some}
use Rattle.combiner.specs.declared.places.Place.{Place}
use Rattle.combiner.specs.Answering.{answered_by, uses}
use Rattle.combiner.specs.Desks.{with_slot}
use Rattle.combiner.proofs.Placed.{place_of, place_there, put_place, low_in, placed_still, claimed_any}
use Rattle.combiner.proofs.Counts.{answer_kept}
use Rattle.combiner.proofs.desks.Desk.answer_slot.Goals as goal

pub answer-after-requires-clause-answer : goal.answer-after-requires-clause-answer
answer-after-requires-clause-answer c =
    let a = c.self.inside in
    let o : Place = c.index-places-slot.result in
    λ other claimed. c.requires.answer _ (place_there a c.args.slot o c.args.self.now c.self.view_is c.requires.slot) (claimed_any a.beside.items other (place_of a c.args.slot o) ∙ claimed)

pub returns-clause-desk : goal.returns-clause-desk
returns-clause-desk c =
    let a = c.self.inside in
    let most = c.self.invariant.1 in
    let fits : a.count ≤ length a.places = omega (arith, most) in
    let here = place_there a c.args.slot _ c.args.self.now c.self.view_is c.requires.slot in
    λ x at. put_place a _ c.args.slot c.answer-after.new.self c.args.self.now c.self.view_is fits
    ∙ ap (with_slot c.args.self.now c.args.slot) (c.answer-after.ensures.answered a.beside.items ∙ ap (answered_by c.args.batch.now c.args.next) (same_Some _ x (sym here ∙ at)))

pub returns-clause-next : goal.returns-clause-next
returns-clause-next c =
    let a = c.self.inside in
    let here = place_there a c.args.slot _ c.args.self.now c.self.view_is c.requires.slot in
    λ x at. c.answer-after.ensures.next a.beside.items ∙ ap (λ y. c.args.next + uses y.stage) (same_Some _ x (sym here ∙ at))

pub overflow_sub-self-2 : goal.overflow_sub-self-2
overflow_sub-self-2 c =
    let a = c.self.inside in
    let is = c.self.invariant in
    let most = is.1 in
    let fits : a.count ≤ length a.places = omega (arith, most) in
    let here = place_there a c.args.slot _ c.args.self.now c.self.view_is c.requires.slot in
    (answer_kept a [] c.args.slot _ c.answer-after.new.self c.args.self.now c.args.batch.now c.args.next c.answer-after.result (c.self.view_is, fits, c.requires.slot, (is.0, is.1, is.2, is.3)) (c.requires.answer _ here) (c.answer-after.ensures.answered a.beside.items) (c.answer-after.ensures.next a.beside.items)).0

pub invariant_of-self : goal.invariant_of-self
invariant_of-self c =
    let a = c.self.inside in
    let is = c.self.invariant in
    let most = is.1 in
    let fits : a.count ≤ length a.places = omega (arith, most) in
    let low = low_in a c.args.slot c.args.self.now c.self.view_is fits c.requires.slot in
    let here = place_there a c.args.slot _ c.args.self.now c.self.view_is c.requires.slot in
    let kept = (answer_kept a _ c.args.slot _ c.answer-after.new.self c.args.self.now c.args.batch.now c.args.next c.answer-after.result (c.self.view_is, fits, c.requires.slot, (is.0, is.1, is.2, is.3)) (c.requires.answer _ here) (c.answer-after.ensures.answered a.beside.items) (c.answer-after.ensures.next a.beside.items)).1 in
    (kept.0, kept.1, kept.2, kept.3, placed_still a _ c.args.slot _ c.answer-after.new.self fits low c.answer-after.ensures.op is.4, is.5)
