use Rattle.std.proofs.Common.{rules, arith, replicate, length, ap, subst, Some, ◌∙◌}
use Rattle.ownlock.specs.Seats.{At}
use Rattle.example_sums.proofs.Listed.{listed, pops_list, pops_sum, summed, two_items}
use Rattle.example_sums.proofs.both.close_two.Goals as goal

pub returns-clause-list : goal.returns-clause-list
returns-clause-list c =
    let values = c.close-values.result.items in
    let long = c.close-values.ensures.places ∙ c.requires.shelf.0 in
    let at = two_items values c.pop.new.self.items c.pop-2.new.self.items _ _ long c.in-Some-Some-Sum.ensures.items c.in-Some-Some-List.ensures.items in
    let first = c.in-Some-Some-List.field-0-is ∙ ap Some c.in-Some-Some-List.field-0-0-is in
    let few = ap (λ n. length (replicate n 0)) c.requires.shelf.1 in
    listed _ _ values c.close-values.ensures.values c.args.one c.args.other c.args.count c.in-Some-Some-List.list few c.join.ensures.joined c.requires.one c.requires.other long (subst (λ z. At 0 z values) first at.0)

pub unreachable-requires : goal.unreachable-requires
unreachable-requires c =
    let long = c.close-values.ensures.places ∙ c.requires.shelf.0 in
    let sum =
    pops_sum _ _ c.close-values.result.items c.close-values.ensures.values long c.pop.new.self.items c.pop.result
    c.pop.ensures.items (search rules) in
    search rules

pub unreachable-requires-in_default-pop : goal.unreachable-requires-in_default-pop
unreachable-requires-in_default-pop c =
    let long = c.close-values.ensures.places ∙ c.requires.shelf.0 in
    let list =
    pops_list _ _ c.close-values.result.items c.close-values.ensures.values long c.pop.new.self.items
    c.pop-2.result _ c.in-Some-Some-Sum.ensures.items c.pop-2.new.self.items c.pop-2.ensures.items
    (search rules) in
    search rules

pub returns-clause-sum : goal.returns-clause-sum
returns-clause-sum c =
    let values = c.close-values.result.items in
    let long = c.close-values.ensures.places ∙ c.requires.shelf.0 in
    let at = two_items values c.pop.new.self.items c.pop-2.new.self.items _ _ long c.in-Some-Some-Sum.ensures.items c.in-Some-Some-List.ensures.items in
    let first = c.in-Some-Some-List.field-0-is ∙ ap Some c.in-Some-Some-List.field-0-0-is in
    let last = c.in-Some-Some-Sum.field-0-is ∙ ap Some c.in-Some-Some-Sum.field-0-0-is in
    summed _ _ values c.close-values.ensures.values c.in-Some-Some-List.list c.in-Some-Some-Sum.sum long
    (subst (λ z. At 0 z values) first at.0) (subst (λ z. At 1 z values) last at.1)
