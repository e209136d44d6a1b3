use Rattle.std.proofs.Common.{◌≡◌, subst, arith}
use Rattle.dumps.proofs.KeyOrder.{IsKeyed, all_keyed, has_entries}
use Rattle.dumps.proofs.sorting.keyed_places.Goals as goal

pub scan-page-requires-clause-place : goal.scan-page-requires-clause-place
scan-page-requires-clause-place c = has_entries _ c.args.m c.requires.shapes

pub returns : goal.returns
returns c = λ s at.
    let past = c.loop-place-test.false in
    let within = c.loop-place.auto.place-end in
    let end : c.loop-place.place ≡ c.places-place-end.result = omega (arith, past, within) in
    let keyed = subst (λ n. IsKeyed c.args.maps.now c.args.m n c.loop-place.places.items) end c.loop-place.invariant.0 in
    all_keyed c.args.maps.now c.args.m c.places-place-end.result s c.loop-place.places.items _ _ at c.scan-page.ensures.page c.places-place-end.ensures.places keyed
