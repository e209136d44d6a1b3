use Rattle.std.proofs.Common.{arith, ◌++◌, sym, ap, ◌∙◌, length}
use Rattle.ownlock.specs.Spreading.{spread}
use Rattle.std.specs.Vec.Iter.{into_iter_items}
use Rattle.std.proofs.lemmas.List.{length_push, nil_from_length}
use Rattle.ownlock.proofs.Spread.{spread_first, gathered_more, gathered_all, passed}
use Rattle.ownlock.proofs.spreading.gather.Goals as goal

pub pass_gap-requires : goal.pass_gap-requires
pass_gap-requires g c =
    let i = c.loop-value.invariant in
    let t = spread_first i.0 _ c.in-Some.value (sym i.1 ∙ c.in-Some.ensures.items) in
    (spread t.0, t.2)

pub loop-value-preserved : goal.loop-value-preserved
loop-value-preserved g c =
    let i = c.loop-value.invariant in
    let p = c.push_reserved.ensures in
    let t = spread_first i.0 _ c.in-Some.value (sym i.1 ∙ c.in-Some.ensures.items) in
    let room = c.loop-value.room.items in
    let long = ap length p.items ∙ length_push room c.in-Some.value in
    let left = ap length t.1 in
    let fits = i.3 in
    let capacity = p.capacity in (
      t.0,
      passed _ _ c.pass_gap.ensures (spread t.0) t.2,
      gathered_more room i.0 t.0 _ c.in-Some.value t.1 i.2 ∙ ap (λ l. spread (l ++ t.0)) (sym p.items),
      omega (arith, long, left, fits, capacity),
    )

pub returns : goal.returns
returns g c =
    let i = c.loop-value.invariant in
    gathered_all c.loop-value.room.items i.0 _ (sym (nil_from_length (into_iter_items c.loop-value.rest) (sym c.loop-value.rest.rest.ok.0 ∙ c.in_default.ensures.cases.0)) ∙ i.1) i.2
