use Rattle.std.proofs.Common.{◌+◌, ◌%◌, ◌^◌, ◌<◌, length, take, ap, sym, ◌∙◌, refl, arith}
use Rattle.example_sums.specs.Sums.{total}
use Rattle.example_sums.proofs.Totals.{total_next, mod_add}
use Rattle.example_sums.proofs.replay.replay.Goals as goal

pub loop-index-preserved : goal.loop-index-preserved
loop-index-preserved c =
    let xs = c.args.list.now.items.items in
    let k = c.loop-index.index in
    let x = c.index.result.now in
    let near = c.loop-index-test.true in
    let small : k < length xs = omega (arith, near) in
    ap (λ z. (z + x) % 2 ^ 64) c.loop-index.invariant ∙ (mod_add (2 ^ 64) (total (take k xs)) x ∙ ap (λ z. z % 2 ^ 64) (ap (λ z. total (take k xs) + z) c.index.ensures ∙ sym (total_next xs k (k + 1) x refl small)))
