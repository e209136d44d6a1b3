use Rattle.std.proofs.Common.{None, arith}
use Rattle.std.specs.Vec.Iter.{into_iter_items}
use Rattle.ownlock.proofs.Spread.{gap_left, gap_passed}
use Rattle.ownlock.proofs.spreading.pass_gap.Goals as goal

pub loop-preserved : goal.loop-preserved
loop-preserved g c =
    let i = c.loop.invariant in
    let k = c.loop.counter in
    let first = c.pass.ensures in (
      i.0,
      gap_left (into_iter_items c.loop.rest) (into_iter_items c.pass.new.rest) i.0 None k c.loop-test.true i.1 first,
      gap_passed _ (into_iter_items c.loop.rest) (into_iter_items c.pass.new.rest) None k i.3 i.2 first,
      omega arith,
      omega (arith, c.loop-test.true),
    )
