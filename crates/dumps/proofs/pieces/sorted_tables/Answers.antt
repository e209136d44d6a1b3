use Rattle.std.proofs.Common.{◌<◌, length, arith}
use Rattle.maps.specs.MapSets.{stored_shapes}
use Rattle.dumps.proofs.Remaining.{pushed_more}
use Rattle.dumps.proofs.pieces.sorted_tables.Goals as goal

pub loop-m-preserved : goal.loop-m-preserved
loop-m-preserved c =
    let some = c.loop-m-test.true in
    let many = c.count-m-end.ensures.count in
    let low : c.loop-m.m < length (stored_shapes c.args.maps.now) = omega (arith, some, many) in
    pushed_more c.args.maps.now c.loop-m.m c.loop-m.tables.items c.push.new.self.items c.in_ok-table.table c.in_ok-push.ensures.items low c.in_ok-table.ensures c.loop-m.invariant
