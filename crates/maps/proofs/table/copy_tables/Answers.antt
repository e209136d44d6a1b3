use Rattle.std.proofs.Common.{◌<◌, ◌≤◌, length, arith}
use Rattle.maps.proofs.Copied.{count, alike, copied_one, copied_all}
use Rattle.maps.proofs.table.copy_tables.Goals as goal

pub copy_from-requires : goal.copy_from-requires
copy_from-requires c =
    let low : c.loop-m.m < length c.loop-m.tables.items =
    let now = count c.loop-m.tables.items c.args.source.now.items c.loop-m.invariant.shapes in
    let before = count c.args.tables.now.items c.args.source.now.items c.requires.shapes in
    let ok = c.args.tables.now.ok.0 in omega (arith, c.loop-m-test.true, now, before, ok, c.len-m-end.ensures) in
    let next = alike c.loop-m.m c.loop-m.tables.items c.args.source.now.items c.index_mut-table.result.now c.index.result.now c.requires.source c.loop-m.invariant low c.index_mut-table.ensures.value c.index.ensures in
    record { table = next.table; source = next.source; shape = next.shape }

pub loop-m-preserved : goal.loop-m-preserved
loop-m-preserved c =
    let low : c.loop-m.m < length c.loop-m.tables.items =
    let now = count c.loop-m.tables.items c.args.source.now.items c.loop-m.invariant.shapes in
    let before = count c.args.tables.now.items c.args.source.now.items c.requires.shapes in
    let ok = c.args.tables.now.ok.0 in omega (arith, c.loop-m-test.true, now, before, ok, c.len-m-end.ensures) in
    copied_one c.loop-m.m c.loop-m.tables.items c.args.source.now.items c.index_mut-table.result.now c.index.result.now c.copy_from.new.self c.requires.source c.loop-m.invariant low c.index_mut-table.ensures.value c.index.ensures
    c.copy_from.ensures.same c.copy_from.ensures.table

pub returns : goal.returns
returns c =
    let many : length c.loop-m.tables.items ≤ c.loop-m.m =
    let now = count c.loop-m.tables.items c.args.source.now.items c.loop-m.invariant.shapes in
    let before = count c.args.tables.now.items c.args.source.now.items c.requires.shapes in
    let ok = c.args.tables.now.ok.0 in omega (arith, c.loop-m-test.false, now, before, ok, c.len-m-end.ensures) in
    record { same = copied_all c.loop-m.tables.items c.args.source.now.items c.loop-m.m many c.loop-m.invariant; tables = c.loop-m.invariant.tables }
