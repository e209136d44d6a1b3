use Rattle.std.proofs.Common.{◌<◌, ◌≤◌, ◌∙◌, length, arith}
use Rattle.dumps.specs.Pieces.{rows_of}
use Rattle.dumps.proofs.Remaining.{count_row, count_table, row_on, table_on, table_there}
use Rattle.dumps.proofs.pieces.next_row.Goals as goal

pub returns-then-next-len-clause-row : goal.returns-then-next-len-clause-row
returns-then-next-len-clause-row c = λ d.
    let tables = c.args.tables.now.items in
    let t = c.index-table.result.now in
    let n = c.loop-next.next in
    let low : n.map < length tables = omega (arith, c.loop-next-test.true, c.len.ensures, c.args.tables.now.ok.0) in
    let within : n.row < length t.items = omega (arith, c.if-next-len.true, c.len-in-loop-next.ensures, t.ok.0) in
    c.loop-next.invariant.0 d ∙ row_on d (rows_of tables) n.map n.row t.items c.index-place.result.now (table_there tables n.map t low c.index-table.ensures) within c.index-place.ensures

pub returns-then-next-len-clause-fewer : goal.returns-then-next-len-clause-fewer
returns-then-next-len-clause-fewer c =
    let tables = c.args.tables.now.items in
    let t = c.index-table.result.now in
    let n = c.loop-next.next in
    let low : n.map < length tables = omega (arith, c.loop-next-test.true, c.len.ensures, c.args.tables.now.ok.0) in
    let within : n.row < length t.items = omega (arith, c.if-next-len.true, c.len-in-loop-next.ensures, t.ok.0) in
    let less = count_row (rows_of tables) n.map n.row t.items (table_there tables n.map t low c.index-table.ensures) within in
    let before = c.loop-next.invariant.2 in
    omega (arith, less, before)

pub loop-next-preserved : goal.loop-next-preserved
loop-next-preserved c =
    let tables = c.args.tables.now.items in
    let t = c.index-table.result.now in
    let n = c.loop-next.next in
    let all = c.loop-next-test.true in
    let none = c.if-next-len.false in
    let low : n.map < length tables = omega (arith, all, c.len.ensures, c.args.tables.now.ok.0) in
    let past : length t.items ≤ n.row = omega (arith, none, c.len-in-loop-next.ensures, t.ok.0) in
    let at = table_there tables n.map t low c.index-table.ensures in
    let less = count_table (rows_of tables) n.map n.row t.items at past in
    let before = c.loop-next.invariant.2 in
    (λ d. c.loop-next.invariant.0 d ∙ table_on d (rows_of tables) n.map n.row t.items at past, c.loop-next.invariant.1, omega (arith, less, before))
