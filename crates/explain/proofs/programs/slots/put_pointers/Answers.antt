use Rattle.std.proofs.Common.{◌≡◌, arith}
use Rattle.std.specs.Prelude.{option_map}
use Rattle.regkind.specs.Frames.{cell}
use Rattle.explain.specs.Slots.{cell_in, cell_told, pointers_told}
use Rattle.explain.proofs.Slots.{told_all, told_more}
use Rattle.explain.proofs.programs.slots.put_pointers.Goals as goal

pub loop-cell-preserved : goal.loop-cell-preserved
loop-cell-preserved c =
    let before = option_map (λ f. f.now) c.args.before in
    let frame = c.args.frame.now in
    told_more (λ c. cell_told c (cell_in before c) (cell frame c)) c.loop-cell.cell _ _ _ c.loop-cell.invariant (rw (c.cell_in.ensures, c.cell.ensures.cell) at c.in_ok-put_cell.ensures)

pub returns : goal.returns
unfolding pointers_told
returns c =
    let before = option_map (λ f. f.now) c.args.before in
    let frame = c.args.frame.now in
    let past = c.loop-cell-test.false in
    let upto = c.loop-cell.auto.cell-end in
    let end : c.loop-cell.cell ≡ 64 = omega arith in
    told_all (λ c. cell_told c (cell_in before c) (cell frame c)) c.loop-cell.cell 64 _ _ end c.loop-cell.invariant
