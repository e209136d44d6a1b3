use Rattle.std.proofs.Common.{◌≡◌, arith}
use Rattle.std.specs.Prelude.{option_map}
use Rattle.explain.specs.Slots.{bytes_told, is_new, row_told}
use Rattle.explain.proofs.Slots.{told_all, told_more}
use Rattle.explain.proofs.programs.slots.put_bytes.Goals as goal

pub loop-first-preserved : goal.loop-first-preserved
loop-first-preserved c =
    let before = option_map (λ f. f.now) c.args.before in
    told_more (row_told c.args.known (is_new c.args.known before c.args.frame.now)) c.loop-first.first _ _ _ c.loop-first.invariant c.in_ok-put_row_at.ensures

pub returns : goal.returns
unfolding bytes_told
returns c =
    let before = option_map (λ f. f.now) c.args.before in
    let past = c.loop-first-test.false in
    let upto = c.loop-first.auto.first-end in
    let end : c.loop-first.first ≡ 512 = omega arith in
    told_all (row_told c.args.known (is_new c.args.known before c.args.frame.now)) c.loop-first.first 512 _ _ end c.loop-first.invariant
