use Rattle.std.proofs.Common.{◌≡◌, sym, ◌∙◌, arith}
use Rattle.std.specs.Prelude.{option_map}
use Rattle.explain.specs.Slots.{is_new}
use Rattle.explain.proofs.Slots.{row_begins, row_more, row_stops, row_whole}
use Rattle.explain.proofs.programs.slots.row_end.Goals as goal

pub loop-next-init : goal.loop-next-init
loop-next-init c = row_begins (is_new c.args.known (option_map (λ f. f.now) c.args.before) c.args.frame.now) c.args.first c.requires

pub loop-next-preserved : goal.loop-next-preserved
loop-next-preserved c =
    let is = is_new c.args.known (option_map (λ f. f.now) c.args.before) c.args.frame.now in
    let more = row_more is c.loop-next.next c.loop-next-test.true (sym c.is_new.ensures ∙ c.if-not-is_new.false) in
    omega (arith, c.loop-next.invariant, more)

pub returns-then-not-is_new-clause-end : goal.returns-then-not-is_new-clause-end
returns-then-not-is_new-clause-end c =
    let is = is_new c.args.known (option_map (λ f. f.now) c.args.before) c.args.frame.now in
    let stops = row_stops is c.loop-next.next (sym c.is_new.ensures ∙ c.if-not-is_new.true) in
    omega (arith, c.loop-next.invariant, stops, c.loop-next.auto.next)

pub returns-clause-end : goal.returns-clause-end
returns-clause-end c =
    let is = is_new c.args.known (option_map (λ f. f.now) c.args.before) c.args.frame.now in
    let past = c.loop-next-test.false in
    let upto = c.loop-next.auto.next-end in
    let end : c.loop-next.next ≡ 512 = omega (arith, past, upto, c.requires) in
    let whole = row_whole is c.loop-next.next end in
    omega (arith, c.loop-next.invariant, whole, end)
