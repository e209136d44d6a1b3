use Rattle.std.proofs.Common.{subst, sym, ◌∙◌}
use Rattle.std.specs.Prelude.{IfSome}
use Rattle.store_steps.specs.Winning.{IsWonBy}
use Rattle.store_steps.proofs.Winning.{is_by}
use Rattle.store_steps.proofs.taking.let_line_go.Goals as goal

pub let_go-requires-clause-by : goal.let_go-requires-clause-by
let_go-requires-clause-by c =
    let i = c.requires.idle in
    let won = subst (λ o. IfSome o (IsWonBy c.args.here)) (sym c.take.ensures.value ∙ c.in-Some.is) c.requires.by in
    is_by c.args.here c.in-Some.line c.args.seat.now i.0 i.1 i.2.0 i.2.1 won

pub let_go-requires-clause-idle : goal.let_go-requires-clause-idle
let_go-requires-clause-idle c = let i = c.requires.idle in (i.0, i.1, i.2.0.held)
