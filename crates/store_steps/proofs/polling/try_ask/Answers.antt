use Rattle.std.proofs.Common.{ap, ◌∙◌}
use Rattle.store_steps.specs.Standing.{StoreSeat}
use Rattle.store_steps.proofs.Begun.{idles_after}
use Rattle.store_steps.proofs.Gone.{on_known}
use Rattle.store_steps.proofs.polling.try_ask.Goals as goal

pub win_line-won-requires-clause-idle : goal.win_line-won-requires-clause-idle
win_line-won-requires-clause-idle c =
    let i = c.requires.idle in
    (i.known, i.is, (i.free, on_known c.args.here.shared c.args.seat.now i.known i.is c.requires.on))

pub let_line_go-requires-clause-idle : goal.let_line_go-requires-clause-idle
let_line_go-requires-clause-idle c =
    let i = c.requires.idle in
    let s = c.win_line-won.new.seat in
    let asked = c.ask_by-came in
    let on = on_known c.args.here.shared c.args.seat.now i.known i.is c.requires.on in
    idles_after c.args.here.shared c.args.here.caller s asked.new.seat
    (i.known, ap (λ (z : StoreSeat). z.sessions) c.win_line-won.ensures.same ∙ i.is, (i.free, on))
    c.args.op.now asked.new.batch asked.new.replies asked.result asked.ensures.stays asked.ensures.came
