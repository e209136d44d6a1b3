use Rattle.std.proofs.Common.{set, ap}
use Rattle.realtime.proofs.Turning.{turns_kept}
use Rattle.realtime.proofs.orders.Turns.keep.Goals as goal

pub returns : goal.returns
returns c = λ calls h only.
    let call = c.args.call.now in
    let turns = c.args.self.now in
    turns_kept calls call turns h only _ (ap (λ m. set turns.ended call.session m) c.max.ensures) (ap (λ m. set turns.line call.session m) c.max-2.ensures)
