use Rattle.std.proofs.Common.{arith}
use Rattle.engine.proofs.Appended.{appends_more}
use Rattle.engine.proofs.transfer.send.Goals as goal

pub loop-sent-preserved : goal.loop-sent-preserved
loop-sent-preserved g c =
    let wrote = rw c.split_at.ensures.back at c.in-Ok.ensures.bytes in
    (omega (arith, c.in-Ok.ensures.bound, c.split_at.ensures.back_len), appends_more _ _ _ c.args.bytes.now c.loop-sent.sent c.in-Ok.n c.loop-sent.invariant.1 wrote)
