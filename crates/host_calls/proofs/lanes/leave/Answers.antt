use Rattle.std.proofs.Common.{refl}
use Rattle.host_calls.proofs.Moves.{leaves_open}
use Rattle.host_calls.proofs.lanes.leave.Goals as goal

pub returns : goal.returns
returns c =
    let given = c.new-2.ensures in
    let idle = c.is_waiting.ensures.idle c.if-is_waiting.false in
    record {
      leaves = leaves_open c.args.handle.now _ c.new-2.result c.in-Some.lane c.leave.new.self c.in-Some-leave.attached
          c.in-Some.is refl given.own refl (given.asked, given.status) refl idle c.in-Some-leave.ensures.left;
    }
