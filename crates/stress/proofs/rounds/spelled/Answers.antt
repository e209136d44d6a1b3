use Rattle.std.proofs.Common.{sym, arith}
use Rattle.stress.proofs.EachCall.{one_belongs}
use Rattle.stress.proofs.Standing.{stands}
use Rattle.stress.proofs.rounds.spelled.Goals as goal

pub loop-number-preserved : goal.loop-number-preserved
loop-number-preserved c =
    let n = c.loop-number.number in
    let is = sym c.in-Some.ensures.bytes in
    let room = c.loop-number.invariant.1 in
    let kept = c.push_reserved.ensures.capacity in (
      rw c.push_reserved.ensures.items (one_belongs _ c.args.calls.now n c.loop-number.all.items _ c.in-Some.bytes c.loop-number.invariant.0 (stands c.args.calls.now n _ c.loop-number-test.true) is),
      omega (arith, room, kept),
    )
