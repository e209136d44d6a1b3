use Rattle.std.proofs.Common.{◌<◌, refl, arith}
use Rattle.std.specs.Prelude.{length}
use Rattle.stress.proofs.EachCall.{are_told, one_belongs}
use Rattle.stress.proofs.Standing.{stands}
use Rattle.stress.proofs.rounds.told_of_list.Goals as goal

pub loop-number-preserved : goal.loop-number-preserved
loop-number-preserved c =
    let n = c.loop-number.number in
    let calls = c.args.round.calls.now in
    let below = c.loop-number-test.true in
    let count = c.requires.count.0 in
    let there : n < length calls = omega (arith, below, count) in
    let room = c.loop-number.invariant.2 in
    let kept = c.push_reserved.ensures.capacity in (
      rw c.push_reserved.ensures.items (one_belongs _ calls n c.loop-number.told.items _ _ c.loop-number.invariant.0 (stands calls n _ there) (refl, c.noted.ensures)),
      rw c.push_reserved.ensures.items (one_belongs _ c.args.answers.now n c.loop-number.told.items _ _ c.loop-number.invariant.1 (stands c.args.answers.now n _ below) c.update_said.ensures.said),
      omega (arith, room, kept),
    )

pub returns : goal.returns
returns c =
    let past = c.loop-number-test.false in
    let upto = c.loop-number.auto.number-end in
    are_told c.args.round.first c.loop-number.number c.args.round.calls.now c.args.answers.now c.loop-number.told.items (omega (arith, past, upto)) c.requires.count.0 c.loop-number.invariant.0 c.loop-number.invariant.1
