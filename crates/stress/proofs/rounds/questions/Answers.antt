use Rattle.std.proofs.Common.{◌∙◌, ◌<◌, Some, ap, sym, arith}
use Rattle.std.specs.Prelude.{length}
use Rattle.store.proofs.Export.{at_read}
use Rattle.stress.proofs.EachCall.{one_belongs}
use Rattle.stress.proofs.Standing.{stands}
use Rattle.stress.proofs.rounds.questions.Goals as goal

pub question-requires-clause-update : goal.question-requires-clause-update
question-requires-clause-update c = c.requires.updates c.loop-number.number _ (stands c.args.calls.now c.loop-number.number _ c.loop-number-test.true)

pub question-requires-clause-spelled : goal.question-requires-clause-spelled
question-requires-clause-spelled c =
    let n = c.loop-number.number in
    let long = c.requires.spelled.long in
    let below = c.loop-number-test.true in
    let there : n < length c.args.spelled.now = omega (arith, below, long) in
    c.requires.spelled.each n _ c.index-spelled-number.result (stands c.args.calls.now n _ below) (at_read c.args.spelled.now n c.index-spelled-number.result there c.index-spelled-number.is)
    ∙ ap Some (sym c.as_slice.ensures.value)

pub loop-number-preserved : goal.loop-number-preserved
loop-number-preserved c =
    let n = c.loop-number.number in
    let room = c.loop-number.invariant.1 in
    let kept = c.push_reserved.ensures.capacity in (
      rw c.push_reserved.ensures.items (one_belongs _ c.args.calls.now n c.loop-number.all.items _ c.question.result c.loop-number.invariant.0 (stands c.args.calls.now n _ c.loop-number-test.true) c.question.ensures),
      omega (arith, room, kept),
    )
