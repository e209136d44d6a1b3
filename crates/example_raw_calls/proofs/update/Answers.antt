use Rattle.std.proofs.Common.{◌≡◌, ◌∙◌}
use Rattle.store.specs.declared.answers.Answer.{Answer}
use Rattle.store_steps.specs.Views.{op_of}
use Rattle.example_raw_calls.specs.Raw.{WasUpdated}
use Rattle.example_raw_calls.proofs.Called.{at_rest, is_over, so_answered, was_updated, works_on}
use Rattle.example_raw_calls.proofs.update.Goals as goal

pub loop-preserved : goal.loop-preserved
loop-preserved g c = record {
  asked = c.call.ensures.goes.asked ∙ c.loop.invariant.asked;
  works = λ a has free.
      works_on a c.args.program c.args.argument.now c.loop.handle c.call.new.handle free c.loop.invariant.asked
      (c.loop.invariant.works a has free) c.call.ensures.goes
      (c.is_on_its_way.ensures.again c.if-not-is_on_its_way.false);
}

pub returns-then-not-is_on_its_way-clause-rests : goal.returns-then-not-is_on_its_way-clause-rests
returns-then-not-is_on_its_way-clause-rests g c a has =
    let free = at_rest c.args.handle.now c.requires.rests a has in
    is_over a c.args.program c.args.argument.now c.loop.handle c.call.new.handle free c.loop.invariant.asked
    (c.loop.invariant.works a has free) c.call.ensures.goes
    (c.is_on_its_way.ensures.over c.if-not-is_on_its_way.true)

pub returns-then-not-is_on_its_way-clause-told : goal.returns-then-not-is_on_its_way-clause-told
returns-then-not-is_on_its_way-clause-told g c =
    let op = op_of c.args.program c.args.argument.now in
    let after = c.call.new.handle in
    let words : Answer = record { index = after.answered.point; reply = after.answered.reply } in
    so_answered (after.answered.status ≡ 0) (WasUpdated c.args.handle.now after op) words c.answer_in.result
    (λ zero a b has now.
    let free = at_rest c.args.handle.now c.requires.rests a has in
    was_updated a c.args.program c.args.argument.now c.loop.handle after free c.loop.invariant.asked
    (c.loop.invariant.works a has free) c.call.ensures.goes zero b now)
    c.answer_in.ensures.answer
