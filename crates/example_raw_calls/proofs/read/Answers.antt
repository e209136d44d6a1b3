use Rattle.std.proofs.Common.{◌≡◌, ◌∙◌}
use Rattle.readpath.specs.declared.reading.ReadAnswer.{ReadAnswer}
use Rattle.store_steps.specs.Views.{op_of}
use Rattle.example_raw_calls.specs.Raw.{WasRead}
use Rattle.example_raw_calls.proofs.Called.{at_rest, so_answered}
use Rattle.example_raw_calls.proofs.Reading.{read_is_over, reads_on, was_read}
use Rattle.example_raw_calls.proofs.read.Goals as goal

pub loop-preserved : goal.loop-preserved
loop-preserved g c = record {
  asked = c.call.ensures.goes.asked ∙ c.loop.invariant.asked;
  reads = λ a has free.
      reads_on c.calls_add.ensures.add a c.args.program c.args.argument.now c.loop.handle c.call.new.handle free
      c.loop.invariant.asked (c.loop.invariant.reads a has free) c.call.ensures.goes
      (c.is_on_its_way.ensures.again c.if-not-is_on_its_way.false);
}

pub returns-then-not-is_on_its_way-clause-rests : goal.returns-then-not-is_on_its_way-clause-rests
returns-then-not-is_on_its_way-clause-rests g c a has =
    let free = at_rest c.args.handle.now c.requires.rests a has in
    read_is_over c.calls_add.ensures.add a c.args.program c.args.argument.now c.loop.handle c.call.new.handle free
    c.loop.invariant.asked (c.loop.invariant.reads a has free) c.call.ensures.goes

pub returns-then-not-is_on_its_way-clause-told : goal.returns-then-not-is_on_its_way-clause-told
returns-then-not-is_on_its_way-clause-told g c =
    let op = op_of c.args.program c.args.argument.now in
    let after = c.call.new.handle in
    let words : ReadAnswer = record { point = after.answered.point; reply = after.answered.reply } in
    so_answered (after.answered.status ≡ 0) (WasRead c.args.handle.now after op) words c.read_in.result
    (λ zero a b has now.
    let free = at_rest c.args.handle.now c.requires.rests a has in
    was_read c.calls_add.ensures.add a c.args.program c.args.argument.now c.loop.handle after free
    c.loop.invariant.asked (c.loop.invariant.reads a has free) c.call.ensures.goes zero b now)
    c.read_in.ensures.answer
