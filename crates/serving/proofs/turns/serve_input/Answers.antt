use Rattle.std.proofs.Common.{refl, ◌∙◌}
use Rattle.serving.proofs.Turned.{going_first, goes_on, ends_so, ends_last}
use Rattle.serving.proofs.turns.serve_input.Goals as goal

pub loop-init : goal.loop-init
loop-init g c = (c.requires.steady, refl, going_first c.args.service.has_values c.args.service.catalogue c.args.service (g.R.Feed.remaining c.args.reader.now) (g.W.Sink.contents c.args.writer.now) c.requires.nothing)

pub returns-clause-served : goal.returns-clause-served
returns-clause-served g c =
    ends_last c.args.service.has_values c.args.service.catalogue c.loop.service (g.R.Feed.remaining c.args.reader.now) (g.R.Feed.remaining c.loop.reader) (g.W.Sink.contents c.args.writer.now) (g.W.Sink.contents c.loop.writer)
    (g.W.Sink.contents c.end_without_memory.new.writer) c.end_without_memory.result c.without_state.result c.without_state.ensures c.loop.invariant.2 c.end_without_memory.ensures.sent

pub returns-in-Some-clause-served : goal.returns-in-Some-clause-served
returns-in-Some-clause-served g c =
    ends_so c.args.service.has_values c.args.service.catalogue c.loop.service.catalogue c.loop.invariant.1 c.loop.service c.take_turn.new.service
    (g.R.Feed.remaining c.args.reader.now) (g.R.Feed.remaining c.loop.reader) (g.R.Feed.remaining c.take_turn.new.reader)
    (g.W.Sink.contents c.args.writer.now) (g.W.Sink.contents c.loop.writer) (g.W.Sink.contents c.take_turn.new.writer) c.loop.invariant.2 c.in-Some.status
    c.end_service.result c.end_service.ensures.status c.loop.invariant.1 c.in-Some.ensures.kept c.end_service.ensures.state c.in-Some.ensures.served

pub loop-preserved : goal.loop-preserved
loop-preserved g c = (
  c.in-None.ensures.steady,
  c.in-None.ensures.same refl ∙ c.loop.invariant.1,
  goes_on c.args.service.has_values c.args.service.catalogue c.loop.service.catalogue c.loop.invariant.1 c.loop.service c.take_turn.new.service
      (g.R.Feed.remaining c.args.reader.now) (g.R.Feed.remaining c.loop.reader) (g.R.Feed.remaining c.take_turn.new.reader)
      (g.W.Sink.contents c.args.writer.now) (g.W.Sink.contents c.loop.writer) (g.W.Sink.contents c.take_turn.new.writer) c.loop.invariant.2 c.in-None.ensures.served,
)
