use Rattle.std.proofs.Common.{take, arith}
use Rattle.std.proofs.lemmas.Option.{same_Some}
use Rattle.engine.specs.declared.replies.Status.TheVariants as statuses
use Rattle.serving.proofs.Turned.{all_sent, at_end, few_read, never_good, unread, unsent, without_memory}
use Rattle.serving.proofs.turns.take_turn.Goals as goal

pub returns-in-Ok-eq0-clause-served : goal.returns-in-Ok-eq0-clause-served
returns-in-Ok-eq0-clause-served g c = λ s stands.
    at_end c.args.service.now.catalogue s c.args.service.now (g.R.Feed.remaining c.args.reader.now) (g.R.Feed.remaining c.read_some.new.self) (g.W.Sink.contents c.args.writer.now)
    c.read_some.new.room c.in-Ok-eq0.field-0 c.in-Ok-eq0.field-0-test (omega arith) c.in-Ok-eq0.ensures.some

pub returns-in-Err-clause-served : goal.returns-in-Err-clause-served
returns-in-Err-clause-served g c = λ s stands.
    unread c.args.service.now.catalogue s c.args.service.now (g.R.Feed.remaining c.args.reader.now) (g.R.Feed.remaining c.read_some.new.self) (g.W.Sink.contents c.args.writer.now) c.in-Err.ensures.some

pub returns-in-Err-send-clause-served : goal.returns-in-Err-send-clause-served
returns-in-Err-send-clause-served g c = λ s stands.
    unsent c.args.service.now.catalogue s c.take-taken.new.self (g.R.Feed.remaining c.args.reader.now) (g.R.Feed.remaining c.read_some.new.self)
    (g.W.Sink.contents c.args.writer.now) (g.W.Sink.contents c.args.writer.now) (g.W.Sink.contents c.send.new.self)
    (take c.in-Ok.n c.read_some.new.room) c.clear.new.self.items c.take-taken.new.out.items c.in-Ok.ensures.some.0
    (few_read c.in-Ok.n c.read_some.new.room c.args.room.now c.read_some.auto.room c.requires.few) c.clear.ensures.items
    c.take-taken.result (c.take-taken.ensures.taken s stands) (rw c.deref.ensures.value at c.in-Err-send.ensures.stopped)

pub returns-in-Ok-taken-clause-served : goal.returns-in-Ok-taken-clause-served
returns-in-Ok-taken-clause-served g c = λ s stands.
    all_sent c.args.service.now.catalogue s c.take-taken.new.self (g.R.Feed.remaining c.args.reader.now) (g.R.Feed.remaining c.read_some.new.self)
    (g.W.Sink.contents c.args.writer.now) (g.W.Sink.contents c.args.writer.now) (g.W.Sink.contents c.send.new.self)
    (take c.in-Ok.n c.read_some.new.room) c.clear.new.self.items c.take-taken.new.out.items c.in-Ok.ensures.some.0
    (few_read c.in-Ok.n c.read_some.new.room c.args.room.now c.read_some.auto.room c.requires.few) c.clear.ensures.items
    (c.in-Ok-taken.ensures.taken s stands) (rw c.deref.ensures.value at c.in-Ok-send.ensures.sent)

pub returns-in-Err-taken-clause-served : goal.returns-in-Err-taken-clause-served
returns-in-Err-taken-clause-served g c = λ s stands.
    without_memory c.args.service.now.catalogue s c.take-taken.new.self (g.R.Feed.remaining c.args.reader.now) (g.R.Feed.remaining c.read_some.new.self)
    (g.W.Sink.contents c.args.writer.now) (g.W.Sink.contents c.send.new.self) (g.W.Sink.contents c.end_without_memory.new.writer)
    (take c.in-Ok.n c.read_some.new.room) c.clear.new.self.items c.take-taken.new.out.items c.in-Ok.ensures.some.0
    (few_read c.in-Ok.n c.read_some.new.room c.args.room.now c.read_some.auto.room c.requires.few) c.clear.ensures.items
    c.end_without_memory.result (c.in-Err-taken.ensures.taken s stands) (rw c.deref.ensures.value at c.in-Ok-send.ensures.sent) c.end_without_memory.ensures.sent

pub returns-in-Err-taken-clause-kept : goal.returns-in-Err-taken-clause-kept
returns-in-Err-taken-clause-kept g c = λ good.
    absurd (never_good (g.W.Sink.contents c.send.new.self) (g.W.Sink.contents c.end_without_memory.new.writer) c.end_without_memory.result c.end_without_memory.ensures.sent
    (same_Some c.end_without_memory.result statuses.Good good))
