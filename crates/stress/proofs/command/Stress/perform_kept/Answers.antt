use Rattle.std.specs.Prelude.{IfOk, Option}
use Rattle.engine.specs.Reading.{TextsRead, read}
use Rattle.engine.proofs.Export.{given_so, performs}
use Rattle.stress.specs.Left.{MayLeave, answer_left}
use Rattle.stress.proofs.command.Stress.perform_kept.Goals as goal

pub returns-clause-written : goal.returns-clause-written
returns-clause-written g c =
    given_so g.F.Folder.holds g.S.Source.remaining c.args.inputs.now (λ it. IfOk c.prepare_left-made.result (MayLeave c.args.self.now c.args.to (read it))) _
    (λ it. performs answer_left (MayLeave c.args.self.now c.args.to (read it)) (g.W.Sink.contents c.args.writer.now) (g.W.Sink.contents c.hand_back.new.writer)
    c.hand_back.result.status c.hand_back.result.made c.prepare_left-made.result c.hand_back.ensures.written c.hand_back.ensures.handed) c.prepare_left-made.ensures.known

pub returns-clause-ended : goal.returns-clause-ended
returns-clause-ended g c =
    performs answer_left (λ l. (t : Option TextsRead) × MayLeave c.args.self.now c.args.to t l) (g.W.Sink.contents c.args.writer.now) (g.W.Sink.contents c.hand_back.new.writer)
    c.hand_back.result.status c.hand_back.result.made c.prepare_left-made.result c.hand_back.ensures.written c.hand_back.ensures.handed c.prepare_left-made.ensures.some
