use Rattle.std.specs.Prelude.{IfOk, Option}
use Rattle.engine.specs.Reading.{TextsRead, read}
use Rattle.engine.specs.Report.{answer_of}
use Rattle.engine.proofs.Export.{given_so, reports}
use Rattle.stress.specs.Runs.{MayMake}
use Rattle.stress.proofs.command.Stress.perform.Goals as goal

pub returns-clause-written : goal.returns-clause-written
returns-clause-written g c =
    given_so g.F.Folder.holds g.S.Source.remaining c.args.inputs.now (λ it. IfOk c.prepare-made.result (MayMake c.args.self.now (read it))) _
    (λ it. reports (λ s. answer_of s.reply) (MayMake c.args.self.now (read it)) (g.W.Sink.contents c.args.writer.now) (g.W.Sink.contents c.report.new.writer)
    c.report.result c.prepare-made.result c.report.ensures.written) c.prepare-made.ensures.known

pub returns-clause-ended : goal.returns-clause-ended
returns-clause-ended g c =
    reports (λ s. answer_of s.reply) (λ s. (t : Option TextsRead) × MayMake c.args.self.now t s) (g.W.Sink.contents c.args.writer.now) (g.W.Sink.contents c.report.new.writer)
    c.report.result c.prepare-made.result c.report.ensures.written c.prepare-made.ensures.some
