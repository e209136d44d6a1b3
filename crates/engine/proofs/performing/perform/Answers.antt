use Rattle.std.specs.Prelude.{IfSome, Option}
use Rattle.engine.specs.Engine.{AreOfSame, IfAnswered, PerformsRead}
use Rattle.engine.specs.Reading.{TextsRead, read}
use Rattle.engine.proofs.Known.{given_so}
use Rattle.engine.proofs.Reports.{answered, performed}
use Rattle.engine.proofs.performing.perform.Goals as goal

pub returns-clause-written : goal.returns-clause-written
returns-clause-written g c =
    given_so g.F.Folder.holds g.R.Source.remaining c.args.inputs.now
    (PerformsRead g.C.Made.Answering.answer (g.C.Command.may_make c.args.command.now) g.W.Sink.contents c.args.writer.now c.perform_kept.new.writer c.perform_kept.result) _
    (λ it. performed g.C.Made.Answering.answer (g.C.Command.may_make c.args.command.now (read it)) (g.W.Sink.contents c.args.writer.now) (g.W.Sink.contents c.perform_kept.new.writer)
    c.perform_kept.result.status c.perform_kept.result.made) c.perform_kept.ensures.written

pub returns-clause-ended : goal.returns-clause-ended
returns-clause-ended g c =
    performed g.C.Made.Answering.answer (λ m. (t : Option TextsRead) × g.C.Command.may_make c.args.command.now t m) (g.W.Sink.contents c.args.writer.now) (g.W.Sink.contents c.perform_kept.new.writer)
    c.perform_kept.result.status c.perform_kept.result.made c.perform_kept.ensures.ended

pub returns-clause-told : goal.returns-clause-told
returns-clause-told g c =
    let tells : Option TextsRead → Type 0 = λ t. g.C.Command.may_tell c.args.command.now t c.args.notes.now c.perform_kept.new.notes in
    given_so g.F.Folder.holds g.R.Source.remaining c.args.inputs.now (λ it. IfSome c.perform_kept.result.made (λ m. tells (read it))) (λ it. IfAnswered c.perform_kept.result.status (tells (read it)))
    (λ it. answered g.C.Made.Answering.answer (λ m. (t : Option TextsRead) × g.C.Command.may_make c.args.command.now t m) (g.W.Sink.contents c.args.writer.now) (g.W.Sink.contents c.perform_kept.new.writer)
    (λ m. tells (read it)) (tells (read it)) (λ m so. so) c.perform_kept.result.status c.perform_kept.result.made c.perform_kept.ensures.ended)
    c.perform_kept.ensures.told

pub returns-clause-noted : goal.returns-clause-noted
returns-clause-noted g c =
    performed g.C.Made.Answering.answer
    (AreOfSame (g.C.Command.may_make c.args.command.now) (g.C.Command.may_tell c.args.command.now) c.args.notes.now
    c.perform_kept.new.notes)
    (g.W.Sink.contents c.args.writer.now) (g.W.Sink.contents c.perform_kept.new.writer)
    c.perform_kept.result.status c.perform_kept.result.made c.perform_kept.ensures.noted
