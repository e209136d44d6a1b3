use Rattle.std.specs.Prelude.{IfOk, IfSome, Option}
use Rattle.engine.specs.Engine.{AreOfSame}
use Rattle.engine.specs.Reading.{TextsRead, read}
use Rattle.engine.proofs.Known.{given_so}
use Rattle.engine.proofs.Reports.{performs, so_of_back}
use Rattle.engine.proofs.performing.perform_kept.Goals as goal

pub returns-clause-written : goal.returns-clause-written
returns-clause-written g c =
    given_so g.F.Folder.holds g.R.Source.remaining c.args.inputs.now (λ it. IfOk c.prepare-made.result (g.C.Command.may_make c.args.command.now (read it))) _
    (λ it. performs g.C.Made.Answering.answer (g.C.Command.may_make c.args.command.now (read it)) (g.W.Sink.contents c.args.writer.now) (g.W.Sink.contents c.hand_back.new.writer)
    c.hand_back.result.status c.hand_back.result.made c.prepare-made.result c.hand_back.ensures.written c.hand_back.ensures.handed) c.prepare-made.ensures.known

pub returns-clause-ended : goal.returns-clause-ended
returns-clause-ended g c =
    performs g.C.Made.Answering.answer (λ m. (t : Option TextsRead) × g.C.Command.may_make c.args.command.now t m) (g.W.Sink.contents c.args.writer.now) (g.W.Sink.contents c.hand_back.new.writer)
    c.hand_back.result.status c.hand_back.result.made c.prepare-made.result c.hand_back.ensures.written c.hand_back.ensures.handed c.prepare-made.ensures.some

pub returns-clause-told : goal.returns-clause-told
returns-clause-told g c =
    let notes = c.args.notes.now in
    let told = c.prepare-made.new.notes in
    given_so g.F.Folder.holds g.R.Source.remaining c.args.inputs.now (λ it. IfOk c.prepare-made.result (λ m. g.C.Command.may_tell c.args.command.now (read it) notes told))
    (λ it. IfSome c.hand_back.result.made (λ m. g.C.Command.may_tell c.args.command.now (read it) notes told))
    (λ it. so_of_back (λ m. g.C.Command.may_tell c.args.command.now (read it) notes told) c.hand_back.result.status c.hand_back.result.made c.prepare-made.result c.hand_back.ensures.handed)
    c.prepare-made.ensures.told

pub returns-clause-noted : goal.returns-clause-noted
returns-clause-noted g c =
    performs g.C.Made.Answering.answer
    (AreOfSame (g.C.Command.may_make c.args.command.now) (g.C.Command.may_tell c.args.command.now) c.args.notes.now
    c.prepare-made.new.notes)
    (g.W.Sink.contents c.args.writer.now) (g.W.Sink.contents c.hand_back.new.writer)
    c.hand_back.result.status c.hand_back.result.made c.prepare-made.result c.hand_back.ensures.written c.hand_back.ensures.handed c.prepare-made.ensures.noted
