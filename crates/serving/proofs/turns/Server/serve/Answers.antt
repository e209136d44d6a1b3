use Rattle.std.specs.Prelude.{◌≡◌, IfOk}
use Rattle.engine.specs.Opening.{IsOpened, on_which}
use Rattle.engine.specs.Reading.{FailedInTurn, read}
use Rattle.engine.proofs.Export.{given_so}
use Rattle.serving.specs.ServeAnswer.{service}
use Rattle.serving.proofs.ServedAll.{before_or_in, is_opened, of_some, opened_as}
use Rattle.serving.proofs.turns.Server.serve.Goals as goal

pub serve_opened-requires : goal.serve_opened-requires
serve_opened-requires g c = record { opened = is_opened c.args.how.spare c.prepare-opened.result c.prepare-opened.ensures.some }

pub returns-clause-written : goal.returns-clause-written
returns-clause-written g c =
    given_so g.F.Folder.holds g.S.Source.remaining c.args.inputs.now (λ it. IfOk c.prepare-opened.result (λ o. IsOpened o × (on_which o ≡ service c.args.how.spare (read it)))) _
    (λ it is. c.serve_opened.ensures.served (service c.args.how.spare (read it)) (opened_as c.args.how.spare c.prepare-opened.result (read it) is)) c.prepare-opened.ensures.known

pub returns-clause-read : goal.returns-clause-read
returns-clause-read g c = λ ended.
    before_or_in c.prepare-opened.result (FailedInTurn g.F.Folder.holds g.F.Folder.can_fail g.S.Source.remaining g.S.Source.has_failed c.args.inputs.now c.prepare-opened.new.inputs)
    (g.R.Feed.has_failed c.serve_opened.new.reader) c.prepare-opened.ensures.failed (rw ended at c.serve_opened.ensures.failed)

pub returns-clause-wrote : goal.returns-clause-wrote
returns-clause-wrote g c = λ ended. rw ended at c.serve_opened.ensures.failed

pub returns-clause-ended : goal.returns-clause-ended
returns-clause-ended g c =
    let some = of_some c.args.how.spare c.prepare-opened.result c.prepare-opened.ensures.some in
    (some.0, c.serve_opened.ensures.served (service c.args.how.spare some.0) some.1)
