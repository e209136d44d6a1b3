use Rattle.std.proofs.Common.{◌≡◌, ◌∙◌, Some, ap}
use Rattle.std.proofs.lemmas.Result.{IfOk-weaker}
use Rattle.engine.specs.Reading.{texts_read}
use Rattle.engine.specs.Report.{answer_of}
use Rattle.realtime.specs.Judging.{timed}
use Rattle.realtime.specs.TimedAnswer.{timed_answer}
use Rattle.realtime.proofs.command.ReplayTimedCommand.make.Goals as goal

pub returns-in-Good-clause-made : goal.returns-in-Good-clause-made
returns-in-Good-clause-made g c =
    let t = texts_read c.in-Ok.texts in
    rw c.in-Ok.is
    (IfOk-weaker c.history_reply.result (λ r. answer_of r ≡ timed (answer_of c.in_ok-reply.reply) t.file t.history) (λ r. answer_of r ≡ timed_answer c.args.self.now.spare (Some t))
    (λ r same. same ∙ ap (λ a. timed a t.file t.history) c.in_ok-reply.ensures.answered) c.history_reply.ensures)
