use Rattle.std.proofs.Common.{◌≡◌, Ok, Result, ap, subst, ◌∙◌}
use Rattle.std.specs.Prelude.{IfOk}
use Rattle.engine.specs.declared.opening.Opened.{Opened}
use Rattle.engine.specs.declared.replies.Reply.{Reply}
use Rattle.engine.specs.declared.transfer.ReadFault.{ReadFault}
use Rattle.engine.specs.Engine.{Writes}
use Rattle.engine.specs.Opening.{on_which}
use Rattle.engine.specs.Report.{answer_of}
use Rattle.serving.proofs.ServedAll.{in_place, served_there, service_of, unopened}
use Rattle.serving.proofs.turns.Server.serve_opened.Goals.{in-Ok-Refused, in-Err}
use Rattle.serving.proofs.turns.Server.serve_opened.Goals as goal

pub returns-clause-served : goal.returns-clause-served
returns-clause-served g c = λ on such.
    let given = g.R.Feed.remaining c.args.reader.now in
    let old = g.W.Sink.contents c.args.writer.now in
    let new = g.W.Sink.contents c.report.new.writer in
    let wrote = λ (made : Result Reply ReadFault) (is : c.match-opened.instead ≡ made). subst (λ (m : Result Reply ReadFault). Writes answer_of old new c.report.result m) is c.report.ensures.written in
    elim c.match-opened.branch [
      | in-Ok-Refused w ↦ in_place c.args.has_values given old new c.report.result c.without_state.result c.without_state.ensures w.in-Ok-Refused.reply on (wrote (Ok w.in-Ok-Refused.reply) w.instead-is)
          (subst (λ o. IfOk o (λ x. on_which x ≡ on)) (w.in-Ok-Refused.is ∙ ap (λ (o : Opened). Ok o) w.in-Ok-Refused.field-0-is) such)
      | in-Err w ↦ unopened c.args.has_values given old new c.report.result c.without_state.result c.without_state.ensures on w.in-Err.fault (wrote _ w.instead-is)
    ]

pub returns-in-Ok-On-clause-served : goal.returns-in-Ok-On-clause-served
returns-in-Ok-On-clause-served g c = λ on such.
    let v = c.args.has_values in
    let k = c.in-Ok-On.catalogue in
    served_there v k c.in-Ok-On.state c.args.opened on _ c.serve_on.result (c.in-Ok-On.is ∙ ap (λ (o : Opened). Ok o) c.in-Ok-On.field-0-is) such
    (c.serve_on.ensures.served v k (service_of v k c.open-service.result c.open-service.ensures.catalogue c.open-service.ensures.stands))
