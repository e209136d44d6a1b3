use Rattle.std.proofs.Common.{subst}
use Rattle.std.specs.Prelude.{IfOk}
use Rattle.serving.specs.ServiceKept.{IsServiceOf}
use Rattle.serving.proofs.ServedAll.{none_opened, served_on}
use Rattle.serving.proofs.turns.serve_on.Goals as goal

pub returns-in-Ok-clause-served : goal.returns-in-Ok-clause-served
returns-in-Ok-clause-served g c = λ v k is. served_on v k c.in-Ok.service _ _ (subst (λ r. IfOk r (IsServiceOf v k)) c.in-Ok.is is) c.serve_input.ensures.served

pub returns-in-Err-clause-served : goal.returns-in-Err-clause-served
returns-in-Err-clause-served g c = λ v k is.
    none_opened v (g.R.Feed.remaining c.args.reader.now) (g.W.Sink.contents c.args.writer.now) (g.W.Sink.contents c.end_without_memory.new.writer) c.end_without_memory.result
    c.without_state.result c.without_state.ensures k c.end_without_memory.ensures.sent
