use Rattle.oplog.specs.declared.configuration.TheConstants.{MAX_LIMIT}
use Rattle.running.proofs.KeptRuns.{left_good}
use Rattle.running.proofs.runs.state_left.Goals as goal

pub returns-in-Good : goal.returns-in-Good
returns-in-Good c = record { left = λ left has. left_good MAX_LIMIT c.args.catalogue.now c.args.node left c.into_state.result c.into_state.ensures.state (rw c.in-Good.is at has) }
