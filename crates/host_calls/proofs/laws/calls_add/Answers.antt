use Rattle.host_calls.proofs.Adding.{calls_add}
use Rattle.host_calls.proofs.laws.calls_add.Goals as goal

pub returns : goal.returns
returns c = record { add = calls_add }
