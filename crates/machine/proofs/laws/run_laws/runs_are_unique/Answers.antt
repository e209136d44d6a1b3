use Rattle.machine.proofs.Unique.{one_run}
use Rattle.machine.proofs.laws.run_laws.runs_are_unique.Goals as goal

pub returns : goal.returns
returns c = one_run
