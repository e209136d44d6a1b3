use Rattle.machine.proofs.Keeps.{run_kept}
use Rattle.machine.proofs.laws.run_laws.runs_keep_shapes.Goals as goal

pub returns : goal.returns
returns c = run_kept
