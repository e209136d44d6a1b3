use Rattle.machine.proofs.Keeps.{step_kept}
use Rattle.machine.proofs.laws.run_laws.steps_keep_states.Goals as goal

pub returns : goal.returns
returns c = step_kept
