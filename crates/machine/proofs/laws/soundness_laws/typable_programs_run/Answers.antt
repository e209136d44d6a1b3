use Rattle.machine.proofs.SoundSteps.{always_runs}
use Rattle.machine.proofs.laws.soundness_laws.typable_programs_run.Goals as goal

pub returns : goal.returns
returns c = always_runs
