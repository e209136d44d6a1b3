use Rattle.machine.proofs.EffectsOfRuns.{are_runs}
use Rattle.machine.proofs.laws.effects.effects_are_runs.Goals as goal

pub returns : goal.returns
returns c = are_runs
