use Rattle.machine.proofs.EffectsOfRuns.{typable_takes_effect}
use Rattle.machine.proofs.laws.effects.typable_programs_take_effect.Goals as goal

pub returns : goal.returns
returns c = typable_takes_effect
