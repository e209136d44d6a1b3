use Rattle.running.proofs.OneResult.{calls_are_unique, run_is_unique}
use Rattle.running.proofs.laws.run_is_unique.Goals as goal

pub returns : goal.returns
returns c = record { script = run_is_unique; calls = calls_are_unique }
