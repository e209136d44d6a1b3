use Rattle.machine.proofs.SpillLaws.{spill_loaded}
use Rattle.machine.proofs.laws.run_laws.spills_are_loaded.Goals as goal

pub returns : goal.returns
returns c = spill_loaded
