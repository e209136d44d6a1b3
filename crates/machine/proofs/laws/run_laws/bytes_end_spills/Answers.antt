use Rattle.machine.proofs.SpillLaws.{spill_ended}
use Rattle.machine.proofs.laws.run_laws.bytes_end_spills.Goals as goal

pub returns : goal.returns
returns c = spill_ended
