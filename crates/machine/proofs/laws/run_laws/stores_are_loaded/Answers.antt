use Rattle.machine.proofs.Stored.{number_read}
use Rattle.machine.proofs.laws.run_laws.stores_are_loaded.Goals as goal

pub returns : goal.returns
returns c = number_read
