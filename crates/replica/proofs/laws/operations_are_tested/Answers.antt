use Rattle.replica.proofs.Tested.{are_tested}
use Rattle.replica.proofs.laws.operations_are_tested.Goals as goal

pub returns : goal.returns
returns c = record { tested = are_tested }
