use Rattle.flow.proofs.Lowest.{fault_iff}
use Rattle.flow.proofs.laws.fault_is_first_broken.Goals as goal

pub returns : goal.returns
returns c = fault_iff
