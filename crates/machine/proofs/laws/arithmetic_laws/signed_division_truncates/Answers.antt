use Rattle.machine.proofs.Division.{signed_truncates}
use Rattle.machine.proofs.laws.arithmetic_laws.signed_division_truncates.Goals as goal

pub returns : goal.returns
returns c = signed_truncates
