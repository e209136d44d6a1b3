use Rattle.console.proofs.Checked.{check_writes}
use Rattle.console.proofs.laws.check_writes.Goals as goal

pub returns : goal.returns
returns c = check_writes
