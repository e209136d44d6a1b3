use Rattle.settlement.proofs.AllNodes.{every_schedule_settles}
use Rattle.settlement.proofs.laws.every_schedule_settles.Goals as goal

pub returns : goal.returns
returns c = every_schedule_settles
