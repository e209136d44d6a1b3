use Rattle.helpers.proofs.Answers.{stands}
use Rattle.helpers.proofs.laws.updates_stand.Goals as goal

pub returns : goal.returns
returns c = stands
