use Rattle.helpers.proofs.Answers.{gone}
use Rattle.helpers.proofs.laws.deletes_remove.Goals as goal

pub returns : goal.returns
returns c = gone
