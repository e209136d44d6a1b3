use Rattle.helpers.proofs.Kept.{others}
use Rattle.helpers.proofs.laws.others_stay.Goals as goal

pub returns : goal.returns
returns c = others
