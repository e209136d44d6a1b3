use Rattle.accounts.proofs.Ended.{answered, ends, stand}
use Rattle.accounts.proofs.law.tells.Goals as goal

pub returns-clause-desk : goal.returns-clause-desk
returns-clause-desk g c = answered g.E.Effects.meaning

pub returns-clause-stand : goal.returns-clause-stand
returns-clause-stand g c = stand g.E.Effects.meaning

pub returns-clause-ends : goal.returns-clause-ends
returns-clause-ends g c = ends g.E.Effects.meaning
