use Rattle.accounts.proofs.Finish.{opens}
use Rattle.accounts.proofs.law.opens.Goals as goal

pub returns : goal.returns
returns g c = opens g.E.Effects.meaning
