use Rattle.accounts.proofs.Others.{desk_laws}
use Rattle.accounts.proofs.law.desk_laws.Goals as goal

pub returns : goal.returns
returns g c = desk_laws g.E.Effects.meaning
