use Rattle.accounts.proofs.Puts.{desk_puts, desk_may_put}
use Rattle.accounts.proofs.law.desk_puts.Goals as goal

pub returns-clause-steps : goal.returns-clause-steps
returns-clause-steps g c = desk_puts g.E.Effects.meaning

pub returns-clause-shelf : goal.returns-clause-shelf
returns-clause-shelf g c = desk_may_put g.E.Effects.meaning
