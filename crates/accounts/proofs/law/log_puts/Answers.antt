use Rattle.accounts.proofs.Finish.{log_puts, replica_puts}
use Rattle.accounts.proofs.law.log_puts.Goals as goal

pub returns-clause-log : goal.returns-clause-log
returns-clause-log g c = log_puts g.E.Effects.meaning

pub returns-clause-replica : goal.returns-clause-replica
returns-clause-replica g c = replica_puts g.E.Effects.meaning
