use Rattle.accounts.proofs.Puts.{seen_desk_may_put}
use Rattle.accounts.proofs.Putting.{same_may_put, log_may_put, replica_may_put}
use Rattle.accounts.proofs.law.store_puts.Goals as goal

pub returns-clause-same : goal.returns-clause-same
returns-clause-same g c = same_may_put g.S.Viewed.are_rules g.S.Viewed.view g.S.Viewed.is_sized

pub returns-clause-log : goal.returns-clause-log
returns-clause-log g c = log_may_put g.S.Viewed.are_rules g.S.Viewed.view g.S.Viewed.is_sized

pub returns-clause-replica : goal.returns-clause-replica
returns-clause-replica g c = replica_may_put g.S.Viewed.are_rules g.S.Viewed.view g.S.Viewed.is_sized

pub returns-clause-desk : goal.returns-clause-desk
returns-clause-desk g c = seen_desk_may_put g.S.Viewed.meaning g.S.Viewed.view g.S.Viewed.is_sized
