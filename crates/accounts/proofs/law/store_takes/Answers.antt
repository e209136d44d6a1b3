use Rattle.accounts.proofs.Putting.{store_opens, may_take_first, may_take_second, takes_log, takes_replica, takes_its_replica, may_take_desk, takes_desk, agrees_log, agrees_replica}
use Rattle.accounts.proofs.law.store_takes.Goals as goal

pub returns-clause-opens : goal.returns-clause-opens
returns-clause-opens g c = store_opens g.S.Viewed.are_rules g.S.Viewed.view g.S.Viewed.is_sized

pub returns-clause-first : goal.returns-clause-first
returns-clause-first g c = may_take_first g.S.Viewed.are_rules g.S.Viewed.view g.S.Viewed.is_sized

pub returns-clause-second : goal.returns-clause-second
returns-clause-second g c = may_take_second g.S.Viewed.are_rules g.S.Viewed.view g.S.Viewed.is_sized

pub returns-clause-log : goal.returns-clause-log
returns-clause-log g c = takes_log g.S.Viewed.are_rules g.S.Viewed.view g.S.Viewed.is_sized

pub returns-clause-replica : goal.returns-clause-replica
returns-clause-replica g c = takes_replica g.S.Viewed.are_rules g.S.Viewed.view g.S.Viewed.is_sized

pub returns-clause-its_replica : goal.returns-clause-its_replica
returns-clause-its_replica g c = takes_its_replica g.S.Viewed.are_rules g.S.Viewed.view g.S.Viewed.is_sized

pub returns-clause-is_log : goal.returns-clause-is_log
returns-clause-is_log g c = agrees_log g.S.Viewed.are_rules g.S.Viewed.view g.S.Viewed.is_sized

pub returns-clause-is_replica : goal.returns-clause-is_replica
returns-clause-is_replica g c = agrees_replica g.S.Viewed.are_rules g.S.Viewed.view g.S.Viewed.is_sized

pub returns-clause-desk_first : goal.returns-clause-desk_first
returns-clause-desk_first g c = may_take_desk g.S.Viewed.are_rules g.S.Viewed.view g.S.Viewed.is_sized

pub returns-clause-desk : goal.returns-clause-desk
returns-clause-desk g c = takes_desk g.S.Viewed.are_rules g.S.Viewed.view g.S.Viewed.is_sized
