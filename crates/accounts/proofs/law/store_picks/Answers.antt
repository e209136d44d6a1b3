use Rattle.accounts.proofs.Picked.{same_picked, log_picked, replica_picked, puts_account, same_picks, log_picks, replica_picks}
use Rattle.accounts.proofs.law.store_picks.Goals as goal

pub returns-clause-same : goal.returns-clause-same
returns-clause-same g c = same_picked g.S.Viewed.are_rules g.S.Viewed.view g.S.Viewed.are_notes g.S.Viewed.is_sized

pub returns-clause-log : goal.returns-clause-log
returns-clause-log g c = log_picked g.S.Viewed.are_rules g.S.Viewed.view g.S.Viewed.are_notes g.S.Viewed.is_sized

pub returns-clause-replica : goal.returns-clause-replica
returns-clause-replica g c = replica_picked g.S.Viewed.are_rules g.S.Viewed.view g.S.Viewed.are_notes g.S.Viewed.is_sized

pub returns-clause-account : goal.returns-clause-account
returns-clause-account g c = puts_account g.S.Viewed.are_rules g.S.Viewed.view g.S.Viewed.are_notes g.S.Viewed.is_sized

pub returns-clause-same_is : goal.returns-clause-same_is
returns-clause-same_is g c = same_picks g.S.Viewed.are_rules g.S.Viewed.view g.S.Viewed.are_notes g.S.Viewed.is_sized

pub returns-clause-log_is : goal.returns-clause-log_is
returns-clause-log_is g c = log_picks g.S.Viewed.are_rules g.S.Viewed.view g.S.Viewed.are_notes g.S.Viewed.is_sized

pub returns-clause-replica_is : goal.returns-clause-replica_is
returns-clause-replica_is g c = replica_picks g.S.Viewed.are_rules g.S.Viewed.view g.S.Viewed.are_notes g.S.Viewed.is_sized
