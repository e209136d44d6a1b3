use Rattle.accounts.proofs.StoreRules.{desk_store, batch_appends}
use Rattle.accounts.proofs.law.store_rules.Goals as goal

pub returns-clause-desks : goal.returns-clause-desks
returns-clause-desks g c = desk_store g.S.Viewed.meaning

pub returns-clause-batch : goal.returns-clause-batch
returns-clause-batch g c = batch_appends g.S.Viewed.meaning
