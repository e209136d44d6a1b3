use Rattle.accounts.proofs.Batches.{claims_ascend, batch_is}
use Rattle.accounts.proofs.law.desk_batches.Goals as goal

pub returns-clause-claims : goal.returns-clause-claims
returns-clause-claims g c = claims_ascend

pub returns-clause-batch : goal.returns-clause-batch
returns-clause-batch g c = batch_is g.E.Effects.meaning
