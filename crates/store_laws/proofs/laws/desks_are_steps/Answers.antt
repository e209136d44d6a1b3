use Rattle.store_laws.proofs.AtDesks.{claims_there, collects_there, is_its_own, posts_there}
use Rattle.store_laws.proofs.laws.desks_are_steps.Goals as goal

pub returns-clause-post : goal.returns-clause-post
returns-clause-post c = posts_there

pub returns-clause-own : goal.returns-clause-own
returns-clause-own c = is_its_own

pub returns-clause-collect : goal.returns-clause-collect
returns-clause-collect c = collects_there

pub returns-clause-claim : goal.returns-clause-claim
returns-clause-claim c = claims_there
