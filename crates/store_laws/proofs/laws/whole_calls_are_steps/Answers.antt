use Rattle.store_laws.proofs.InOrder.{combines_in_order, reads_in_order}
use Rattle.store_laws.proofs.OnShelf.{once}
use Rattle.store_laws.proofs.laws.whole_calls_are_steps.Goals as goal

pub returns-clause-combine : goal.returns-clause-combine
returns-clause-combine c = combines_in_order

pub returns-clause-read : goal.returns-clause-read
returns-clause-read c = reads_in_order

pub returns-clause-once : goal.returns-clause-once
returns-clause-once c = once
