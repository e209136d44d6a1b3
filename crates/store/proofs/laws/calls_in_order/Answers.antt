use Rattle.store.proofs.InOrder.{calls_in_order}
use Rattle.store.proofs.laws.calls_in_order.Goals as goal

pub returns : goal.returns
returns c = record { order = calls_in_order }
