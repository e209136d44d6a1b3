use Rattle.settlement.proofs.Settled.{settle_or_moved, settle_alone}
use Rattle.settlement.proofs.Logged.{logged_batches_end}
use Rattle.settlement.proofs.laws.nodes_settle.Goals as goal

pub returns : goal.returns
returns c = record { alone = settle_alone; logged = logged_batches_end; meanwhile = settle_or_moved }
