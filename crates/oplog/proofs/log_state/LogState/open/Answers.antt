use Rattle.std.proofs.Common.{rules}
use Rattle.oplog.proofs.Ends.{none_noted}
use Rattle.oplog.proofs.log_state.LogState.open.Goals as goal

pub invariant_of-result : goal.invariant_of-result
invariant_of-result c = (search rules, search rules, search rules, none_noted c.in_ok-records.records.records (search rules))
