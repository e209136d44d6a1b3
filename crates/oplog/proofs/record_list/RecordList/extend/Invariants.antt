use Rattle.std.proofs.Common.{◌≡◌, ◌++◌, take}
use Rattle.oplog.proofs.record_list.RecordList.extend.Given as goal

abbrev pub invariant-loop-k : goal.invariant-loop-k
invariant-loop-k l = l.self ≡ record l.initial.self { records = l.initial.self.records ++ take l.k l.records }
