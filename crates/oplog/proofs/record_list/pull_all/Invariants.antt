use Rattle.std.proofs.Common.{◌≡◌, ◌++◌, length, take, drop, vec_capacity}
use Rattle.oplog.specs.Laid.{pulled_rows}
use Rattle.oplog.proofs.record_list.pull_all.Given as goal

abbrev pub invariant-loop-k : goal.invariant-loop-k
invariant-loop-k l = record {
  rows : take l.count l.filled.items ≡ pulled_rows l.gap (take l.k (take l.count l.initial.filled.items)) ++ drop l.k (take l.count l.initial.filled.items);
  same : length l.filled.items ≡ length l.initial.filled.items;
  room : vec_capacity l.filled ≡ vec_capacity l.initial.filled;
}
