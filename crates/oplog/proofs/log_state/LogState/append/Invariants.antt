use Rattle.std.proofs.Common.{◌≡◌, ◌+◌, ◌++◌, take}
use Rattle.oplog.specs.Fields.{HasEnds}
use Rattle.oplog.proofs.log_state.LogState.append.Given as goal

abbrev pub invariant-loop-k : goal.invariant-loop-k
invariant-loop-k l = record {
  same : l.self-inside ≡ record l.initial.self-inside { records = l.self-inside.records; ends = l.self-inside.ends };
  room : l.self-inside.records.room ≡ l.initial.self-inside.records.room;
  long : l.self-inside.records.long ≡ l.initial.self-inside.records.long;
  appended : l.self-inside.records.records ≡ l.initial.self-inside.records.records ++ take l.k l.batch;
  end : l.end ≡ l.first + l.k;
  ends : HasEnds l.self-inside.base l.self-inside.records.records l.self-inside.ends;
}
