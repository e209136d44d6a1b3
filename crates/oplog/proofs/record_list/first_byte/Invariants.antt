use Rattle.std.proofs.Common.{◌≡◌, drop}
use Rattle.oplog.specs.Laid.{begin_of}
use Rattle.oplog.proofs.record_list.first_byte.Given as goal

abbrev pub invariant-loop-row : goal.invariant-loop-row
invariant-loop-row l = begin_of (drop l.row-index l.rows) l.end ≡ begin_of l.rows l.end
