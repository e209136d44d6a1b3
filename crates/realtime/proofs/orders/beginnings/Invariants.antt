use Rattle.std.proofs.Common.{◌≡◌, ◌*◌, length}
use Rattle.realtime.specs.Judging.{AreBeginnings}
use Rattle.realtime.proofs.orders.beginnings.Given as goal

abbrev pub invariant-loop-k : goal.invariant-loop-k
invariant-loop-k l = (length l.begins.items ≡ 2 * length l.calls) × AreBeginnings l.calls l.k l.begins.items
