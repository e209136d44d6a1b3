use Rattle.std.proofs.Common.{◌≡◌, ◌≤◌, vec_capacity}
use Rattle.std.specs.Prelude.{replicate, None}
use Rattle.schedule.proofs.nodes.no_reads.Given as goal

abbrev pub invariant-loop-slot : goal.invariant-loop-slot
invariant-loop-slot l = record {
  capacity : l.fn.count ≤ vec_capacity l.reads;
  items : l.reads.items ≡ replicate l._slot None;
}
