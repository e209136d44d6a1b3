use Rattle.std.proofs.Common.{◌≡◌, ◌%◌, ◌^◌, take}
use Rattle.example_sums.specs.Sums.{total}
use Rattle.example_sums.proofs.replay.replay.Given as goal

abbrev pub invariant-loop-index : goal.invariant-loop-index
invariant-loop-index l = l.sum.sum ≡ total (take l.index l.list.items.items) % 2 ^ 64
