use Rattle.std.proofs.Common.{◌≡◌, ◌≤◌, length}
use Rattle.std.specs.Prelude.{vec_capacity}
use Rattle.stress.specs.Teams.{AreEmpty}
use Rattle.stress.proofs.playing.lists.Given as goal

abbrev pub invariant-loop-list : goal.invariant-loop-list
invariant-loop-list l = (length l.all.items ≡ l._list) × AreEmpty l.all.items × (l.count ≤ vec_capacity l.all)
