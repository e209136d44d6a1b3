use Rattle.std.proofs.Common.{◌≡◌, ℕ}
use Rattle.ownlock.specs.declared.known.Known.{Known}
use Rattle.ownlock.specs.Seats.{IsSession}
use Rattle.example_sums.specs.declared.kinds.Progress.{Progress}
use Rattle.example_sums.specs.declared.kinds.Value.{Value}
use Rattle.example_sums.specs.Sums.{Counted}
use Rattle.example_sums.proofs.appending.append_many.Given as goal

abbrev pub invariant-loop-item : goal.invariant-loop-item
invariant-loop-item g l = (l.seat.shelf ≡ l.fn.seat.shelf) × ((k : Known Progress ℕ Value) → IsSession l.fn.seat k → Counted l.seat k l.item)
