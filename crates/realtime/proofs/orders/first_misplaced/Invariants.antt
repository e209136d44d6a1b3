use Rattle.std.proofs.Common.{◌≡◌, ℕ, ◌<◌, false}
use Rattle.std.specs.Prelude.{slice_index_or}
use Rattle.realtime.specs.declared.histories.Timed.{Timed}
use Rattle.realtime.specs.RealTime.{is_misplaced}
use Rattle.realtime.proofs.orders.first_misplaced.Given as goal

abbrev pub invariant-loop-k : goal.invariant-loop-k
invariant-loop-k l = (j : ℕ) (d : Timed) → j < l.k → is_misplaced l.calls (slice_index_or l.calls j d) ≡ false
