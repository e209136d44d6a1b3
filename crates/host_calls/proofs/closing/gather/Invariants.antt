use Rattle.std.specs.Prelude.{◌≡◌, ◌+◌, ◌++◌, ◌≤◌, All, length, vec_capacity}
use Rattle.store.specs.Sessions.{IsOf, StoreView}
use Rattle.host_calls.specs.Leaving.{sessions_back}
use Rattle.host_calls.specs.Seating.{IsIdleSeat, IsSeatOf}
use Rattle.host_calls.proofs.closing.gather.Given as goal

abbrev pub decreases-loop-place : goal.decreases-loop-place
decreases-loop-place l = length l.places.items

abbrev pub invariant-loop-place : goal.invariant-loop-place
invariant-loop-place l = record {
  idle : All IsIdleSeat l.places.items;
  room : length l.sessions.items + length l.places.items ≤ vec_capacity l.sessions;
  sessions : l.sessions.items ++ sessions_back l.places.items ≡ sessions_back l.initial.places.items;
  own : (store : StoreView) → All (IsSeatOf store) l.initial.places.items
      → All (IsOf store) l.sessions.items × All (IsSeatOf store) l.places.items;
}
