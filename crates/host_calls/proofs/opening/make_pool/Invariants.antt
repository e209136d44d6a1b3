use Rattle.std.specs.Prelude.{◌≡◌, ℕ, ◌<◌, ◌≤◌, All, length}
use Rattle.std.specs.Arc.{arc_value}
use Rattle.store.specs.Sessions.{IsOf}
use Rattle.host_calls.specs.Openings.{IsSeat, fresh_of}
use Rattle.host_calls.proofs.opening.make_pool.Given as goal

abbrev pub decreases-loop-session : goal.decreases-loop-session
decreases-loop-session l = length l.sessions.items

abbrev pub invariant-loop-session : goal.invariant-loop-session
invariant-loop-session l = record {
  own : All (IsOf (arc_value l.store)) l.sessions.items;
  fresh : l.sessions.items ≡ fresh_of (arc_value l.store) (length l.sessions.items);
  room : length l.places.items ≡ length l.initial.sessions.items;
  few : length l.sessions.items ≤ length l.initial.sessions.items;
  seats : (k : ℕ) → length l.sessions.items ≤ k → k < length l.initial.sessions.items
      → IsSeat (arc_value l.store) l.places.items k;
}
