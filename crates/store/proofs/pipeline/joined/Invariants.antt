-- After k rounds k sessions have come into the pipeline.
use Rattle.std.proofs.Common.{◌≡◌, ◌+◌, length, vec_capacity}
use Rattle.store.proofs.Ascending.{Joining}
use Rattle.store.proofs.pipeline.joined.Given as goal

abbrev pub invariant-loop-session : goal.invariant-loop-session
invariant-loop-session l = record {
  joining : Joining l.fn.sessions.items l.members.items l.rooms.items l.sessions.items;
  left : l._session + length l.sessions.items ≡ l.count;
  total : l.count ≡ length l.fn.sessions.items;
  came : (length l.members.items ≡ l._session) × (length l.rooms.items ≡ l._session);
  space : (vec_capacity l.members ≡ vec_capacity l.fn.members) × (vec_capacity l.rooms ≡ vec_capacity l.fn.rooms);
  kept : vec_capacity l.sessions ≡ vec_capacity l.fn.sessions;
}
