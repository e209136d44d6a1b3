-- After k rounds k sessions have left the pipeline.
use Rattle.std.proofs.Common.{◌≡◌, ◌+◌, ◌≤◌, length, vec_capacity}
use Rattle.store.proofs.Ascending.{Leaving}
use Rattle.store.proofs.pipeline.Pipeline.into_sessions.Given as goal

abbrev pub invariant-loop-member : goal.invariant-loop-member
invariant-loop-member l = record {
  leaving : Leaving l.fn.self l.sessions.items l.members.items l.rooms.items;
  left : l._member + length l.members.items ≡ l.count;
  gone : length l.sessions.items ≡ l._member;
  space : l.count ≤ vec_capacity l.sessions;
}
