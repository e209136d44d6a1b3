-- After k rounds k rooms are there.
use Rattle.std.proofs.Common.{◌≡◌, ◌≤◌, length, vec_capacity}
use Rattle.std.specs.List.{All}
use Rattle.replica.specs.Refusals.{IsRoomFor}
use Rattle.store.proofs.opening.session_rooms.Given as goal

abbrev pub invariant-loop-session : goal.invariant-loop-session
invariant-loop-session l = record { rooms : All (IsRoomFor l.catalogue.shapes l.catalogue.long) l.rooms.items; count : length l.rooms.items ≡ l._session; capacity : l.count ≤ vec_capacity l.rooms }
