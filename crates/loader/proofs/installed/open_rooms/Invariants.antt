use Rattle.std.proofs.Common.{◌≡◌}
use Rattle.std.specs.Prelude.{replicate, vec_capacity}
use Rattle.verifier.specs.Accepted.{accepted_with, empty_room}
use Rattle.loader.proofs.installed.open_rooms.Given as goal

abbrev pub invariant-loop-place : goal.invariant-loop-place
invariant-loop-place l = record { rooms : l.rooms.items ≡ replicate l._place (accepted_with (empty_room l.shapes) l.slots); room : vec_capacity l.rooms ≡ l.places }
