use Rattle.std.proofs.Common.{◌≡◌, ◌+◌, length, vec_capacity}
use Rattle.std.specs.List.{All}
use Rattle.replica.specs.Refusals.{IsRoomFor}
use Rattle.store_steps.specs.Shelving.{sessions_of}
use Rattle.store.proofs.Fresh.{Seated}
use Rattle.store.proofs.opening.push_sessions.Given as goal

abbrev pub invariant-loop-number : goal.invariant-loop-number
invariant-loop-number l = record { seated : Seated l.fn.setup.config l.fn.setup.catalogue l.fn.shelf.id (sessions_of l.fn.setup.config) l.number l.seat l.sessions.items; capacity : vec_capacity l.sessions ≡ vec_capacity l.fn.sessions; rooms : All (IsRoomFor l.fn.setup.catalogue.shapes l.fn.setup.catalogue.long) l.rooms.items; left : l.number + length l.rooms.items ≡ sessions_of l.fn.setup.config }
