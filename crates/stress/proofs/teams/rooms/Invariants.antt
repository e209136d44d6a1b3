use Rattle.std.proofs.Common.{◌≡◌, ◌≤◌, length}
use Rattle.std.specs.Prelude.{vec_capacity}
use Rattle.stress.specs.Teams.{AreRooms}
use Rattle.stress.proofs.teams.rooms.Given as goal

abbrev pub invariant-loop-team : goal.invariant-loop-team
invariant-loop-team l = (length l.teams.items ≡ l._team) × AreRooms l.size l.teams.items × (l.count ≤ vec_capacity l.teams)
