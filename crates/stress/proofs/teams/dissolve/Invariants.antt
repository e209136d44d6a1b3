use Rattle.std.proofs.Common.{length}
use Rattle.stress.specs.Teams.{AreVacant}
use Rattle.stress.proofs.teams.dissolve.Given as goal

abbrev pub invariant-loop-team : goal.invariant-loop-team
invariant-loop-team l = AreVacant l.teams.items

abbrev pub decreases-loop-team : goal.decreases-loop-team
decreases-loop-team l = length l.teams.items
