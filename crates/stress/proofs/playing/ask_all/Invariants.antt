use Rattle.std.proofs.Common.{◌≡◌, length, All}
use Rattle.stress.specs.Playing.{IsReady}
use Rattle.stress.specs.Teams.{AreAtWork, AreTeam, held_in}
use Rattle.stress.proofs.playing.ask_all.Given as goal

abbrev pub invariant-loop-left : goal.invariant-loop-left
invariant-loop-left g l =
    AreTeam l.ground.store.now l.first (held_in l.hand.held) × (length (held_in l.hand.held) ≡ l.ground.together) × All (IsReady l.ground.store.now.catalogue) l.left
    × AreAtWork l.ground.sessions l.first l.ground.calls.now l.left (held_in l.hand.held) l.told.items

abbrev pub decreases-loop-left : goal.decreases-loop-left
decreases-loop-left g l = length l.left
