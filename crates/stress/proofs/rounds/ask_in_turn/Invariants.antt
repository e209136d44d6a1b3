use Rattle.std.proofs.Common.{◌≤◌, length, vec_capacity}
use Rattle.stress.specs.Teams.{AreTeam}
use Rattle.stress.proofs.EachCall.{MadeSo}
use Rattle.stress.proofs.rounds.ask_in_turn.Given as goal

abbrev pub invariant-loop-number : goal.invariant-loop-number
invariant-loop-number g l =
    MadeSo l.round.first l.number l.round.calls.now l.initial.sessions l.sessions l.told.items × AreTeam l.ground.store.now l.round.first l.sessions
    × (length l.round.calls.now ≤ vec_capacity l.told)
