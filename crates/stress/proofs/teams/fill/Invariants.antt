use Rattle.std.proofs.Common.{◌≡◌, drop, take}
use Rattle.std.specs.Prelude.{vec_capacity}
use Rattle.stress.proofs.teams.fill.Given as goal

abbrev pub invariant-loop-session : goal.invariant-loop-session
invariant-loop-session l =
    (l.to.items ≡ take l._session l.initial.sessions.items) × (l.sessions.items ≡ drop l._session l.initial.sessions.items) × (vec_capacity l.sessions ≡ vec_capacity l.initial.sessions)
    × (vec_capacity l.to ≡ vec_capacity l.initial.to)
