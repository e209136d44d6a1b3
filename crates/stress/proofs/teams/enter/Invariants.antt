use Rattle.std.proofs.Common.{◌≡◌, ◌*◌, ◌<◌, ◌≤◌, ℕ, [], drop, length, take}
use Rattle.std.specs.Prelude.{vec_capacity}
use Rattle.ownlock.specs.Seats.{At}
use Rattle.stress.specs.declared.teams.Team.{Team}
use Rattle.stress.proofs.teams.enter.Given as goal

abbrev pub invariant-loop-number : goal.invariant-loop-number
invariant-loop-number l =
    (length l.teams ≡ length l.initial.teams) × (l.sessions.items ≡ drop (l.number * l.size) l.initial.sessions.items) × (vec_capacity l.sessions ≡ vec_capacity l.initial.sessions)
    × ((i : ℕ) (t : Team) → i < l.number → At i t l.teams → t.sessions.items ≡ take l.size (drop (i * l.size) l.initial.sessions.items))
    × ((i : ℕ) (t : Team) → l.number ≤ i → At i t l.teams → (t.sessions.items ≡ []) × (l.size ≤ vec_capacity t.sessions))
