use Rattle.std.proofs.Common.{◌≡◌, ◌*◌, ◌<◌, ◌≤◌, ℕ, [], length}
use Rattle.std.specs.Prelude.{IfOk, vec_capacity}
use Rattle.ownlock.specs.Seats.{At}
use Rattle.stress.specs.declared.teams.Team.{Team}
use Rattle.stress.specs.Teams.{AreTeam, HasPlayed, WereTold}
use Rattle.stress.proofs.teams.leave.Given as goal

abbrev pub invariant-loop-number : goal.invariant-loop-number
invariant-loop-number g l =
    (length l.teams ≡ length l.initial.teams) × (length l.sessions.items ≡ l.number * l.ground.together) × (length l.teams * l.ground.together ≤ vec_capacity l.sessions)
    × AreTeam l.ground.store.now 0 l.sessions.items × IfOk l.all (λ v. WereTold l.ground.sessions l.ground.calls.now l.sessions.items v.items)
    × ((i : ℕ) (t : Team) → i < l.number → At i t l.teams → t.sessions.items ≡ [])
    × ((i : ℕ) (t : Team) → l.number ≤ i → At i t l.teams → HasPlayed l.ground i t)
