use Rattle.std.proofs.Common.{ℕ, ◌<◌}
use Rattle.ownlock.specs.Seats.{At}
use Rattle.stress.specs.declared.calls.ScriptCall.{ScriptCall}
use Rattle.stress.specs.Teams.{IsUpdate}
use Rattle.stress.proofs.rounds.are_updates.Given as goal

abbrev pub invariant-loop-number : goal.invariant-loop-number
invariant-loop-number l = (j : ℕ) (c : ScriptCall) → j < l.number → At j c l.calls → IsUpdate c
