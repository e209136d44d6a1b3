use Rattle.std.proofs.Common.{◌≡◌}
use Rattle.accounts.specs.declared.sessions.Pending.{Pending}
use Rattle.store_steps.specs.AtOnce.{HasGone}
use Rattle.store_steps.specs.Standing.{SessionKnown}
use Rattle.store_steps.proofs.at_once.go_on.Given as goal

abbrev pub invariant-loop : goal.invariant-loop
invariant-loop g l =
    (l.seat.shelf ≡ l.initial.seat.shelf)
    × ((asked : SessionKnown) (o : Pending)
    → HasGone l.initial.seat l.here.caller asked o l.initial.room.batch l.initial.at
    → HasGone l.seat l.here.caller asked o l.room.batch l.at)
