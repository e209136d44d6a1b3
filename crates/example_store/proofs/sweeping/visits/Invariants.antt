use Rattle.store.specs.Sessions.{IsOf}
use Rattle.example_store.proofs.sweeping.visits.Given as goal

abbrev pub invariant-loop-user : goal.invariant-loop-user
invariant-loop-user g l = IsOf l.store l.session
