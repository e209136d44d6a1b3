use Rattle.store.specs.Sessions.{IsOf}
use Rattle.example_store.proofs.threads.count.Given as goal

abbrev pub invariant-loop : goal.invariant-loop
invariant-loop g l = IsOf l.store l.session
