use Rattle.std.specs.Prelude.{[]}
use Rattle.store_steps.specs.Stages.{IsOnItsWay}
use Rattle.store.specs.Linear.{Adds}
use Rattle.store.specs.Sessions.{SessionGoesOn}
use Rattle.example_calls.proofs.finish.Given as goal

abbrev pub invariant-loop : goal.invariant-loop
invariant-loop g l = record {
  session : SessionGoesOn l.store l.initial.polled l.polled;
  way : IsOnItsWay l.initial.polled l.polled;
  adds : Adds l.initial.polled l.polled [];
}
