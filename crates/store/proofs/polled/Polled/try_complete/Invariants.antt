use Rattle.store.specs.Sessions.{SessionGoesOn, known_of}
use Rattle.store_steps.specs.Stages.{IsOnItsWay}
use Rattle.store_steps.specs.Updating.{Deeds}
use Rattle.store.proofs.polled.Polled.try_complete.Given as goal

abbrev pub invariant-loop : goal.invariant-loop
invariant-loop l = record {
  session : SessionGoesOn l.initial.store l.initial.self l.self;
  way : IsOnItsWay l.initial.self l.self;
  deeds : Deeds (known_of l.initial.self) (known_of l.self);
}
