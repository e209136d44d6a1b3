use Rattle.store_steps.specs.EachMember.{LooksEach}
use Rattle.store_steps.specs.Pipelines.{SameSpots}
use Rattle.store_steps.proofs.pipelines.post_each.Given as goal

abbrev pub invariant-loop : goal.invariant-loop
invariant-loop g l = record { spots : SameSpots l.initial.members l.members; looks : LooksEach l.initial.members l.members }
