use Rattle.std.specs.Prelude.{◌≡◌, ◌++◌, drop, map, take}
use Rattle.host_calls.specs.Lanes.{outcome_of}
use Rattle.host_calls.proofs.lanes.write_each.Given as goal

abbrev pub invariant-loop-number : goal.invariant-loop-number
invariant-loop-number l = l.outcomes ≡ map outcome_of (take l.number l.answers) ++ drop l.number l.initial.outcomes
