use Rattle.std.proofs.Common.{rules, refl, [], ◌∷◌}
use Rattle.example_sums.specs.declared.kinds.Numbers.{Numbers}
use Rattle.example_sums.specs.declared.kinds.RunningSum.{RunningSum}
use Rattle.example_sums.specs.Sums.{fresh}
use Rattle.example_sums.proofs.Listed.{first_agree}
use Rattle.example_sums.proofs.both.open_two.Goals as goal

pub open-requires-clause-agree : goal.open-requires-clause-agree
open-requires-clause-agree c =
    let list : Numbers = record { items = c.new.result } in
    let sum : RunningSum = record { tail = 0; sum = 0 } in
    first_agree _ list sum (search rules) (search rules) refl refl

pub split-one-requires-clause-some : goal.split-one-requires-clause-some
split-one-requires-clause-some c = (fresh 0, fresh 1 ∷ [], search rules)
