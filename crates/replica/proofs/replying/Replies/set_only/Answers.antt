use Rattle.std.proofs.Common.{rules, ◌≡◌, [], ◌∷◌, List, length, take, slice_set, Option, refl, arith}
use Rattle.machine.specs.declared.running.Outcome.{Outcome}
use Rattle.replica.proofs.replying.Replies.set_only.Goals as goal

first_set : (outcomes : List (Option Outcome)) (x : Option Outcome) → length outcomes ≡ 16 → take 1 (slice_set outcomes 0 x) ≡ x ∷ []
first_set [] x long = absurd (omega (arith, long))
first_set (y ∷ ys) x long = refl

pub returns : goal.returns
returns c =
    let long : length c.self.inside.outcomes ≡ 16 = search rules in
    record { only = λ j. record { first = c.args.index; outcomes = first_set c.self.inside.outcomes c.args.outcome long j } }
