-- The sessions at places are taken out, the last first.
use Rattle.std.proofs.Common.{◌≡◌, ◌≤◌, List, [], ◌∷◌, ◌++◌, true, None, Some, Option, length, is_some, refl, ap, ◌∙◌, arith, append_assoc, length-append}
use Rattle.std.specs.List.{list_all}
use Rattle.host_calls.specs.declared.attached.Attached.{Attached}
use Rattle.host_calls.specs.Leaving.{sessions_at, sessions_back}

alone : (p : Option Attached) → sessions_at p ≡ sessions_at p ++ []
alone None = refl
alone (Some a) = refl

-- of places with one more at the end
pub back_more : (ps : List (Option Attached)) (p : Option Attached)
    → sessions_back (ps ++ p ∷ []) ≡ sessions_at p ++ sessions_back ps
back_more [] p = alone p
back_more (q ∷ ps) p = ap (λ z. z ++ sessions_at q) (back_more ps p) ∙ append_assoc (sessions_at p) (sessions_back ps) (sessions_at q)

pub at_most_one : (p : Option Attached) → length (sessions_at p) ≤ 1
at_most_one None = omega arith
at_most_one (Some a) = omega arith

-- where each place has its session there are as many
pub back_whole : (ps : List (Option Attached)) → list_all is_some ps ≡ true → length (sessions_back ps) ≡ length ps
back_whole [] whole = refl
back_whole (None ∷ ps) whole = absurd cc
back_whole (Some a ∷ ps) whole = let rest = back_whole ps whole in let more = length-append (sessions_back ps) (a.session ∷ []) in omega (arith, rest, more)
