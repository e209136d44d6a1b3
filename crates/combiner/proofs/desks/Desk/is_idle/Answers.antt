use Rattle.std.proofs.Common.{◌≡◌, ℕ, zero, suc, nat_eq, nat_lt, not, refl, sym, ap, ◌∙◌, arith}
use Rattle.std.specs.Prelude.{◌&&◌}
use Rattle.std.proofs.lemmas.Bool.{eq-eqb, lt-ltb, ne_eqb}
use Rattle.combiner.specs.Slots.{is_posted, is_claimed}
use Rattle.combiner.specs.Desks.{has_combiner}
use Rattle.combiner.proofs.Counts.{any_there}
use Rattle.combiner.proofs.desks.Desk.is_idle.Goals as goal

none_counted : (n : ℕ) → nat_eq n 0 ≡ not (nat_lt 0 n)
none_counted zero = refl
none_counted (suc n) = ne_eqb (suc n) 0 (λ e. absurd (omega arith)) ∙ ap not (sym (lt-ltb 0 (suc n) (omega arith)))

pub returns-then-self-eq0 : goal.returns-then-self-eq0
returns-then-self-eq0 c =
    let a = c.self.inside in
    let is = c.self.invariant in
    let d = c.args.self.now in
    let no_request = none_counted a.posted_count ∙ ap not (any_there is_posted a _ d is.2 c.self.view_is) in
    let no_combiner = none_counted a.claimed_count ∙ ap not (any_there is_claimed a _ d is.3 c.self.view_is) in
    let none = eq-eqb a.posted_count 0 c.if-self-eq0.true in
    record { idle = no_combiner ∙ ap (λ b. b && not (has_combiner d)) (sym none ∙ no_request) }

pub returns-else-self-eq0 : goal.returns-else-self-eq0
returns-else-self-eq0 c =
    let a = c.self.inside in
    let is = c.self.invariant in
    let d = c.args.self.now in
    let no_request = none_counted a.posted_count ∙ ap not (any_there is_posted a _ d is.2 c.self.view_is) in
    let some = ne_eqb a.posted_count 0 c.if-self-eq0.false in
    record { idle = some ∙ ap (λ b. b && not (has_combiner d)) (sym some ∙ no_request) }
