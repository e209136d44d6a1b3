use Rattle.std.proofs.Common.{◌≡◌, ◌++◌, [], ◌∷◌, sym, ap, ◌∙◌, subst}
use Rattle.store_steps.specs.Standing.{StoreSeat}
use Rattle.store_steps.specs.Views.{IsIdle, SessionView}
use Rattle.store.specs.Sessions.{HasRoom}
use Rattle.store.proofs.session.Session.stand_beside.Goals as goal

pub invariant_of-result : goal.invariant_of-result
invariant_of-result c =
    let i = c.self.invariant.0 in
    let o = c.other.invariant.0 in
    let all = ap (λ (s : StoreSeat). s.sessions) c.stand.ensures.same ∙ (c.join.ensures.joined ∙ (λ j. i.is j ++ o.is j)) in
    let split = c.split_off-seat.ensures.apart i.known (o.known ∷ []) all in
    let shelf = c.split_off-seat.ensures.same.0 ∙ (ap (λ (s : StoreSeat). s.shelf) c.stand.ensures.same ∙ c.join.ensures.same) in
    let is : c.split_off-seat.new.seat ≡ c.self.inside.seat = λ j. record { shelf = shelf j; sessions = (split.1 ∙ sym i.is) j } in
    subst (λ z. IsIdle z c.self.inside.caller × HasRoom c.self.inside.room z) (sym is) c.self.invariant

pub invariant_of-result-2 : goal.invariant_of-result-2
invariant_of-result-2 c =
    let i = c.self.invariant.0 in
    let o = c.other.invariant.0 in
    let all = ap (λ (s : StoreSeat). s.sessions) c.stand.ensures.same ∙ (c.join.ensures.joined ∙ (λ j. i.is j ++ o.is j)) in
    let split = c.split_off-seat.ensures.apart i.known (o.known ∷ []) all in
    let of_one = ap (λ (z : SessionView). z.shelf) c.self.view_is ∙ c.requires.own.0 in
    let of_other = ap (λ (z : SessionView). z.shelf) c.other.view_is ∙ c.requires.own.1 in
    let shelf = c.split_off-seat.ensures.same.1 ∙ (ap (λ (s : StoreSeat). s.shelf) c.stand.ensures.same ∙ (c.join.ensures.same ∙ (of_one ∙ sym of_other))) in
    let is : c.split_off-seat.result ≡ c.other.inside.seat = λ j. record { shelf = shelf j; sessions = (split.0 ∙ sym o.is) j } in
    subst (λ z. IsIdle z c.other.inside.caller × HasRoom c.other.inside.room z) (sym is) c.other.invariant
