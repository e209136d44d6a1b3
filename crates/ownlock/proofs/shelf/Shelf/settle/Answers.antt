use Rattle.std.proofs.Common.{ap, refl}
use Rattle.ownlock.proofs.Run.{others_again}
use Rattle.ownlock.proofs.Seats.{steps_as}
use Rattle.ownlock.proofs.shelf.Shelf.settle.Goals as goal

pub put_and_take-value-requires-clause-may : goal.put_and_take-value-requires-clause-may
put_and_take-value-requires-clause-may g c =
    let m = c.requires.may in
    (m.0, steps_as c.seat.inside.pass.me _ m.0 (ap (λ z. z.sessions) c.seat.view_is) m.1 c.seat.invariant, m.2, m.3)

pub returns-clause-settled : goal.returns-clause-settled
returns-clause-settled g c k is =
    let t = c.put_and_take-value.ensures.settled k (steps_as c.seat.inside.pass.me _ k (ap (λ z. z.sessions) c.seat.view_is) is c.seat.invariant) in
    let L = g.V.Shelved.laws in
    let now = g.M.Change.progress t.0 in
    (t.0, t.1, (_, (t.2.0, t.2.1, refl), (_, (now, refl, (L.extends_self now, λ a u _ _. L.same_self now), t.2.2, (_, others_again k _ _ _ _ _ t.2.1, refl)), ap (λ z. z.0) t.2.3, refl)))
