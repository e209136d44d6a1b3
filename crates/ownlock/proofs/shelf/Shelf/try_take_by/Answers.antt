use Rattle.std.proofs.Common.{ap, sym, append-nil, ◌∙◌}
use Rattle.ownlock.specs.Invariant.{out_of}
use Rattle.ownlock.proofs.Seats.{steps_as}
use Rattle.ownlock.proofs.shelf.Shelf.try_take_by.Goals as goal

pub try_once-requires-clause-may : goal.try_once-requires-clause-may
try_once-requires-clause-may g c =
    let m = c.requires.may in
    (m.0, steps_as c.seat.inside.pass.me _ m.0 (ap (λ z. z.sessions) c.seat.view_is) m.1 c.seat.invariant, m.2)

pub invariant_of-seat-2 : goal.invariant_of-seat-2
invariant_of-seat-2 g c =
    let m = c.requires.may in
    let t = c.try_once.ensures.taken c.in-Some.value c.in-Some.is m.0
    (steps_as c.seat.inside.pass.me _ m.0 (ap (λ z. z.sessions) c.seat.view_is) m.1 c.seat.invariant) in
    ap (λ z. z.1) t.2 ∙ (sym (append-nil _) ∙ sym (ap (λ z. out_of z.0) t.2))

pub returns-clause-taken : goal.returns-clause-taken
returns-clause-taken g c k is =
    let t = c.try_once.ensures.taken c.in-Some.value c.in-Some.is k
    (steps_as c.seat.inside.pass.me _ k (ap (λ z. z.sessions) c.seat.view_is) is c.seat.invariant) in
    (t.0, t.1, ap (λ z. z.0) t.2)
