use Rattle.std.proofs.Common.{◌≡◌, ◌∷◌, ap, refl, sym, ◌∙◌}
use Rattle.ownlock.specs.Invariant.{out_of}
use Rattle.ownlock.proofs.OnlyOut.{one_alone, out_handed}
use Rattle.ownlock.proofs.shelf.Shelf.hand_on.Goals as goal

pub pass_on-value-requires-clause-may : goal.pass_on-value-requires-clause-may
pass_on-value-requires-clause-may g c =
    let m = c.requires.may in
    (m.0, m.1, m.2, one_alone c.seat.inside.pass.me _ m.0 m.1 m.2 _ m.5.0 (ap (λ z. z.sessions) c.seat.view_is) m.3 c.seat.invariant m.5.1 m.5.2, m.4, m.5)

pub returns-clause-handed : goal.returns-clause-handed
returns-clause-handed g c k m ms is =
    let r = c.requires.may in
    let sits = one_alone c.seat.inside.pass.me _ r.0 r.1 r.2 _ r.5.0 (ap (λ z. z.sessions) c.seat.view_is) r.3 c.seat.invariant r.5.1 r.5.2 in
    let first : c.seat.inside.pass.me.0 ≡ k ∷ m ∷ ms = ap (λ z. z.sessions) c.seat.view_is ∙ is in
    let second = ap (λ z. z.1) sits in
    let t = c.pass_on-value.ensures.handed k m ms (λ i. (first i, second i)) in
    (t.0, t.1, (_, (t.2.0, t.2.1, refl), (_, (g.M.Change.progress t.0, refl, t.2.4, t.2.3, (_, t.2.2, refl)), refl, ap (λ z. z.0) t.2.5)))

pub invariant_of-seat : goal.invariant_of-seat
invariant_of-seat g c =
    let r = c.requires.may in
    let t = c.pass_on-value.ensures.handed r.0 r.1 r.2 (one_alone c.seat.inside.pass.me _ r.0 r.1 r.2 _ r.5.0 (ap (λ z. z.sessions) c.seat.view_is) r.3 c.seat.invariant r.5.1 r.5.2) in
    ap (λ z. z.1) t.2.5 ∙ (sym (out_handed r.0 r.1 r.2 _ r.5.0 _ _ _ _ r.5.1 r.5.2) ∙ sym (ap (λ z. out_of z.0) t.2.5))
