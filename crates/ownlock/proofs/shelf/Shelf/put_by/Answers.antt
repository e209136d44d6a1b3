use Rattle.std.proofs.Common.{◌≡◌, [], ◌∷◌, sym, subst, ap}
use Rattle.ownlock.specs.declared.known.ShelfStep.TheVariants.{Put}
use Rattle.ownlock.specs.Seats.{Adds, left_with, run_of}
use Rattle.ownlock.proofs.Seats.{steps_as}
use Rattle.ownlock.proofs.shelf.Shelf.put_by.Goals as goal

pub release-requires-clause-may : goal.release-requires-clause-may
release-requires-clause-may g c =
    let m = c.requires.may in
    (m.0, steps_as c.seat.inside.pass.me _ m.0 (ap (λ z. z.sessions) c.seat.view_is) m.1 c.seat.invariant, m.2)

pub returns-clause-put : goal.returns-clause-put
returns-clause-put g c k is =
    let t = c.release.ensures.put k
    (steps_as c.seat.inside.pass.me _ k (ap (λ z. z.sessions) c.seat.view_is) is c.seat.invariant) in
    let now = ap (λ z. z.0) t.2.2 in
    let y = c.args.held.value in
    let p = c.args.held.spot.place in
    let l = g.M.Change.progress t.0 in
    let n = g.M.Change.note k.note in (
      t.0,
      t.1,
      subst (λ v. v ≡ left_with k p y l n (run_of v) ∷ []) (sym now) (λ i. left_with k p y l n t.2.0 ∷ []),
      subst (λ v. Adds k (Put p y) l n (run_of v)) (sym now) t.2.1,
    )
