use Rattle.std.proofs.Common.{◌≡◌, ap, subst, sym, ◌∙◌}
use Rattle.std.proofs.lemmas.Option.{IfSome_then}
use Rattle.std.specs.Prelude.{MatchOption}
use Rattle.ownlock.specs.Knowledge.{MayTake, Takes}
use Rattle.ownlock.specs.Words.{IsSpot}
use Rattle.ownlock.proofs.shelf.Shelf.try_take.Goals as goal

pub try_take_by-requires-clause-may : goal.try_take_by-requires-clause-may
try_take_by-requires-clause-may g c =
    let m = c.requires.may in (m.0, m.1, subst (λ z. MayTake g.V.Shelved.rules z m.0) (sym c.spot.ensures.1) m.2)

pub returns-clause-place : goal.returns-clause-place
returns-clause-place g c =
    IfSome_then c.try_take_by.result c.try_take_by.ensures.spot (λ h e. ap (λ z. z.place) e ∙ c.spot.ensures.1)

pub returns-clause-there : goal.returns-clause-there
returns-clause-there g c =
    IfSome_then c.try_take_by.result c.try_take_by.ensures.spot
    (λ h e. subst (λ z. IsSpot c.args.self.now.places z) (sym e) c.spot.ensures.0)

pub returns-clause-taken : goal.returns-clause-taken
returns-clause-taken g c =
    subst (λ z. MatchOption c.try_take_by.result (c.try_take_by.new.seat ≡ c.args.seat.now)
    (λ h. Takes g.V.Shelved.rules c.args.seat.now z h.value c.try_take_by.new.seat)) c.spot.ensures.1
    c.try_take_by.ensures.taken
