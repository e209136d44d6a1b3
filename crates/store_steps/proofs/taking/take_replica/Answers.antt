use Rattle.std.proofs.Common.{◌≡◌, ap, subst, sym, ◌∙◌}
use Rattle.std.proofs.lemmas.Option.{IfSome_then}
use Rattle.std.specs.Prelude.{MatchOption}
use Rattle.ownlock.specs.Knowledge.{MayTake, Takes}
use Rattle.ownlock.specs.Words.{IsSpot}
use Rattle.store_steps.specs.Shelving.{store_rules}
use Rattle.store_steps.proofs.Taken.{may_take_replica}
use Rattle.store_steps.proofs.Winning.{is_by, node_there}
use Rattle.store_steps.proofs.taking.take_replica.Goals as goal

pub first-requires : goal.first-requires
first-requires c = let i = c.requires.idle in node_there c.args.here i.0 i.2.0 i.2.1

pub try_take_by-requires-clause-may : goal.try_take_by-requires-clause-may
try_take_by-requires-clause-may c =
    let i = c.requires.idle in
    (i.0, i.1, subst (λ z. MayTake store_rules z i.0) (sym c.first.ensures.1) (may_take_replica i.0 c.args.here.caller i.2.0))

pub try_take_by-requires-clause-by : goal.try_take_by-requires-clause-by
try_take_by-requires-clause-by c =
    let i = c.requires.idle in
    IfSome_then c.args.won c.requires.by (λ w won. is_by c.args.here w.now c.args.seat.now i.0 i.1 i.2.0 i.2.1 won)

pub returns-clause-place : goal.returns-clause-place
returns-clause-place c = IfSome_then c.try_take_by.result c.try_take_by.ensures.spot (λ h e. ap (λ z. z.place) e ∙ c.first.ensures.1)

pub returns-clause-there : goal.returns-clause-there
returns-clause-there c = IfSome_then c.try_take_by.result c.try_take_by.ensures.spot (λ h e. subst (IsSpot c.args.here.shared.shelf.now.places) (sym e) c.first.ensures.0)

pub returns-clause-taken : goal.returns-clause-taken
returns-clause-taken c = subst (λ z. MatchOption c.try_take_by.result (c.try_take_by.new.seat ≡ c.args.seat.now) (λ h. Takes store_rules c.args.seat.now z h.value c.try_take_by.new.seat)) c.first.ensures.1 c.try_take_by.ensures.taken
