use Rattle.std.proofs.Common.{◌≡◌, ◌+◌, ap, subst, sym, ◌∙◌, arith}
use Rattle.std.proofs.lemmas.Option.{IfSome_then}
use Rattle.std.specs.Prelude.{MatchOption}
use Rattle.ownlock.specs.Knowledge.{Takes}
use Rattle.ownlock.specs.Words.{IsSpot}
use Rattle.store_steps.specs.Shelving.{store_rules}
use Rattle.store_steps.proofs.TakenDesk.{may_take_its_desk}
use Rattle.store_steps.proofs.Winning.{is_by}
use Rattle.store_steps.proofs.taking.take_desk.Goals as goal

pub second-requires : goal.second-requires
second-requires c =
    let i = c.requires.idle in
    let near = i.2.0.near in
    let nodes = i.2.1.nodes_are in
    let places = i.2.1.places_are in
    omega (arith, near, nodes, places)

pub try_take_by-requires-clause-may : goal.try_take_by-requires-clause-may
try_take_by-requires-clause-may c =
    let i = c.requires.idle in
    let nodes = i.2.1.nodes_are in
    let places = i.2.1.places_are in
    let at = c.second.ensures.1 in
    (i.0, i.1, may_take_its_desk i.0 c.args.here.caller _ i.2.0 (omega (arith, nodes, places, at)))

pub try_take_by-requires-clause-by : goal.try_take_by-requires-clause-by
try_take_by-requires-clause-by c =
    let i = c.requires.idle in
    IfSome_then c.args.won c.requires.by (λ w won. is_by c.args.here w.now c.args.seat.now i.0 i.1 i.2.0 i.2.1 won)

pub returns-clause-place : goal.returns-clause-place
returns-clause-place c =
    let places = c.requires.idle.2.1.places_are in
    let at = c.second.ensures.1 in
    IfSome_then c.try_take_by.result c.try_take_by.ensures.spot (λ h e. ap (λ z. z.place) e ∙ omega (arith, places, at))

pub returns-clause-there : goal.returns-clause-there
returns-clause-there c = IfSome_then c.try_take_by.result c.try_take_by.ensures.spot (λ h e. subst (IsSpot c.args.here.shared.shelf.now.places) (sym e) c.second.ensures.0)

pub returns-clause-taken : goal.returns-clause-taken
returns-clause-taken c =
    let places = c.requires.idle.2.1.places_are in
    let at = c.second.ensures.1 in
    let is : c.second.result.place ≡ 1 + c.args.here.shared.nodes + c.args.here.caller.node = omega (arith, places, at) in
    subst (λ z. MatchOption c.try_take_by.result (c.try_take_by.new.seat ≡ c.args.seat.now) (λ h. Takes store_rules c.args.seat.now z h.value c.try_take_by.new.seat)) is c.try_take_by.ensures.taken
