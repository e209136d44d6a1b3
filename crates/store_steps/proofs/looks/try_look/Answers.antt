use Rattle.ownlock.proofs.Export.{adds_on, stepped_by}
use Rattle.ownlock.specs.declared.known.ShelfStep.TheVariants.{Put}
use Rattle.ownlock.specs.Seats.{HasStepped, left_with, run_of}
use Rattle.std.proofs.Common.{◌+◌, ◌∙◌, ap, refl, subst, sym}
use Rattle.loader.specs.CatalogueView.{CatalogueView}
use Rattle.accounts.specs.Moves.{IsAtRest}
use Rattle.node.specs.declared.following.NodeReplica.{NodeReplica}
use Rattle.store_steps.specs.Knowing.{IsOn}
use Rattle.store_steps.specs.Lending.{with_replica}
use Rattle.store_steps.specs.Seen.{holds}
use Rattle.store_steps.specs.Standing.{IsFree}
use Rattle.store_steps.specs.Views.{RepliesThere}
use Rattle.store_steps.specs.declared.values.Value.{Value}
use Rattle.store_steps.proofs.Loaded.{may_begin}
use Rattle.store_steps.proofs.Looked.{sight_ready, sights_ready}
use Rattle.store_steps.proofs.Ready.{IsAnswer, hears_there, lent_back, may_put_ready, node_is, ready_back}
use Rattle.store_steps.proofs.Taken.{known_as}
use Rattle.store_steps.proofs.looks.try_look.Goals as goal

pub try_hold_ready-requires-clause-idle : goal.try_hold_ready-requires-clause-idle
try_hold_ready-requires-clause-idle g c =
    let i = c.requires.idle in
    (i.0, i.1, (i.2.0, i.2.1, may_begin (g.L.Look.asks c.args.look.now) i.0 c.args.here.shared.catalogue.now i.2.2 i.2.1.catalogue_is c.requires.asks))

pub put-requires-clause-may : goal.put-requires-clause-may
put-requires-clause-may g c =
    let i = c.requires.idle in
    let asked = g.L.Look.asks c.args.look.now in
    let p = 1 + c.args.here.caller.node in
    let v = c.in_ok-held.held.value in
    let r = c.in_ok-held.ensures.ready i.0 i.1 in
    let n = c.replica_mut-node.result.now in
    let there = node_is asked i.0 r.0 p v r.2 n c.replica_mut-node.ensures.replica in
    let same = lent_back asked i.0 r.0 p v r.2 n c.at-told.new.node c.replica_mut-node.ensures.replica c.at-told.ensures.same in
    let reply = g.L.Look.replies c.at-told.result in
    let replies : IsAnswer asked i.0 r.0 p v r.2 reply = λ op is.
    subst (λ (z : CatalogueView × NodeReplica). RepliesThere z.0 op z.1 reply) (λ j. (sym i.2.1.catalogue_is j, there j)) (c.at-told.ensures.heard op is) in
    (r.0, r.1, may_put_ready asked i.0 r.0 p v r.2 c.try_hold_ready.new.seat.sessions r.1 i.2.2 reply replies _ same _ c.in_ok-held.ensures.place)

pub returns-clause-told : goal.returns-clause-told
returns-clause-told g c k is =
    let knows = known_as c.args.seat.now (λ z. IsFree c.args.here.caller z × IsOn c.args.here.shared z × IsAtRest z.note) c.requires.idle k is in
    let catalogue = knows.1.catalogue_is in
    let asked = g.L.Look.asks c.args.look.now in
    let p = 1 + c.args.here.caller.node in
    let v = c.in_ok-held.held.value in
    let n = c.replica_mut-node.result.now in
    let r = c.in_ok-held.ensures.ready k is in
    let there = node_is asked k r.0 p v r.2 n c.replica_mut-node.ensures.replica in
    let same = lent_back asked k r.0 p v r.2 n c.at-told.new.node c.replica_mut-node.ensures.replica c.at-told.ensures.same in
    let reply = g.L.Look.replies c.at-told.result in
    let point = g.L.Look.point c.at-told.result in
    let replies : IsAnswer asked k r.0 p v r.2 reply = λ op asked_is.
    subst (λ (z : CatalogueView × NodeReplica). RepliesThere z.0 op z.1 reply) (λ j. (sym catalogue j, there j)) (c.at-told.ensures.heard op asked_is) in
    let put = c.put.ensures.put r.0 r.1 in
    let b = ready_back asked k r.0 p v r.2 c.try_hold_ready.new.seat.sessions r.1 knows.2 reply replies (with_replica v c.at-told.new.node) same c.in_ok-held.held.spot.place c.in_ok-held.ensures.place point (c.at-told.ensures.point ∙ ap (λ (z : NodeReplica). z.replica.tail) there)
    put.0 put.1.0 put.1.1 (run_of c.put.new.seat.sessions) (adds_on r.0 _ _ _ _ put.3) in
    let put_value = with_replica v c.at-told.new.node in
    let f = left_with r.0 c.in_ok-held.held.spot.place put_value put.0 (hears_there c.try_hold_ready.new.seat.sessions put_value r.0.note) (run_of c.put.new.seat.sessions) in
    let sees = holds (g.L.Look.sees c.args.look.now c.at-told.new.self c.at-told.result) in (
      f,
      put.2,
      sight_ready asked k r.0 p v r.2 f reply point b n there c.at-told.ensures.point c.args.here.shared.catalogue.now catalogue sees c.at-told.ensures.sees,
      sights_ready asked k r.0 p v r.2 f reply point b n there c.at-told.ensures.point c.args.here.shared.catalogue.now catalogue sees c.at-told.ensures.sees c.in_ok-held.held.spot.place c.in_ok-held.ensures.place
          (subst (λ (z : Value). HasStepped r.0 (Put c.in_ok-held.held.spot.place z) f) same (stepped_by r.0 f (Put c.in_ok-held.held.spot.place put_value) refl refl put.3)),
    )
