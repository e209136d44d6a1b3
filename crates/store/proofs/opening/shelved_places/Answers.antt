use Rattle.store.proofs.Filled.{shelved, places_agree}
use Rattle.store.proofs.opening.shelved_places.Goals as goal

pub returns-clause-values : goal.returns-clause-values
returns-clause-values c =
    shelved c.args.config.now c.args.catalogue.now c.in_ok-values.values.items c.push.new.self.items c.push_replicas.new.values.items c.push_desks.new.values.items c.in_ok-log.log c.in_ok-values.ensures.items
    c.in_ok-push.ensures.items c.in_ok-log.ensures.log c.in_ok-push_replicas.ensures.count c.in_ok-push_replicas.ensures.kept c.in_ok-push_replicas.ensures.replicas c.in_ok-push_desks.ensures.count c.in_ok-push_desks.ensures.kept c.in_ok-push_desks.ensures.desks

pub returns-clause-agree : goal.returns-clause-agree
returns-clause-agree c =
    places_agree c.args.config.now c.args.catalogue.now c.push_desks.new.values.items c.requires.whole
    (shelved c.args.config.now c.args.catalogue.now c.in_ok-values.values.items c.push.new.self.items c.push_replicas.new.values.items c.push_desks.new.values.items c.in_ok-log.log c.in_ok-values.ensures.items
    c.in_ok-push.ensures.items c.in_ok-log.ensures.log c.in_ok-push_replicas.ensures.count c.in_ok-push_replicas.ensures.kept c.in_ok-push_replicas.ensures.replicas c.in_ok-push_desks.ensures.count c.in_ok-push_desks.ensures.kept c.in_ok-push_desks.ensures.desks)
