use Rattle.store.proofs.Looked.{idle_goes_on, idle_measured}
use Rattle.store.proofs.session.Session.stats.Goals as goal

pub returns-clause-session : goal.returns-clause-session
returns-clause-session g c =
    let s = c.self.inside in
    let i = c.self.invariant.0 in
    let t = c.measure.ensures.told i.known i.is in
    idle_goes_on c.args.store.now s.seat c.measure.new.seat s.caller c.args.self.now c.self.view_is c.requires.own c.measure.ensures.same (idle_measured s.seat c.measure.new.seat s.caller i t.0 t.1 c.measure.result t.2)
