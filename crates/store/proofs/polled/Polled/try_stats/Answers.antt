use Rattle.store.proofs.Looked.{idle_goes_on, idle_now, idle_tried}
use Rattle.store.proofs.polled.Polled.try_stats.Goals as goal

pub returns-clause-session : goal.returns-clause-session
returns-clause-session c =
    let s = c.self.inside in
    let i = idle_now s.seat s.caller s.batch s.replies s.stage c.self.invariant.0 c.args.self.now c.self.view_is c.requires.idle in
    let new = c.try_measure.new.seat in
    idle_goes_on c.args.store.now s.seat new s.caller c.args.self.now c.self.view_is c.requires.own c.try_measure.ensures.same
    (idle_tried s.seat new s.caller i c.try_measure.result c.try_measure.ensures.stays c.try_measure.ensures.told)
