use Rattle.ownlock.proofs.Export.{adds_on, stepped_by}
use Rattle.ownlock.specs.Seats.{having_read, run_of}
use Rattle.std.proofs.Common.{refl}
use Rattle.store_steps.specs.Knowing.{HasReplica}
use Rattle.store_steps.proofs.Measured.{has_found, held_log, may_put_same, same_put_back}
use Rattle.store_steps.proofs.Taken.{known_as, may_take_log, took_log}
use Rattle.store_steps.proofs.measuring.try_find.Goals as goal

pub try_take-requires-clause-may : goal.try_take-requires-clause-may
try_take-requires-clause-may c =
    let i = c.requires.holds in
    (i.0, i.1, may_take_log i.0 i.2.value i.2.holds)

pub log-requires : goal.log-requires
log-requires c =
    let i = c.requires.holds in
    let t = c.in-Some.ensures.taken i.0 i.1 in
    record { log = (took_log i.0 t.0 c.args.node.now c.in-Some.held.value i.0.progress.catalogue i.2 t.1).some }

pub put-requires-clause-may : goal.put-requires-clause-may
put-requires-clause-may c =
    let i = c.requires.holds in
    let x = c.in-Some.held.value in
    let t = c.in-Some.ensures.taken i.0 i.1 in
    let b = took_log i.0 t.0 c.args.node.now x i.0.progress.catalogue i.2 t.1 in
    let d = c.done-completed.ensures.read t.0 t.2 in
    let m = having_read t.0 d.0 t.0.note c.done-completed.result (run_of c.done-completed.new.seat.sessions) in
    (m, d.3, may_put_same m c.in-Some.held.spot.place x i.0.held (held_log i.0 t.0 c.args.node.now x b d.0 d.1.0 d.1.1 c.done-completed.result _ d.4 c.in-Some.held.spot.place c.in-Some.ensures.place) c.done-completed.new.seat.sessions d.3)

pub returns-clause-found : goal.returns-clause-found
returns-clause-found c k is =
    let n = c.args.node.now in
    let x = c.in-Some.held.value in
    let q = c.in-Some.held.spot.place in
    let at = c.in-Some.ensures.place in
    let has = known_as c.args.seat.now (λ z. HasReplica z n z.progress.catalogue) c.requires.holds k is in
    let t = c.in-Some.ensures.taken k is in
    let b = took_log k t.0 n x k.progress.catalogue has t.1 in
    let d = c.done-completed.ensures.read t.0 t.2 in
    let done = c.done-completed.result in
    let on = d.4 in
    let m = having_read t.0 d.0 t.0.note done (run_of c.done-completed.new.seat.sessions) in
    let held = held_log k t.0 n x b d.0 d.1.0 d.1.1 done _ on q at in
    let p = c.put.ensures.put m d.3 in
    let on' = adds_on m _ _ _ _ p.3 in (
      _,
      p.2,
      has_found k t.0 n x b d.0 d.1.0 d.1.1 done _ on q at c.log.result.now c.log.ensures.log c.stats_of-stats.result c.stats_of-stats.ensures d.2 _
          (same_put_back m q x k.held held c.done-completed.new.seat.sessions d.3 p.0 p.1.0 p.1.1 _ on') (stepped_by m _ _ refl refl p.3),
    )
