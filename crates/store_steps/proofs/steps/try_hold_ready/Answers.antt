use Rattle.ownlock.proofs.Export.{adds_on, stepped_by}
use Rattle.std.proofs.Common.{◌<◌, sym, ap, refl, subst, ◌+◌, ◌∙◌, [], ◌∷◌, arith}
use Rattle.store_steps.specs.Doing.{AReplica}
use Rattle.store_steps.specs.Standing.{Agrees, IsFree}
use Rattle.store_steps.specs.Knowing.{IsOn}
use Rattle.store_steps.specs.Ready.{MayBegin}
use Rattle.store_steps.proofs.Taken.{known_as, took_replica}
use Rattle.store_steps.proofs.Finished.{may_put_replica, back}
use Rattle.store_steps.proofs.Doing.{with_replica_part}
use Rattle.store_steps.proofs.Loaded.{agrees_l, did_l, extends_k, followed_l, has_l, holds_l, loaded, may_l, may_load, may_still, note_l, read_l, ready_l, stands_l, tail_there, told}
use Rattle.store_steps.proofs.Tried.{low_enough, still_read, still_self}
use Rattle.store_steps.proofs.steps.try_hold_ready.Goals as goal

pub take_replica-requires-clause-idle : goal.take_replica-requires-clause-idle
take_replica-requires-clause-idle g c = let i = c.requires.idle in (i.0, i.1, (i.2.0, i.2.1))

pub replica_mut-node-requires : goal.replica_mut-node-requires
replica_mut-node-requires g c =
    let i = c.requires.idle in
    let t = c.in-Some.ensures.taken i.0 i.1 in
    let b = took_replica i.0 t.0 c.args.here.caller c.in-Some.held.value i.2.0 t.1 in
    record { replica = b.holds.replica }

pub done-done-requires-clause-may : goal.done-done-requires-clause-may
done-done-requires-clause-may g c =
    let i = c.requires.idle in
    let t = c.in-Some.ensures.taken i.0 i.1 in
    let b = took_replica i.0 t.0 c.args.here.caller c.in-Some.held.value i.2.0 t.1 in
    (t.0, t.2, may_load g.A.Asked.read (tail_there c.take_replica.new.seat.sessions) t.0 (may_still g.A.Asked.read i.0 t.0 b.note b.extends i.2.2))

pub returns-then-ready-clause-ready : goal.returns-then-ready-clause-ready
returns-then-ready-clause-ready g c k is =
    let knows = known_as c.args.seat.now (λ z. IsFree c.args.here.caller z × IsOn c.args.here.shared z × MayBegin g.A.Asked.read z) c.requires.idle k is in
    let h = loaded g.A.Asked.read c.args.here.caller k c.in-Some.held.value c.replica_mut-node.result.now c.done-done.result c.take_replica.new.seat c.done-done.new.seat knows.0 knows.2 c.replica_mut-node.ensures.replica (c.in-Some.ensures.taken k is) c.done-done.ensures.read in
    (_, h.is, ready_l h (c.ready.ensures.reached.0 c.if-ready.true) _ refl)

pub try_follow_log-requires-clause-holds : goal.try_follow_log-requires-clause-holds
try_follow_log-requires-clause-holds g c =
    let i = c.requires.idle in
    let h = loaded g.A.Asked.read c.args.here.caller i.0 c.in-Some.held.value c.replica_mut-node.result.now c.done-done.result c.take_replica.new.seat c.done-done.new.seat i.2.0 i.2.2 c.replica_mut-node.ensures.replica (c.in-Some.ensures.taken i.0 i.1) c.done-done.ensures.read in
    let far = c.ready.ensures.reached.1 in let not_ready = c.if-ready.false in
    let low : c.replica_mut-node.result.now.replica.tail < c.done-done.result = grind (arith, far, not_ready) in
    (_, h.is, (has_l h low c.args.here.shared.catalogue.now i.2.1.catalogue_is, may_l h low))

pub returns-clause-ready : goal.returns-clause-ready
returns-clause-ready g c k is =
    let knows = known_as c.args.seat.now (λ z. IsFree c.args.here.caller z × IsOn c.args.here.shared z × MayBegin g.A.Asked.read z) c.requires.idle k is in
    let h = loaded g.A.Asked.read c.args.here.caller k c.in-Some.held.value c.replica_mut-node.result.now c.done-done.result c.take_replica.new.seat c.done-done.new.seat knows.0 knows.2 c.replica_mut-node.ensures.replica (c.in-Some.ensures.taken k is) c.done-done.ensures.read in
    let far = c.ready.ensures.reached.1 in let not_ready = c.if-ready.false in
    let low : c.replica_mut-node.result.now.replica.tail < c.done-done.result = grind (arith, far, not_ready) in
    let r = c.in-Some-try_follow_log.ensures.reached _ h.is in
    (r.0, r.1, followed_l h low r.0 c.try_follow_log.new.node r.2.0 r.2.1 r.3 _ refl)

-- ---- the replica is held

pub returns-in_default-clause-stays : goal.returns-in_default-clause-stays
returns-in_default-clause-stays g c k is =
    let knows = known_as c.args.seat.now (λ z. IsFree c.args.here.caller z × IsOn c.args.here.shared z × MayBegin g.A.Asked.read z) c.requires.idle k is in
    (k, ap (λ z. z.sessions) c.in_default.ensures.taken ∙ is, still_self k knows.0.held)

-- ---- the log is held

pub put-requires-clause-may : goal.put-requires-clause-may
put-requires-clause-may g c =
    let i = c.requires.idle in
    let h = loaded g.A.Asked.read c.args.here.caller i.0 c.in-Some.held.value c.replica_mut-node.result.now c.done-done.result c.take_replica.new.seat c.done-done.new.seat i.2.0 i.2.2 c.replica_mut-node.ensures.replica (c.in-Some.ensures.taken i.0 i.1) c.done-done.ensures.read in
    let e = c.in_default-try_follow_log.ensures.stays in
    let is = ap (λ z. z.sessions) e.0 ∙ h.is in
    let held = h.took.held ∙ ap (λ z. (z, c.in-Some.held.value) ∷ []) (sym c.in-Some.ensures.place) in
    let agrees = subst (Agrees h.l) (sym e.1) (agrees_l h) in
    let low = low_enough (told h) c.try_follow_log.new.node agrees (stands_l h) in
    (told h, is, may_put_replica (told h) c.in-Some.held.value (holds_l h) c.try_follow_log.new.seat.sessions is c.try_follow_log.new.node agrees low _ held)

pub returns-in_default-try_follow_log-clause-stays : goal.returns-in_default-try_follow_log-clause-stays
returns-in_default-try_follow_log-clause-stays g c k is =
    let knows = known_as c.args.seat.now (λ z. IsFree c.args.here.caller z × IsOn c.args.here.shared z × MayBegin g.A.Asked.read z) c.requires.idle k is in
    let h = loaded g.A.Asked.read c.args.here.caller k c.in-Some.held.value c.replica_mut-node.result.now c.done-done.result c.take_replica.new.seat c.done-done.new.seat knows.0 knows.2 c.replica_mut-node.ensures.replica (c.in-Some.ensures.taken k is) c.done-done.ensures.read in
    let far = c.ready.ensures.reached.1 in let not_ready = c.if-ready.false in
    let low : c.replica_mut-node.result.now.replica.tail < c.done-done.result = grind (arith, far, not_ready) in
    let e = c.in_default-try_follow_log.ensures.stays in
    let w = c.in-Some.held.value in
    let n = c.replica_mut-node.result.now in
    let m = c.try_follow_log.new.node in
    let a = told h in
    let at = ap (λ z. z.sessions) e.0 ∙ h.is in
    let held = h.took.held ∙ ap (λ z. (z, w) ∷ []) (sym c.in-Some.ensures.place) in
    let agrees = subst (Agrees h.l) (sym e.1) (agrees_l h) in
    let p = c.put.ensures.put a at in
    let f = back a w (holds_l h) c.try_follow_log.new.seat.sessions at m agrees (low_enough a m agrees (stands_l h)) c.in-Some.held.spot.place held p.0 p.1.0 p.1.1 _ (adds_on a _ _ _ _ p.3) in (
      _,
      p.2,
      still_read (1 + c.args.here.caller.node) c.in-Some.held.spot.place k a _ n c.done-done.result _ h.took.session (note_l h low) (extends_k h) (let same = h.done_is in omega (arith, same)) (read_l h) (did_l h) f
          c.in-Some.ensures.place (with_replica_part w n m h.some ∙ ap AReplica e.1) (stepped_by a _ _ refl refl p.3),
    )
