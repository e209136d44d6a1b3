use Rattle.ownlock.proofs.Export.{adds_on, one_known, stepped_by}
use Rattle.std.proofs.Common.{refl, subst, ap, [], ◌∙◌}
use Rattle.store_steps.specs.Standing.{IsFree}
use Rattle.store_steps.proofs.Measured.{has_measured, has_node, held_node, held_still, may_put_same, same_put_back, still_put}
use Rattle.store_steps.proofs.Taken.{may_take_replica, took_replica}
use Rattle.store_steps.proofs.Tried.{still_self}
use Rattle.store_steps.proofs.measuring.try_measure.Goals as goal

pub try_take-requires-clause-may : goal.try_take-requires-clause-may
try_take-requires-clause-may c =
    let i = c.requires.idle in
    (i.0, i.1, may_take_replica i.0 c.args.here.caller i.2.0)

pub returns-in_default-clause-stays : goal.returns-in_default-clause-stays
returns-in_default-clause-stays c k is =
    let i = c.requires.idle in
    let free = subst (λ z. IsFree c.args.here.caller z) (one_known c.args.seat.now i.0 k i.1 is) i.2.0 in
    (k, ap (λ z. z.sessions) c.in_default.ensures.taken ∙ is, still_self k free.held)

pub replica-requires : goal.replica-requires
replica-requires c =
    let i = c.requires.idle in
    let t = c.in-Some.ensures.taken i.0 i.1 in
    record { replica = (took_replica i.0 t.0 c.args.here.caller c.in-Some.held.value i.2.0 t.1).holds.replica }

pub try_find-requires-clause-holds : goal.try_find-requires-clause-holds
try_find-requires-clause-holds c =
    let i = c.requires.idle in
    let w = c.in-Some.held.value in
    let t = c.in-Some.ensures.taken i.0 i.1 in
    let b = took_replica i.0 t.0 c.args.here.caller w i.2.0 t.1 in
    (t.0, t.2, has_node i.0 t.0 c.args.here.caller w i.2.0 b c.replica.result.now c.replica.ensures.replica c.in-Some.held.spot.place c.in-Some.ensures.place)

-- ---- another session holds the log

pub put-requires-clause-may : goal.put-requires-clause-may
put-requires-clause-may c =
    let i = c.requires.idle in
    let w = c.in-Some.held.value in
    let t = c.in-Some.ensures.taken i.0 i.1 in
    let b = took_replica i.0 t.0 c.args.here.caller w i.2.0 t.1 in
    let there = ap (λ z. z.sessions) c.in_default-try_find.ensures.stays ∙ t.2 in
    let held = held_node i.0 t.0 c.args.here.caller w i.2.0 b c.replica.result.now c.replica.ensures.replica c.in-Some.held.spot.place c.in-Some.ensures.place in
    (t.0, there, may_put_same t.0 c.in-Some.held.spot.place w [] held c.try_find.new.seat.sessions there)

pub returns-in_default-try_find-clause-stays : goal.returns-in_default-try_find-clause-stays
returns-in_default-try_find-clause-stays c k is =
    let i = c.requires.idle in
    let w = c.in-Some.held.value in
    let q = c.in-Some.held.spot.place in
    let n = c.replica.result.now in
    let free = subst (λ z. IsFree c.args.here.caller z) (one_known c.args.seat.now i.0 k i.1 is) i.2.0 in
    let t = c.in-Some.ensures.taken k is in
    let b = took_replica k t.0 c.args.here.caller w free t.1 in
    let there = ap (λ z. z.sessions) c.in_default-try_find.ensures.stays ∙ t.2 in
    let held = held_node k t.0 c.args.here.caller w free b n c.replica.ensures.replica q c.in-Some.ensures.place in
    let p = c.put.ensures.put t.0 there in
    let on = adds_on t.0 _ _ _ _ p.3 in
    (_, p.2, still_put k t.0 c.args.here.caller w free b n c.replica.ensures.replica q c.in-Some.ensures.place _ (same_put_back t.0 q w [] held c.try_find.new.seat.sessions there p.0 p.1.0 p.1.1 _ on) (stepped_by t.0 _ _ refl refl p.3))

-- ---- the log was found

pub put-requires-2-clause-may : goal.put-requires-2-clause-may
put-requires-2-clause-may c =
    let i = c.requires.idle in
    let w = c.in-Some.held.value in
    let t = c.in-Some.ensures.taken i.0 i.1 in
    let b = took_replica i.0 t.0 c.args.here.caller w i.2.0 t.1 in
    let f = c.in-Some-try_find.ensures.found t.0 t.2 in
    let held = held_still i.0 t.0 c.args.here.caller w i.2.0 b c.replica.result.now c.replica.ensures.replica c.in-Some.held.spot.place c.in-Some.ensures.place c.in-Some-try_find.stats f.0 f.2 in
    (f.0, f.1, may_put_same f.0 c.in-Some.held.spot.place w [] held c.try_find.new.seat.sessions f.1)

pub returns-clause-told : goal.returns-clause-told
returns-clause-told c k is =
    let i = c.requires.idle in
    let w = c.in-Some.held.value in
    let q = c.in-Some.held.spot.place in
    let n = c.replica.result.now in
    let stats = c.in-Some-try_find.stats in
    let free = subst (λ z. IsFree c.args.here.caller z) (one_known c.args.seat.now i.0 k i.1 is) i.2.0 in
    let t = c.in-Some.ensures.taken k is in
    let b = took_replica k t.0 c.args.here.caller w free t.1 in
    let f = c.in-Some-try_find.ensures.found t.0 t.2 in
    let held = held_still k t.0 c.args.here.caller w free b n c.replica.ensures.replica q c.in-Some.ensures.place stats f.0 f.2 in
    let p = c.put-2.ensures.put f.0 f.1 in
    let on = adds_on f.0 _ _ _ _ p.3 in
    (_, p.2, has_measured k t.0 c.args.here.caller w free b n c.replica.ensures.replica q c.in-Some.ensures.place stats f.0 f.2 _ (same_put_back f.0 q w [] held c.try_find.new.seat.sessions f.1 p.0 p.1.0 p.1.1 _ on) (stepped_by f.0 _ _ refl refl p.3))
