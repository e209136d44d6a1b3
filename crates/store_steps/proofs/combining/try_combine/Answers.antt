use Rattle.ownlock.specs.Seats.{run_of}
use Rattle.ownlock.proofs.Export.{adds_on, one_known, stepped_by}
use Rattle.std.proofs.Common.{◌+◌, [], ◌∷◌, Some, sym, refl, ap, ◌∙◌, subst}
use Rattle.accounts.specs.declared.sessions.SessionNote.{SessionNote}
use Rattle.store_steps.specs.Combining.{HasClaimed}
use Rattle.store_steps.specs.Lending.{with_replica}
use Rattle.store_steps.specs.Due.{brought, placed_of}
use Rattle.store_steps.specs.Standing.{Agrees, IsFree}
use Rattle.store_steps.proofs.Stretches.{answers_by}
use Rattle.store_steps.proofs.Combined.{from_k, ready, session_is}
use Rattle.store_steps.proofs.Finished.{back, holds_on, may_put_replica, put_back}
use Rattle.store_steps.proofs.Taken.{took_replica}
use Rattle.store_steps.proofs.Tried.{low_enough, still_back, still_self}
use Rattle.store_steps.proofs.combining.try_combine.Goals as goal

pub take_replica-requires-clause-idle : goal.take_replica-requires-clause-idle
take_replica-requires-clause-idle g c = let i = c.requires.claimed in (i.0, i.1, (i.2.0, i.2.2))

pub replica_mut-node-requires : goal.replica_mut-node-requires
replica_mut-node-requires g c =
    let i = c.requires.claimed in
    let t = c.in-Some.ensures.taken i.0 i.1 in
    record { replica = (took_replica i.0 t.0 c.args.here.caller c.in-Some.held.value i.2.0 t.1).holds.replica }

pub try_append_and_copy-requires-clause-holds : goal.try_append_and_copy-requires-clause-holds
try_append_and_copy-requires-clause-holds g c =
    let i = c.requires.claimed in
    let w = c.in-Some.held.value in
    let t = c.in-Some.ensures.taken i.0 i.1 in
    let b = took_replica i.0 t.0 c.args.here.caller w i.2.0 t.1 in (
      t.0,
      t.2,
      (
        record { value = w; holds = b.holds; agrees = b.agrees c.replica_mut-node.result.now c.replica_mut-node.ensures.replica; stands = b.stands; catalogue = sym b.extends.catalogue ∙ i.2.2.catalogue_is },
        ap (λ (n : SessionNote). n.batch) b.note ∙ i.2.1.noted,
      ),
    )

pub replay_and_raise-requires-clause-known : goal.replay_and_raise-requires-clause-known
replay_and_raise-requires-clause-known g c =
    let i = c.requires.claimed in
    let t = c.in-Some.ensures.taken i.0 i.1 in
    let b = took_replica i.0 t.0 c.args.here.caller c.in-Some.held.value i.2.0 t.1 in
    let a = c.in-Some-try_append_and_copy.ensures.appended t.0 t.2 in
    let catalogue = sym a.2.goes.extends.catalogue ∙ (sym b.extends.catalogue ∙ i.2.2.catalogue_is) in
    (a.0, a.1, record { others = a.2.rest; stands = a.2.stands; catalogue = catalogue; placed = a.2.count; last = a.2.last })

pub put_by-requires-2-clause-may : goal.put_by-requires-2-clause-may
put_by-requires-2-clause-may g c =
    let i = c.requires.claimed in
    let w = c.in-Some.held.value in
    let t = c.in-Some.ensures.taken i.0 i.1 in
    let b = took_replica i.0 t.0 c.args.here.caller w i.2.0 t.1 in
    let a = c.in-Some-try_append_and_copy.ensures.appended t.0 t.2 in
    let h = holds_on t.0 a.0 w a.2.goes b.holds in
    let r = c.replay_and_raise.ensures.replayed a.0 a.1 in
    let held = r.2.goes.held ∙ (a.2.goes.held ∙ (b.held ∙ ap (λ z. (z, w) ∷ []) (sym c.in-Some.ensures.place))) in
    (r.0, r.1, may_put_replica r.0 w (holds_on a.0 r.0 w r.2.goes h) c.replay_and_raise.new.seat.sessions r.1 c.replay_and_raise.new.node r.2.agrees r.2.within _ held)

pub returns-clause-combined : goal.returns-clause-combined
returns-clause-combined g c k is =
    let i = c.requires.claimed in
    let w = c.in-Some.held.value in
    let y = g.C.Claimed.batch c.args.requests.now in
    let rs = y.records in
    let e = one_known c.args.seat.now i.0 k i.1 is in
    let free = subst (λ z. IsFree c.args.here.caller z) e i.2.0 in
    let claimed = subst (λ z. HasClaimed z y) e i.2.1 in
    let t = c.in-Some.ensures.taken k is in
    let b = took_replica k t.0 c.args.here.caller w free t.1 in
    let a = c.in-Some-try_append_and_copy.ensures.appended t.0 t.2 in
    let old = g.C.Claimed.kept c.try_append_and_copy.new.replies in
    let v = brought c.args.here.shared.catalogue.now c.in-Some-try_append_and_copy.owed (placed_of rs old) c.try_append_and_copy.new.node in
    let done = a.2 in
    let h = holds_on t.0 a.0 w a.2.goes b.holds in
    let r = c.replay_and_raise.ensures.replayed a.0 a.1 in
    let held = r.2.goes.held ∙ (a.2.goes.held ∙ (b.held ∙ ap (λ z. (z, w) ∷ []) (sym c.in-Some.ensures.place))) in
    let n = c.replica_mut-node.result.now in
    let m = c.replay_and_raise.new.node in
    let new = g.C.Claimed.kept c.replay_and_raise.new.kept in
    let p = c.put_by-2.ensures.put r.0 r.1 in
    let f = back r.0 w (holds_on a.0 r.0 w r.2.goes h) c.replay_and_raise.new.seat.sessions r.1 m r.2.agrees r.2.within c.in-Some.held.spot.place held p.0 p.1.0 p.1.1 _ (adds_on r.0 _ _ _ _ p.3) in
    let q = put_back c.replay_and_raise.new.seat.sessions (with_replica w m) r.0 c.in-Some.held.spot.place p.0 (run_of c.put_by-2.new.seat.sessions) in
    let first = a.3 y refl in
    let then = r.3 first.back first.back_is in (
      q,
      p.2,
      record {
        session = session_is t.0 a.0 r.0 rs old v m new done r.2 _ f y refl claimed.some claimed.ascend k (1 + c.args.here.caller.node) w b;
        held = f.held;
        note = ap (λ (n : SessionNote). record n { batch = [] }) (f.note ∙ (r.2.note ∙ done.note)) ∙ ap (λ (n : SessionNote). record n { batch = [] }) b.note;
        extends = from_k t.0 a.0 r.0 rs old v m new done r.2 _ f y refl claimed.some claimed.ascend k (1 + c.args.here.caller.node) w b;
        ready = ready t.0 a.0 r.0 rs old v m new done r.2 _ f y refl claimed.some claimed.ascend;
        stands = f.stands;
      },
      answers_by c.args.here.caller.node k t.0 a.0 r.0 q (c.args.here.caller.slot, free.within, free.own, free.near) y n v m old new b.extends (b.agrees n c.replica_mut-node.ensures.replica) b.stands first then a.2.goes.extends r.2.goes.extends r.2.agrees f.extends f.stands r.2.within w c.replica_mut-node.ensures.replica b.steps
          c.in-Some.held.spot.place c.in-Some.ensures.place (stepped_by r.0 _ _ refl refl p.3),
    )

-- ---- the replica is held

pub returns-in_default-clause-stays : goal.returns-in_default-clause-stays
returns-in_default-clause-stays g c k is =
    let i = c.requires.claimed in
    let free = subst (λ z. IsFree c.args.here.caller z) (one_known c.args.seat.now i.0 k i.1 is) i.2.0 in
    (k, ap (λ z. z.sessions) c.in_default.ensures.taken ∙ is, still_self k free.held)

-- ---- the log is held

pub put_by-requires-clause-may : goal.put_by-requires-clause-may
put_by-requires-clause-may g c =
    let i = c.requires.claimed in
    let w = c.in-Some.held.value in
    let n = c.try_append_and_copy.new.node in
    let t = c.in-Some.ensures.taken i.0 i.1 in
    let b = took_replica i.0 t.0 c.args.here.caller w i.2.0 t.1 in
    let e = c.in_default-try_append_and_copy.ensures.stays in
    let is = ap (λ z. z.sessions) e.0 ∙ t.2 in
    let held = b.held ∙ ap (λ z. (z, w) ∷ []) (sym c.in-Some.ensures.place) in
    let agrees = subst (Agrees t.0.progress) (sym e.1) (b.agrees c.replica_mut-node.result.now c.replica_mut-node.ensures.replica) in
    (t.0, is, may_put_replica t.0 w b.holds c.try_append_and_copy.new.seat.sessions is n agrees (low_enough t.0 n agrees b.stands) _ held)

pub returns-in_default-try_append_and_copy-clause-stays : goal.returns-in_default-try_append_and_copy-clause-stays
returns-in_default-try_append_and_copy-clause-stays g c k is0 =
    let i = c.requires.claimed in
    let w = c.in-Some.held.value in
    let n = c.try_append_and_copy.new.node in
    let free = subst (λ z. IsFree c.args.here.caller z) (one_known c.args.seat.now i.0 k i.1 is0) i.2.0 in
    let t = c.in-Some.ensures.taken k is0 in
    let b = took_replica k t.0 c.args.here.caller w free t.1 in
    let e = c.in_default-try_append_and_copy.ensures.stays in
    let is = ap (λ z. z.sessions) e.0 ∙ t.2 in
    let held = b.held ∙ ap (λ z. (z, w) ∷ []) (sym c.in-Some.ensures.place) in
    let agrees = subst (Agrees t.0.progress) (sym e.1) (b.agrees c.replica_mut-node.result.now c.replica_mut-node.ensures.replica) in
    let p = c.put_by.ensures.put t.0 is in
    let f = back t.0 w b.holds c.try_append_and_copy.new.seat.sessions is n agrees (low_enough t.0 n agrees b.stands) c.in-Some.held.spot.place held p.0 p.1.0 p.1.1 _ (adds_on t.0 _ _ _ _ p.3) in
    (_, p.2, still_back (1 + c.args.here.caller.node) c.in-Some.held.spot.place k t.0 _ w n b f (c.replica_mut-node.ensures.replica ∙ ap Some (sym e.1)) c.in-Some.ensures.place (stepped_by t.0 _ _ refl refl p.3))
