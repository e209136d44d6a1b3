use Rattle.ownlock.specs.Seats.{IsSession}
use Rattle.std.proofs.Common.{rules, ◌≡◌, ◌+◌, refl, sym, subst}
use Rattle.ownlock.proofs.Export.{one_known}
use Rattle.ownlock.specs.Knowledge.{MayPut}
use Rattle.accounts.specs.Picks.{put_progress, put_note}
use Rattle.store_steps.specs.Knowing.{IsOn}
use Rattle.store_steps.specs.Shelving.{session_noting, store_rules, view_of}
use Rattle.store_steps.specs.Standing.{IsFree}
use Rattle.store_steps.proofs.Handing.{looked_put, not_looked, spot_of_desk}
use Rattle.store_steps.proofs.TakenDesk.{is_desk, may_put_same_desk, took_desk}
use Rattle.store_steps.proofs.passing.try_take_free.Goals as goal

pub take_desk-requires-clause-idle : goal.take_desk-requires-clause-idle
take_desk-requires-clause-idle c = let i = c.requires.idle in (i.0, i.1, (i.2, i.4))

pub desk-requires : goal.desk-requires
desk-requires c =
    let i = c.requires.idle in
    let t = c.in-Some.ensures.taken i.0 i.1 in
    let place = 1 + c.args.here.shared.nodes + c.args.here.caller.node in
    record { desk = is_desk c.args.here.caller i.0 t.0 place c.in-Some.held.value (took_desk i.0 t.0 c.args.here.caller place c.in-Some.held.value i.2 (spot_of_desk c.args.here i.0 i.4) t.1) }

pub put-requires-clause-may : goal.put-requires-clause-may
put-requires-clause-may c =
    let i = c.requires.idle in
    let t = c.in-Some.ensures.taken i.0 i.1 in
    let place = 1 + c.args.here.shared.nodes + c.args.here.caller.node in
    let v = c.in-Some.held.value in
    let all = c.take_desk.new.seat.sessions in
    let b = took_desk i.0 t.0 c.args.here.caller place v i.2 (spot_of_desk c.args.here i.0 i.4) t.1 in
    (t.0, t.2, subst (λ p. MayPut store_rules (put_progress all (view_of v)) (put_note session_noting all (view_of v)) t.0 p v) (sym c.in-Some.ensures.place) (may_put_same_desk c.args.here.caller i.0 t.0 place v b all t.2 v refl))

pub returns-in_default-clause-stays : goal.returns-in_default-clause-stays
returns-in_default-clause-stays c k is =
    let same : c.take_desk.new.seat ≡ c.args.seat.now = search rules in
    (k, subst (λ s. IsSession s k) (sym same) is, not_looked k)

pub returns-then-claimed-clause-stays : goal.returns-then-claimed-clause-stays
returns-then-claimed-clause-stays c k is =
    let i = c.requires.idle in
    let e = one_known c.args.seat.now i.0 k i.1 is in
    let free = subst (λ z. IsFree c.args.here.caller z) e i.2 in
    let spot = spot_of_desk c.args.here k (subst (λ z. IsOn c.args.here.shared z) e i.4) in
    let place = 1 + c.args.here.shared.nodes + c.args.here.caller.node in
    let v = c.in-Some.held.value in
    let t = c.in-Some.ensures.taken k is in
    let f = c.put.ensures.put t.0 t.2 in
    (_, f.2, looked_put c.args.here.caller k t.0 place v (took_desk k t.0 c.args.here.caller place v free spot t.1) free spot c.desk.result.now c.desk.ensures.desk c.take_desk.new.seat.sessions t.2 f.0 f.1.0 f.1.1 _ c.in-Some.held.spot.place c.in-Some.ensures.place f.3)
