use Rattle.ownlock.proofs.Export.{adds_on, stepped_by}
use Rattle.std.proofs.Common.{◌≡◌, ap, length, refl, take, sym, subst, ◌∙◌}
use Rattle.std.proofs.lemmas.List.{length-replicate}
use Rattle.accounts.specs.Moves.{unplaced}
use Rattle.store_steps.specs.Knowing.{HasReplica}
use Rattle.node.specs.Following.{copied, room_for}
use Rattle.store_steps.specs.Due.{SessionMakesRoom, brought, placed_of}
use Rattle.store_steps.specs.Rooms.{caught_up}
use Rattle.store_steps.proofs.Taken.{holds_log, known_as, may_take_log, took_log}
use Rattle.store_steps.proofs.Fitting.{appended_fit}
use Rattle.store_steps.proofs.Appended.{may, put_appended, back_appended, back_log}
use Rattle.store_steps.proofs.Exchanged.{as_copied}
use Rattle.store_steps.proofs.Stretches.{appends_by}
use Rattle.store_steps.proofs.steps.try_append_and_copy.Goals as goal

pub take_log-requires-clause-may : goal.take_log-requires-clause-may
take_log-requires-clause-may g c =
    let i = c.requires.holds in
    (i.0, i.1, may_take_log i.0 i.2.0.value i.2.0.holds)

pub log_mut-log-requires : goal.log_mut-log-requires
log_mut-log-requires g c =
    let i = c.requires.holds in let n = c.args.node.now in let x = c.in-Some.held.value in
    let t = c.in-Some.ensures.taken i.0 i.1 in
    let b = took_log i.0 t.0 n x c.args.reach.shared.catalogue.now i.2.0 t.1 in
    record { log = b.some }

pub make_room-owed-requires-clause-holds : goal.make_room-owed-requires-clause-holds
make_room-owed-requires-clause-holds g c =
    let i = c.requires.holds in let n = c.args.node.now in let x = c.in-Some.held.value in
    let t = c.in-Some.ensures.taken i.0 i.1 in
    let b = took_log i.0 t.0 n x c.args.reach.shared.catalogue.now i.2.0 t.1 in
    (t.0, t.2, record { holds = holds_log i.0 t.0 n x b; log = b.log c.log_mut-log.result.now c.log_mut-log.ensures.log; follows = b.follows; well = b.well; catalogue = sym b.extends.catalogue ∙ i.2.0.catalogue })

pub append-requires-clause-room : goal.append-requires-clause-room
append-requires-clause-room g c =
    let i = c.requires.holds in
    let t = c.in-Some.ensures.taken i.0 i.1 in
    let m = (subst
    (λ w. SessionMakesRoom w c.take_log.new.seat c.make_room-owed.new.seat c.log_mut-log.result.now
    c.make_room-owed.new.log c.args.node.now
    (caught_up c.args.reach.shared.catalogue.now c.make_room-owed.result c.make_room-owed.new.node))
    c.count-wanted.ensures.count c.make_room-owed.ensures.room) t.0 t.2 in
    m.2.room

pub append-requires-clause-fit : goal.append-requires-clause-fit
append-requires-clause-fit g c =
    let i = c.requires.holds in
    let t = c.in-Some.ensures.taken i.0 i.1 in
    let b = took_log i.0 t.0 c.args.node.now c.in-Some.held.value c.args.reach.shared.catalogue.now i.2.0 t.1 in
    let m = (subst
    (λ w. SessionMakesRoom w c.take_log.new.seat c.make_room-owed.new.seat c.log_mut-log.result.now
    c.make_room-owed.new.log c.args.node.now
    (caught_up c.args.reach.shared.catalogue.now c.make_room-owed.result c.make_room-owed.new.node))
    c.count-wanted.ensures.count c.make_room-owed.ensures.room) t.0 t.2 in
    appended_fit i.0 t.0 m.0 c.args.node.now c.log_mut-log.result.now c.make_room-owed.new.log _ c.in-Some.held.value
    (g.C.Claimed.batch c.args.requests.now).records i.2.0.stands i.2.1 b m.2

pub put_by-requires-clause-may : goal.put_by-requires-clause-may
put_by-requires-clause-may g c =
    let i = c.requires.holds in let n = c.args.node.now in let x = c.in-Some.held.value in
    let t = c.in-Some.ensures.taken i.0 i.1 in
    let b = took_log i.0 t.0 n x c.args.reach.shared.catalogue.now i.2.0 t.1 in
    let o = c.make_room-owed in
    let h = o.new.log in
    let v = caught_up c.args.reach.shared.catalogue.now o.result o.new.node in let a = c.append.ensures in
    let m = (subst
    (λ w. SessionMakesRoom w c.take_log.new.seat c.make_room-owed.new.seat c.log_mut-log.result.now
    c.make_room-owed.new.log c.args.node.now
    (caught_up c.args.reach.shared.catalogue.now c.make_room-owed.result c.make_room-owed.new.node))
    c.count-wanted.ensures.count c.make_room-owed.ensures.room) t.0 t.2 in (
      m.0,
      m.1,
      put_appended i.0 t.0 m.0 n c.log_mut-log.result.now h v (copied c.append.new.log v)
          (g.C.Claimed.batch c.args.requests.now).records (g.C.Claimed.kept c.append.new.replies) i.2.1
          o.new.seat.sessions m.1 x c.log_mut-log.ensures.log b m.2 c.append.new.log
          (a.log, refl, a.replies, a.within) _ c.in-Some.ensures.place,
    )

pub returns-clause-next : goal.returns-clause-next
returns-clause-next g c = (c.make_room-owed.ensures.owes.next, c.make_room-owed.ensures.owes.within)

pub returns-clause-appended : goal.returns-clause-appended
returns-clause-appended g c k is =
    let n = c.args.node.now in
    let x = c.in-Some.held.value in
    let f = c.log_mut-log.result.now in
    let cat = c.args.reach.shared.catalogue.now in let records = (g.C.Claimed.batch c.args.requests.now).records in
    let has = known_as c.args.seat.now (λ z. HasReplica z n cat × (z.note.batch ≡ unplaced records)) c.requires.holds k is in
    let t = c.in-Some.ensures.taken k is in let b = took_log k t.0 n x cat has.0 t.1 in
    let o = c.make_room-owed in
    let h = o.new.log in let v = caught_up cat o.result o.new.node in let a = c.append.ensures in
    let kept = g.C.Claimed.kept c.append.new.replies in
    let due = brought cat o.result (placed_of records kept) o.new.node in
    let count : length kept.outcomes ≡ room_for records h = ap (λ z. length z.outcomes) a.replies ∙ length-replicate (room_for records h) _ in
    let m = (subst
    (λ w. SessionMakesRoom w c.take_log.new.seat c.make_room-owed.new.seat c.log_mut-log.result.now
    c.make_room-owed.new.log c.args.node.now
    (caught_up c.args.reach.shared.catalogue.now c.make_room-owed.result c.make_room-owed.new.node))
    c.count-wanted.ensures.count c.make_room-owed.ensures.room) t.0 t.2 in
    let p = c.put_by.ensures.put m.0 m.1 in
    let there =
    as_copied cat h c.append.new.log o.new.node due o.result records _ o.ensures.owes a.log
    (ap (λ z. take z records) count) refl in
    let on = adds_on m.0 _ _ _ _ p.3 in
    let done =
    back_appended k t.0 m.0 n f h v due records kept has.1 o.new.seat.sessions m.1 x c.log_mut-log.ensures.log b
    m.2 c.append.new.log (a.log, there, a.replies, a.within) _ c.in-Some.ensures.place p.0 p.1.0 p.1.1 _ on in
    let back =
    back_log k t.0 m.0 n f h v due records kept has.1 o.new.seat.sessions m.1 x c.log_mut-log.ensures.log b m.2
    c.append.new.log (a.log, there, a.replies, a.within) _ c.in-Some.ensures.place p.0 p.1.0 p.1.1 _ on in (
      _,
      p.2,
      done,
      λ batch same. appends_by k t.0 m.0 _ f h c.append.new.log n v due records kept b.extends
          (b.log f c.log_mut-log.ensures.log) m.3 (may t.0 m.0 f h v records m.2) a.log there a.replies back.0
          back.1.completed done.stands x c.log_mut-log.ensures.log b.steps _ c.in-Some.ensures.place
          (stepped_by m.0 _ _ refl refl p.3) batch same,
    )
