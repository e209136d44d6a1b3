use Rattle.std.proofs.Common.{ap, subst, sym, ◌∙◌}
use Rattle.accounts.specs.ReadNotes.{looked_with}
use Rattle.store_steps.specs.Seen.{holds}
use Rattle.store_steps.specs.Sights.{heard_by}
use Rattle.store.specs.Sessions.{IsOf}
use Rattle.store.proofs.Between.{on_store, room_on}
use Rattle.store.proofs.Looked.{idle_goes_on, idle_seen, noted_seen, sight_seen}
use Rattle.store.proofs.session.Session.see.Goals as goal

pub look_waiting-requires-clause-idle : goal.look_waiting-requires-clause-idle
look_waiting-requires-clause-idle g c =
    let s = c.self.inside in
    let i = c.self.invariant.0 in
    let e = c.shared.ensures in
    let on = on_store s.seat i.known i.is c.shared.result c.args.store.now (subst (IsOf c.args.store.now) (sym c.self.view_is) c.requires.own) e.places e.nodes e.catalogue in
    (i.known, i.is, (i.free, on, (i.pending, i.unread)))

pub returns-clause-session : goal.returns-clause-session
returns-clause-session g c =
    let s = c.self.inside in
    let i = c.self.invariant.0 in
    let t = c.look_waiting.ensures.told i.known i.is in
    let h = heard_by g.L.Look.asks c.args.look.now (g.L.Look.replies c.look_waiting.result) in
    idle_goes_on c.args.store.now s.seat c.look_waiting.new.seat s.caller c.args.self.now c.self.view_is c.requires.own c.look_waiting.ensures.same (idle_seen h s.seat c.look_waiting.new.seat s.caller i t.0 t.1 _ t.2.0 t.3.0)

pub invariant_of-self-2 : goal.invariant_of-self-2
invariant_of-self-2 g c =
    let s = c.self.inside in
    let i = c.self.invariant.0 in
    let t = c.look_waiting.ensures.told i.known i.is in
    let h = heard_by g.L.Look.asks c.args.look.now (g.L.Look.replies c.look_waiting.result) in
    let stays = idle_seen h s.seat c.look_waiting.new.seat s.caller i t.0 t.1 _ t.2.0 t.3.0 in
    (stays.idle, room_on s.seat c.look_waiting.new.seat s.room stays.extends c.self.invariant.1)

pub returns-clause-note : goal.returns-clause-note
returns-clause-note g c =
    let s = c.self.inside in
    let i = c.self.invariant.0 in
    let t = c.look_waiting.ensures.told i.known i.is in
    let h = heard_by g.L.Look.asks c.args.look.now (g.L.Look.replies c.look_waiting.result) in
    noted_seen h s.seat c.look_waiting.new.seat s.caller i t.0 t.1 (g.L.Look.point c.look_waiting.result) t.2.0 c.args.self.now c.self.view_is

pub returns-clause-quiet : goal.returns-clause-quiet
returns-clause-quiet g c none =
    let s = c.self.inside in
    let i = c.self.invariant.0 in
    let t = c.look_waiting.ensures.told i.known i.is in
    let h = heard_by g.L.Look.asks c.args.look.now (g.L.Look.replies c.look_waiting.result) in
    noted_seen h s.seat c.look_waiting.new.seat s.caller i t.0 t.1 (g.L.Look.point c.look_waiting.result) t.2.0 c.args.self.now c.self.view_is
    ∙ ap (λ z. looked_with z (g.L.Look.point c.look_waiting.result) (g.L.Look.replies c.look_waiting.result) c.args.self.now.note) none

pub returns-clause-told : goal.returns-clause-told
returns-clause-told g c none =
    let i = c.self.invariant.0 in
    let t = c.look_waiting.ensures.told i.known i.is in
    let h = heard_by g.L.Look.asks c.args.look.now (g.L.Look.replies c.look_waiting.result) in
    sight_seen h c.self.inside.seat c.look_waiting.new.seat i.known t.0 i.is t.1 c.args.self.now c.self.view_is i.free.held (holds (g.L.Look.sees c.args.look.now c.look_waiting.new.look c.look_waiting.result)) (g.L.Look.point c.look_waiting.result) t.2 t.3
