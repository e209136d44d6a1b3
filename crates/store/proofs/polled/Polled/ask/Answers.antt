use Rattle.std.proofs.Common.{Ok, sym, ap, subst, ◌∙◌}
use Rattle.store_steps.specs.declared.polling.Came.{Came}
use Rattle.store_steps.specs.Polling.{HasCome}
use Rattle.store_steps.specs.Views.{SessionView, session_view}
use Rattle.store.specs.Sessions.{IsOf}
use Rattle.store.specs.Asking.{TellsTried, answer_by, tried_with}
use Rattle.store_steps.proofs.Export.{seen_as}
use Rattle.store.proofs.Asking.{asks_by, both, both_session, both_told}
use Rattle.store.proofs.Between.{goes_then, idle_at, on_at, room_on}
use Rattle.store.proofs.Invoked.{may_ask}
use Rattle.store.proofs.polled.Polled.ask.Goals as goal

-- ---- the session is idle

pub try_ask-requires-clause-on : goal.try_ask-requires-clause-on
try_ask-requires-clause-on c =
    let s = c.caller.inside in
    let store = c.args.store.now in
    let own = subst (λ z. IsOf store z) (sym c.caller.view_is) c.requires.own in
    let e = c.shared-shared.ensures in
    on_at s.seat s.caller s.batch s.replies c.shared-shared.result store s.stage c.caller.invariant.0 own e.places e.nodes
    e.catalogue

pub try_ask-requires-clause-idle : goal.try_ask-requires-clause-idle
try_ask-requires-clause-idle c =
    let s = c.caller.inside in
    let none = ap (λ (z : SessionView). z.note.pending) c.caller.view_is ∙ c.requires.idle in
    idle_at s.seat s.caller s.batch s.replies s.stage c.caller.invariant.0 none

pub try_ask-requires-clause-few : goal.try_ask-requires-clause-few
try_ask-requires-clause-few c =
    let s = c.caller.inside in
    let store = c.args.store.now in
    let none = ap (λ (z : SessionView). z.note.pending) c.caller.view_is ∙ c.requires.idle in
    let i = idle_at s.seat s.caller s.batch s.replies s.stage c.caller.invariant.0 none in
    let own = subst (λ z. IsOf store z) (sym c.caller.view_is) c.requires.own in
    let config = ap (λ (z : SessionView). z.progress.config) (sym (seen_as s.seat i.known i.is)) ∙ own.config in
    let may =
    may_ask i.known store.config config c.shared-shared.ensures.config (i.pending, i.unread) i.batch i.within
    i.well_formed in
    (i.known, i.is, may.few)

-- ---- it has gone on alone

pub invariant_of-stage-in-Some-Went : goal.invariant_of-stage-in-Some-Went
invariant_of-stage-in-Some-Went c =
    let s = c.caller.inside in
    let new = c.try_ask.new in
    let has = λ (z : Came). HasCome s.seat new.seat s.caller c.args.op.now new.batch new.replies z in
    let h = subst has c.in-Some-Went.field-0-is c.in-Some-Went.ensures.came in
    let room = room_on s.seat h.between s.room (h.begun new.replies).extends c.caller.invariant.1 in
    (h.gone.polled, room_on h.between new.seat s.room h.gone.extends room)

pub returns-in-Some-Went-clause-session : goal.returns-in-Some-Went-clause-session
returns-in-Some-Went-clause-session c =
    let s = c.caller.inside in
    let new = c.try_ask.new in
    let w = c.in-Some-Went in
    let op = c.args.op.now in
    let h = subst (λ (z : Came). HasCome s.seat new.seat s.caller op new.batch new.replies z) w.field-0-is w.ensures.came in
    let store = c.args.store.now in
    let was = c.args.self.now in
    both_session store was (session_view new.seat) op (answer_by w.deed)
    (both store s.seat new.seat s.caller was c.caller.view_is c.requires.own op new.batch new.replies w.at w.deed
    c.try_ask.ensures.same h)

pub returns-in-Some-Went-clause-told : goal.returns-in-Some-Went-clause-told
returns-in-Some-Went-clause-told c =
    let s = c.caller.inside in
    let store = c.args.store.now in
    let was = c.args.self.now in
    let new = c.try_ask.new in
    let op = c.args.op.now in
    let w = c.in-Some-Went in
    let h = subst (λ (z : Came). HasCome s.seat new.seat s.caller op new.batch new.replies z) w.field-0-is w.ensures.came in
    let told =
    both_told store was (session_view new.seat) op (answer_by w.deed)
    (both store s.seat new.seat s.caller was c.caller.view_is c.requires.own op new.batch new.replies w.at w.deed
    c.try_ask.ensures.same h) in
    subst (λ z. TellsTried store was (session_view new.seat) op (Ok z))
    (sym (c.tried_with.ensures.tried ∙ ap tried_with c.answer_by.ensures.answer)) told

-- ---- it has posted, and goes on

pub invariant_of-self : goal.invariant_of-self
invariant_of-self c =
    let s = c.caller.inside in
    let new = c.try_ask.new in
    let has = λ (z : Came). HasCome s.seat new.seat s.caller c.args.op.now new.batch new.replies z in
    let h = subst has c.in-Some-Posted.field-0-is c.in-Some-Posted.ensures.came in
    (h.0.polled, room_on s.seat new.seat s.room h.0.extends c.caller.invariant.1)

pub returns-clause-session : goal.returns-clause-session
returns-clause-session c =
    let s = c.caller.inside in
    let new = c.try_ask.new in
    let op = c.args.op.now in
    let p = c.in-Some-Posted in
    let h = subst (λ (z : Came). HasCome s.seat new.seat s.caller op new.batch new.replies z) p.field-0-is p.ensures.came in
    let asks =
    asks_by c.args.store.now s.seat new.seat s.caller c.args.self.now c.caller.view_is c.requires.own op new.batch
    new.replies p.at c.try_ask.ensures.same h.0 h.1 in
    goes_then c.args.store.now c.args.self.now (session_view new.seat) c.try_complete.new.self asks.session
    c.try_complete.ensures.session

pub returns-clause-told : goal.returns-clause-told
returns-clause-told c =
    let s = c.caller.inside in
    let new = c.try_ask.new in
    let op = c.args.op.now in
    let p = c.in-Some-Posted in
    let e = c.try_complete.ensures in
    let h = subst (λ (z : Came). HasCome s.seat new.seat s.caller op new.batch new.replies z) p.field-0-is p.ensures.came in
    let asks =
    asks_by c.args.store.now s.seat new.seat s.caller c.args.self.now c.caller.view_is c.requires.own op new.batch
    new.replies p.at c.try_ask.ensures.same h.0 h.1 in
    subst (λ z. TellsTried c.args.store.now c.args.self.now c.try_complete.new.self op (Ok z))
    (sym c.tried_with-2.ensures.tried)
    (both_told c.args.store.now c.args.self.now c.try_complete.new.self op c.try_complete.result (record {
      between = session_view new.seat;
      asks = asks;
      goes_on = record { session = e.session; completed = e.completed; goes = e.goes; adds = e.adds };
    }))
