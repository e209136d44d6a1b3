use Rattle.std.proofs.Common.{sym, ap, subst, ◌∙◌}
use Rattle.std.proofs.lemmas.Option.{same_Some}
use Rattle.store_steps.specs.Stages.{HasDone, IsPolled}
use Rattle.store_steps.specs.Views.{SessionView, known_of, session_view}
use Rattle.store.specs.Sessions.{IsOf}
use Rattle.store.proofs.Gone.{done_goes, one_goes}
use Rattle.store.proofs.Between.{goes_on, on_at, out_at, room_on}
use Rattle.store_steps.specs.Polling.{DeedsGo}
use Rattle.store_steps.proofs.Export.{go_deeds}
use Rattle.store.proofs.polled.Polled.deed.Goals as goal

-- ---- the answers are handed over, and are had in the same hold

pub give_and_turn-requires-clause-on : goal.give_and_turn-requires-clause-on
give_and_turn-requires-clause-on c =
    let s = c.self.inside in
    let own = subst (λ z. IsOf c.args.store.now z) (sym c.self.view_is) c.requires.own in
    let shared = c.shared-shared in
    on_at s.seat s.caller s.batch s.replies shared.result c.args.store.now s.stage c.self.invariant.0 own shared.ensures.places shared.ensures.nodes shared.ensures.catalogue

pub invariant_of-self : goal.invariant_of-self
invariant_of-self c =
    let h = c.give_and_turn.ensures.gone in
    (h.polled, room_on c.self.inside.seat c.give_and_turn.new.seat c.self.inside.room h.extends c.self.invariant.1)

pub give_and_turn-requires-clause-polled : goal.give_and_turn-requires-clause-polled
give_and_turn-requires-clause-polled c =
    let s = c.self.inside in
    subst (IsPolled s.seat s.caller s.batch s.replies) c.in-Ready.is c.self.invariant.0

pub returns-in-Ready-clause-session : goal.returns-in-Ready-clause-session
returns-in-Ready-clause-session c =
    let h = c.give_and_turn.ensures.gone in
    goes_on c.args.store.now (session_view c.self.inside.seat) c.args.self.now (session_view c.give_and_turn.new.seat) c.self.view_is c.requires.own c.give_and_turn.ensures.same h.session h.extends h.well_formed (done_goes _ _ _ h.goes)

pub returns-in-Ready-clause-done : goal.returns-in-Ready-clause-done
returns-in-Ready-clause-done c o is =
    let h = c.give_and_turn.ensures.gone in
    let new = session_view c.give_and_turn.new.seat in
    let e = same_Some h.request o (sym h.waited ∙ (ap (λ (z : SessionView). z.note.pending) c.self.view_is ∙ is)) in
    subst (λ z. HasDone c.args.self.now new z c.give_and_turn.result) e (subst (λ (z : SessionView). HasDone z new h.request c.give_and_turn.result) c.self.view_is h.done)

pub returns-in-Ready-clause-goes : goal.returns-in-Ready-clause-goes
returns-in-Ready-clause-goes c =
    subst (λ (z : SessionView). DeedsGo (known_of z) (known_of (session_view c.give_and_turn.new.seat)) c.give_and_turn.result) c.self.view_is c.give_and_turn.ensures.gone.goes

-- ---- any other deed

pub go_on-requires-clause-on : goal.go_on-requires-clause-on
go_on-requires-clause-on c =
    let s = c.self.inside in
    let own = subst (λ z. IsOf c.args.store.now z) (sym c.self.view_is) c.requires.own in
    let shared = c.shared-shared in
    on_at s.seat s.caller s.batch s.replies shared.result c.args.store.now s.stage c.self.invariant.0 own shared.ensures.places shared.ensures.nodes shared.ensures.catalogue

pub go_on-requires-clause-out : goal.go_on-requires-clause-out
go_on-requires-clause-out c =
    let s = c.self.inside in
    out_at s.seat s.caller s.batch s.replies s.stage c.self.invariant.0 c.requires.asked.0 (ap (λ (z : SessionView). z.note.pending) c.self.view_is ∙ c.requires.asked.1)

pub invariant_of-self-2 : goal.invariant_of-self-2
invariant_of-self-2 c =
    let h = c.go_on.ensures.gone in
    (h.polled, room_on c.self.inside.seat c.go_on.new.seat c.self.inside.room h.extends c.self.invariant.1)

pub go_on-requires-clause-polled : goal.go_on-requires-clause-polled
go_on-requires-clause-polled c = c.self.invariant.0

pub returns-clause-session : goal.returns-clause-session
returns-clause-session c =
    let h = c.go_on.ensures.gone in
    goes_on c.args.store.now (session_view c.self.inside.seat) c.args.self.now (session_view c.go_on.new.seat) c.self.view_is c.requires.own c.go_on.ensures.same h.session h.extends h.well_formed (one_goes _ _ _ h.goes)

pub returns-clause-done : goal.returns-clause-done
returns-clause-done c o is =
    let h = c.go_on.ensures.gone in
    let new = session_view c.go_on.new.seat in
    let e = same_Some h.request o (sym h.waited ∙ (ap (λ (z : SessionView). z.note.pending) c.self.view_is ∙ is)) in
    subst (λ z. HasDone c.args.self.now new z c.go_on.result) e (subst (λ (z : SessionView). HasDone z new h.request c.go_on.result) c.self.view_is h.done)

pub returns-clause-goes : goal.returns-clause-goes
returns-clause-goes c =
    let new = known_of (session_view c.go_on.new.seat) in
    subst (λ (z : SessionView). DeedsGo (known_of z) new c.go_on.result) c.self.view_is (go_deeds (known_of (session_view c.self.inside.seat)) new c.go_on.result c.go_on.ensures.gone.goes)
