use Rattle.std.proofs.Common.{Ok, Some, refl, sym, ap, subst, ◌∙◌}
use Rattle.replica.specs.StoreMeaning.{store_meaning}
use Rattle.accounts.specs.Accounts.{IsWellFormed}
use Rattle.store_steps.specs.Stages.{IsPolled}
use Rattle.store.specs.Polled.{HasPostedFor}
use Rattle.store_steps.specs.Views.{SessionView, session_view}
use Rattle.store.specs.Sessions.{HasRoom, IsOf}
use Rattle.store_steps.proofs.Export.{goes_seen, on_known}
use Rattle.store_laws.specs.Gone.{GoneOn}
use Rattle.store.proofs.Gone.{gone_did}
use Rattle.store.proofs.Linear.{adds_post, adds_still}
use Rattle.store.proofs.Between.{goes_on, goes_still, idle_at, on_at, post_grown, post_session, post_told, post_well, posted_at, room_on, well_at}
use Rattle.store_steps.specs.Updating.{PostsBy}
use Rattle.store.proofs.polled.Polled.post.Goals as goal

pub try_post-requires-clause-idle : goal.try_post-requires-clause-idle
try_post-requires-clause-idle c =
    let s = c.self.inside in
    let none = ap (λ (z : SessionView). z.note.pending) c.self.view_is ∙ c.requires.idle in
    let i = idle_at s.seat s.caller s.batch s.replies s.stage c.self.invariant.0 none in
    let own = subst (λ z. IsOf c.args.store.now z) (sym c.self.view_is) c.requires.own in
    let shared = c.shared-shared in
    let on = on_at s.seat s.caller s.batch s.replies shared.result c.args.store.now s.stage c.self.invariant.0 own shared.ensures.places shared.ensures.nodes shared.ensures.catalogue in
    (i.known, i.is, i.free, (i.pending, i.unread), on_known shared.result s.seat i.known i.is on)

pub invariant_of-self : goal.invariant_of-self
invariant_of-self c =
    let s = c.self.inside in
    subst (λ z. IsPolled z s.caller s.batch s.replies s.stage × HasRoom s.room z) (sym c.in_default.ensures.stays) c.self.invariant

pub invariant_of-self-2 : goal.invariant_of-self-2
invariant_of-self-2 c =
    let s = c.self.inside in
    let new = c.try_post.new.seat in
    let none = ap (λ (z : SessionView). z.note.pending) c.self.view_is ∙ c.requires.idle in
    let i = idle_at s.seat s.caller s.batch s.replies s.stage c.self.invariant.0 none in
    let own = subst (λ z. IsOf c.args.store.now z) (sym c.self.view_is) c.requires.own in
    let p = c.in-Some.ensures.posted i.known i.is in (
      posted_at s.seat new s.caller i p.0 c.args.op.now p.1 p.2 c.args.store.now.config own.config c.shared-shared.ensures.config,
      room_on s.seat new s.room (post_grown s.seat new s.caller i p.0 c.args.op.now p.1 p.2) c.self.invariant.1,
    )

-- ---- the desk is held

pub returns-in_default-clause-session : goal.returns-in_default-clause-session
returns-in_default-clause-session c =
    let s = c.self.inside in
    let well = subst (λ (z : SessionView). IsWellFormed store_meaning z.progress) c.self.view_is (well_at s.seat s.caller s.batch s.replies s.stage c.self.invariant.0) in
    goes_still c.args.store.now c.args.self.now (session_view c.try_post.new.seat) (ap session_view c.in_default.ensures.stays ∙ c.self.view_is) c.requires.own well

pub returns-in_default-clause-stays : goal.returns-in_default-clause-stays
returns-in_default-clause-stays c = ap session_view c.in_default.ensures.stays ∙ c.self.view_is

pub returns-in_default-clause-adds : goal.returns-in_default-clause-adds
returns-in_default-clause-adds c = adds_still c.args.self.now (session_view c.try_post.new.seat)
    (ap session_view c.in_default.ensures.stays ∙ c.self.view_is)

-- ---- it is posted

pub returns-clause-session : goal.returns-clause-session
returns-clause-session c =
    let s = c.self.inside in
    let new = c.try_post.new.seat in
    let none = ap (λ (z : SessionView). z.note.pending) c.self.view_is ∙ c.requires.idle in
    let i = idle_at s.seat s.caller s.batch s.replies s.stage c.self.invariant.0 none in
    let p = c.in-Some.ensures.posted i.known i.is in
    goes_on c.args.store.now (session_view s.seat) c.args.self.now (session_view new) c.self.view_is c.requires.own c.try_post.ensures.same (post_session s.seat new s.caller i p.0 c.args.op.now p.1 p.2)
    (post_grown s.seat new s.caller i p.0 c.args.op.now p.1 p.2) (post_well s.seat new s.caller i p.0 c.args.op.now p.1 p.2)
    (goes_seen GoneOn s.seat new (session_view s.seat) i.known p.0 i.is i.free.held refl p.1 p.2.back.held (gone_did p.3.at.did))

pub returns-clause-posted : goal.returns-clause-posted
returns-clause-posted c =
    let s = c.self.inside in
    let new = c.try_post.new.seat in
    let none = ap (λ (z : SessionView). z.note.pending) c.self.view_is ∙ c.requires.idle in
    let i = idle_at s.seat s.caller s.batch s.replies s.stage c.self.invariant.0 none in
    let p = c.in-Some.ensures.posted i.known i.is in
    subst (λ (z : SessionView). HasPostedFor z (session_view new) c.args.op.now) c.self.view_is (post_told s.seat new s.caller i p.0 c.args.op.now p.1 p.2)

pub returns-clause-goes : goal.returns-clause-goes
returns-clause-goes c =
    let s = c.self.inside in
    let none = ap (λ (z : SessionView). z.note.pending) c.self.view_is ∙ c.requires.idle in
    let i = idle_at s.seat s.caller s.batch s.replies s.stage c.self.invariant.0 none in
    let p = c.in-Some.ensures.posted i.known i.is in
    goes_seen (λ x y. PostsBy x y c.args.op.now) s.seat c.try_post.new.seat c.args.self.now i.known p.0 i.is i.free.held c.self.view_is p.1 p.2.back.held p.3

pub returns-clause-adds : goal.returns-clause-adds
unfolding returns-clause-session returns-clause-posted
returns-clause-adds c =
    adds_post c.args.store.now c.args.self.now (session_view c.try_post.new.seat) c.args.op.now
    (returns-clause-session c) (Ok (Some (tt {0}))) (returns-clause-posted c)
