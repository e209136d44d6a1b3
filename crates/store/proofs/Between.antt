-- A session between two calls that wait for nobody.
use Rattle.std.proofs.Common.{◌≡◌, ◌+◌, ◌≤◌, [], length, sym, refl, ap, ◌∙◌, subst, arith, Some, None}
use Rattle.std.proofs.lemmas.Option.{none-some}
use Rattle.ownlock.specs.Seats.{IsSession}
use Rattle.loader.specs.CatalogueView.{CatalogueView}
use Rattle.oplog.specs.Operations.{Operation}
use Rattle.oplog.specs.Limits.{AreSizes}
use Rattle.oplog.specs.declared.configuration.Sizes.{Sizes}
use Rattle.oplog.specs.declared.configuration.TheConstants.{MAX_NODES, MAX_NODE_SLOTS}
use Rattle.loader.specs.Installed.{InstalledView}
use Rattle.combiner.specs.Desks.{BatchView}
use Rattle.replica.specs.StoreMeaning.{store_meaning}
use Rattle.replica.specs.Views.{RepliesView}
use Rattle.accounts.specs.declared.sessions.Pending.{Pending}
use Rattle.accounts.specs.declared.sessions.SessionNote.{SessionNote}
use Rattle.accounts.specs.Accounts.{Extends, IsWellFormed}
use Rattle.accounts.proofs.Export.{grown_long}
use Rattle.store_steps.specs.declared.deeds.Stage.{Stage}
use Rattle.store_steps.specs.declared.deeds.Stage.TheVariants.{Idle, Asked, Claimed, Ready}
use Rattle.store_steps.specs.declared.steps.Caller.{Caller}
use Rattle.store_steps.specs.declared.steps.Shared.{Shared}
use Rattle.store_steps.specs.Knowing.{IsOn, Knows}
use Rattle.store_steps.specs.Requests.{HasPosted}
use Rattle.store_steps.specs.Stages.{IsAsked, IsAsking, IsOnItsWay, IsOut, IsPolled}
use Rattle.store.specs.Polled.{HasPostedFor}
use Rattle.store_steps.specs.Views.{IsIdle, SessionView, known_of, session_view}
use Rattle.store.specs.Sessions.{HasRoom, IsOf, SessionGoesOn, StoreView, HasNodes}
use Rattle.store_steps.specs.Standing.{SessionKnown, StoreSeat}
use Rattle.store_laws.specs.Gone.{GoneOn}
use Rattle.store_steps.proofs.Export.{asks, both, goes_seen, seen_as, free_by, store_laws, well_formed}
use Rattle.store.proofs.Gone.{gone_self, gone_then}
use Rattle.store.proofs.Invoked.{has_asked}

abbrev K : Type 0
K = SessionKnown

abbrev S : Type 0
S = StoreSeat

own_on : (store : StoreView) (old new : SessionView) → Extends old.progress new.progress → new.shelf ≡ old.shelf
    → IsOf store old → IsOf store new
own_on store old new grown same own = record { shelf = same ∙ own.shelf; config = sym grown.config ∙ own.config; catalogue = sym grown.catalogue ∙ own.catalogue }

-- a session that is as it was goes on
pub goes_still : (store : StoreView) (old new : SessionView) → new ≡ old → IsOf store old
    → IsWellFormed store_meaning old.progress → SessionGoesOn store old new
goes_still store old new same own well =
    subst (SessionGoesOn store old) (sym same) (record { own = own; same = (refl, refl); grown = store_laws.extends_self old.progress; well_formed = well; gone = gone_self (known_of old) })

-- so does one that has learned; its user saw it as `was`
pub goes_on : (store : StoreView) (old was new : SessionView) → old ≡ was → IsOf store was → new.shelf ≡ old.shelf
    → new.session ≡ old.session → Extends old.progress new.progress → IsWellFormed store_meaning new.progress
    → GoneOn (known_of old) (known_of new) → SessionGoesOn store was new
goes_on store old was new seen own shelf session grown well gone =
    subst (λ z. SessionGoesOn store z new) seen (record { own = own_on store old new grown shelf (subst (IsOf store) (sym seen) own); same = (shelf, session); grown = grown; well_formed = well; gone = gone })

-- after two calls, too
pub goes_then : (store : StoreView) (old mid new : SessionView) → SessionGoesOn store old mid
    → SessionGoesOn store mid new → SessionGoesOn store old new
goes_then store old mid new a b = record {
  own = b.own;
  same = (b.same.0 ∙ a.same.0, b.same.1 ∙ a.same.1);
  grown = store_laws.extends_on old.progress mid.progress new.progress a.grown b.grown;
  well_formed = b.well_formed;
  gone = gone_then (known_of old) (known_of mid) (known_of new) a.gone b.gone;
}

-- the shelf and the catalogue of a session's store are these
pub on_store : (s : S) (k : K) → IsSession s k → (shared : Shared) (store : StoreView) → IsOf store (session_view s)
    → shared.shelf.now.places ≡ 1 + store.config.nodes + store.config.nodes
    → HasNodes shared store → shared.catalogue.now ≡ store.catalogue
    → IsOn shared k
on_store s k is shared store own places nodes same =
    let seen = seen_as s k is in record {
      places_are = places ∙ ap (λ n. 1 + n + n) (sym nodes.0);
      few = subst (λ n. n ≤ MAX_NODES) (sym nodes.0) nodes.1;
      nodes_are = ap (λ (z : SessionView). z.progress.config.nodes) (sym seen) ∙ (ap (λ (z : Sizes). z.nodes) own.config ∙ sym nodes.0);
      slots_are = (
        ap (λ (z : SessionView). z.progress.config.slots) (sym seen)
            ∙ (ap (λ (z : Sizes). z.slots) own.config ∙ sym nodes.2),
        subst (λ n. n ≤ MAX_NODE_SLOTS) (sym nodes.2)
            nodes.3,
      );
      catalogue_is = ap (λ (z : SessionView). z.progress.catalogue) (sym seen) ∙ (own.catalogue ∙ sym same);
    }

-- ---- the stages

module _ (s : S) (caller : Caller) where
  asks_no : (k : K) (o : Pending) → IsAsking s caller k o → (session_view s).note.pending ≡ None → ⊥
  asks_no k o a none = none-some o (sym none ∙ asks s caller k o a)

  module _ (b : BatchView) (kept : RepliesView) where
    -- where nothing is out the session is idle
    pub idle_at : (stage : Stage) → IsPolled s caller b kept stage → (session_view s).note.pending ≡ None
        → IsIdle s caller
    idle_at Idle v none = v
    idle_at Asked v none = absurd (asks_no v.0 v.1 v.2 none)
    idle_at Claimed v none = absurd (asks_no v.0 v.1 v.2 none)
    idle_at Ready v none = absurd (asks_no v.0 v.1 v.2 none)

    pub idle_stage : (stage : Stage) → IsPolled s caller b kept stage → (session_view s).note.pending ≡ None
        → stage ≡ Idle
    idle_stage Idle v none = refl
    idle_stage Asked v none = absurd (asks_no v.0 v.1 v.2 none)
    idle_stage Claimed v none = absurd (asks_no v.0 v.1 v.2 none)
    idle_stage Ready v none = absurd (asks_no v.0 v.1 v.2 none)

    pub out_at : (stage : Stage) → IsPolled s caller b kept stage → (o : Pending)
        → (session_view s).note.pending ≡ Some o → IsOut stage
    out_at Idle v o is = absurd (none-some o (sym (ap (λ (z : SessionView). z.note.pending) (seen_as s v.known v.is) ∙ v.pending) ∙ is))
    out_at Asked v o is = tt
    out_at Claimed v o is = tt
    out_at Ready v o is = tt

    pub known_at : (stage : Stage) → IsPolled s caller b kept stage
        → (k : K) × IsSession s k × IsWellFormed store_meaning k.progress × (k.held ≡ [])
    known_at Idle v = (v.known, v.is, v.well_formed, v.free.held)
    known_at Asked v = (v.0, v.2.is, v.2.well_formed, v.2.free.held)
    known_at Claimed v = (v.0, v.2.is, v.2.well_formed, v.2.free.held)
    known_at Ready v = (v.0, v.2.is, v.2.well_formed, v.2.free.held)

    pub well_at : (stage : Stage) → IsPolled s caller b kept stage
        → IsWellFormed store_meaning (session_view s).progress
    well_at stage v = let k = known_at stage v in subst (λ (z : SessionView). IsWellFormed store_meaning z.progress) (sym (seen_as s k.0 k.1)) k.2

    pub on_at : (shared : Shared) (store : StoreView) (stage : Stage) → IsPolled s caller b kept stage
        → IsOf store (session_view s) → shared.shelf.now.places ≡ 1 + store.config.nodes + store.config.nodes
        → HasNodes shared store
        → shared.catalogue.now ≡ store.catalogue → Knows s (IsOn shared)
    on_at shared store stage v own places nodes same = let k = known_at stage v in (k.0, k.1, on_store s k.0 k.1 shared store own places nodes same)

pub room_on : (old new : S) (room : InstalledView) → Extends (session_view old).progress (session_view new).progress
    → HasRoom room old → HasRoom room new
room_on old new room grown h = (h.0 ∙ ap (λ (x : CatalogueView). x.shapes) grown.catalogue, h.1 ∙ ap (λ (x : CatalogueView). x.long) grown.catalogue, h.2)

-- ---- a post

module _ (old new : S) (caller : Caller) (i : IsIdle old caller) (m : K) (op : Operation) (is : IsSession new m) (p : HasPosted i.known m op) where
  pub posted_at : (config : Sizes) → (session_view old).progress.config ≡ config → AreSizes config → IsAsked new caller
  posted_at config same limits =
      let k = i.known in
      let has = has_asked k m op config p (ap (λ (z : SessionView). z.progress.config) (sym (seen_as old k i.is)) ∙ same) limits i.batch i.within i.well_formed in
      let long = grown_long store_meaning k.progress m.progress p.back.extends in
      let low = i.within in
      let seen = p.seen in (
        m,
        p.request,
        record {
          is = is;
          free = free_by caller k m p.back.session p.back.held p.back.extends i.free;
          pending = has.pending;
          unread = ap (λ (n : SessionNote). n.begun) p.note ∙ i.unread;
          few = has.few;
          well_formed = well_formed m.progress p.back.stands.notes p.back.stands.accounts;
          within = subst (λ (n : SessionNote). length n.answered ≤ length m.progress.history) (sym p.note) (omega (arith, long, low));
          before = subst (λ (n : SessionNote). length n.answered ≤ p.request.seen) (sym p.note) (omega (arith, seen, low));
        },
        has.alone,
      )

  pub post_session : (session_view new).session ≡ (session_view old).session
  post_session = both old new i.known m i.is is (λ x y. y.session ≡ x.session) p.back.session

  pub post_grown : Extends (session_view old).progress (session_view new).progress
  post_grown = both old new i.known m i.is is (λ x y. Extends x.progress y.progress) p.back.extends

  pub post_well : IsWellFormed store_meaning (session_view new).progress
  post_well = both old new i.known m i.is is (λ x y. IsWellFormed store_meaning y.progress) (well_formed m.progress p.back.stands.notes p.back.stands.accounts)

  pub post_told : HasPostedFor (session_view old) (session_view new) op
  post_told = both old new i.known m i.is is (λ x y. HasPostedFor x y op) (p.request, p.op_is, p.seen, p.note)

-- ---- a read

-- the second note waits for nothing more than the first, and has the batch and the answered updates of that
abbrev pub Rests : (n n' : SessionNote) → Type 0
Rests n n' = (n'.pending ≡ n.pending) × (n'.begun ≡ None) × (n'.batch ≡ n.batch) × (n'.answered ≡ n.answered)

-- the session is idle still
pub record StaysIdle (old new : S) (caller : Caller) : Type 0 where
  pub idle : IsIdle new caller
  pub session : (session_view new).session ≡ (session_view old).session
  pub extends : Extends (session_view old).progress (session_view new).progress
  pub well_formed : IsWellFormed store_meaning (session_view new).progress
  pub gone : GoneOn (known_of (session_view old)) (known_of (session_view new))

module _ (old new : S) (caller : Caller) (i : IsIdle old caller) (m : K) (is : IsSession new m) where
  -- with this note
  pub stays_with : (noted : SessionNote → SessionNote) → ((n : SessionNote) → n.begun ≡ None → Rests n (noted n))
      → m.session ≡ i.known.session → m.held ≡ [] → m.note ≡ noted i.known.note → Extends i.known.progress m.progress
      → IsWellFormed store_meaning m.progress → GoneOn i.known m → StaysIdle old new caller
  stays_with noted rests session held note extends well gone = let r = rests i.known.note i.unread in record {
    idle = record {
      known = m;
      is = is;
      free = free_by caller i.known m session held extends i.free;
      pending = ap (λ (n : SessionNote). n.pending) note ∙ (r.0 ∙ i.pending);
      unread = ap (λ (n : SessionNote). n.begun) note ∙ r.1;
      batch = ap (λ (n : SessionNote). n.batch) note ∙ (r.2 ∙ i.batch);
      well_formed = well;
      within = let long = grown_long store_meaning i.known.progress m.progress extends in let low = i.within in
          subst (λ us. length us ≤ length m.progress.history) (sym (ap (λ (n : SessionNote). n.answered) note ∙ r.3)) (omega (arith, long, low));
    };
    session = both old new i.known m i.is is (λ x y. y.session ≡ x.session) session;
    extends = both old new i.known m i.is is (λ x y. Extends x.progress y.progress) extends;
    well_formed = both old new i.known m i.is is (λ x y. IsWellFormed store_meaning y.progress) well;
    gone = goes_seen GoneOn old new (session_view old) i.known m i.is i.free.held refl is held gone;
  }

  pub stays_idle : m.session ≡ i.known.session → m.held ≡ [] → m.note ≡ i.known.note
      → Extends i.known.progress m.progress → IsWellFormed store_meaning m.progress → GoneOn i.known m
      → StaysIdle old new caller
  stays_idle session held note extends well gone = stays_with (λ n. n) (λ n unread. (refl, unread, refl, refl)) session held note extends well gone

-- ---- several deeds

pub way_then : (old mid new : SessionView) → IsOnItsWay old mid → IsOnItsWay mid new → IsOnItsWay old new
way_then old mid new a b = b ∙ a
