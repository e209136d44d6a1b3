-- What a session was told that looked at its node's replica, as its user sees it; it is idle still.
use Rattle.std.proofs.Common.{◌≡◌, ℕ, ◌+◌, ◌≤◌, [], Option, Some, None, refl, ap, subst, sym, ◌∙◌}
use Rattle.std.specs.Prelude.{Result, Ok, Err, IfErr, IfOk}
use Rattle.loader.specs.CatalogueView.{CatalogueView}
use Rattle.loader.specs.StoreState.{StoreState}
use Rattle.combiner.specs.Desks.{BatchView}
use Rattle.ownlock.specs.Seats.{IsSession}
use Rattle.replica.specs.Views.{RepliesView}
use Rattle.store_steps.specs.declared.deeds.Stage.{Stage}
use Rattle.store_steps.specs.declared.steps.Caller.{Caller}
use Rattle.store_steps.specs.declared.steps.Shared.{Shared}
use Rattle.store_steps.specs.Sights.{HasSeen, HasSight, Heard, SightBy, SightTells}
use Rattle.accounts.specs.Moves.{IsAtRest}
use Rattle.accounts.specs.ReadNotes.{looked_with}
use Rattle.accounts.specs.declared.sessions.SessionNote.{SessionNote}
use Rattle.oplog.specs.Operations.{Operation}
use Rattle.store_steps.specs.Knowing.{IsOn, Knows, Learns}
use Rattle.store_steps.specs.Measuring.{HasMeasured}
use Rattle.store_steps.specs.Trying.{IsStill}
use Rattle.store_steps.specs.declared.measuring.Stats.{Stats}
use Rattle.store_steps.specs.Stages.{IsPolled}
use Rattle.store_steps.specs.Standing.{IsFree, SessionKnown, StoreSeat}
use Rattle.store_steps.specs.Views.{IsIdle, SessionView, known_of, session_view}
use Rattle.store_steps.specs.Whole.{LooksBy}
use Rattle.store_steps.proofs.Export.{both, goes_seen, on_known}
use Rattle.loader.specs.Installed.{InstalledView}
use Rattle.store.specs.Sessions.{HasRoom, IsFresh, IsOf, SessionGoesOn, StoreView, HasNodes}
use Rattle.store.proofs.Gone.{gone_did}
use Rattle.store.proofs.Between.{Rests, StaysIdle, goes_on, idle_at, idle_stage, on_at, room_on, stays_idle, stays_with}

module _ (h : Heard) (old new : StoreSeat) (k m : SessionKnown) (is : IsSession old k) (now : IsSession new m) (was : SessionView) (seen : session_view old ≡ was) (none : k.held ≡ []) where
  pub sight_seen : (P : CatalogueView → StoreState → Type 0) (point : ℕ) → HasSight h P point k m → SightBy P point k m
      → IsFresh was (session_view new) point × SightTells P (session_view new).progress was.progress.completed point × SightBy P point (known_of was) (known_of (session_view new))
  sight_seen P point r by = (
    subst (λ (z : SessionView). IsFresh z (session_view new) point) seen (both old new k m is now (λ x y. IsFresh x y point) (r.0.begun, r.0.more, r.0.read, r.0.reached)),
    subst (λ (z : SessionView). SightTells P (session_view new).progress z.progress.completed point) seen (both old new k m is now (λ x y. SightTells P y.progress x.progress.completed point) r.1),
    goes_seen (SightBy P point) old new was k m is none seen now r.0.held by,
  )

-- what is known of the room that a look was lent holds of it at its end
pub lent_to : {A : Type 0} (P : A → Type 0) (x y : A) → x ≡ y → P x → P y
lent_to P x y e h = subst P e h

pub lent_both : {A : Type 0} (P : A → A → Type 0) (x y z w : A) → x ≡ y → z ≡ w → P x z → P y w
lent_both P x y z w e f h = subst (P y) f (subst (λ a. P a z) e h)

pub idle_seen : (h : Heard) (old new : StoreSeat) (caller : Caller) (i : IsIdle old caller) (m : SessionKnown)
    → IsSession new m → (point : ℕ) → HasSeen h i.known m point → LooksBy i.known m point → StaysIdle old new caller
idle_seen h old new caller i m is point r by =
    stays_with old new caller i m is (looked_with h.asked point h.reply) (rests h.asked) r.session r.held r.note r.extends r.well_formed (gone_did by.did)
  where
    rests : (asked : Option Operation) (n : SessionNote) → n.begun ≡ None → Rests n (looked_with asked point h.reply n)
    rests None n unread = (refl, unread, refl, refl)
    rests (Some op) n unread = (refl, refl, refl, refl)

-- and what it notes
pub noted_seen : (h : Heard) (old new : StoreSeat) (caller : Caller) (i : IsIdle old caller) (m : SessionKnown)
    → IsSession new m → (point : ℕ) → HasSeen h i.known m point → (was : SessionView) → session_view old ≡ was
    → (session_view new).note ≡ looked_with h.asked point h.reply was.note
noted_seen h old new caller i m is point r was seen =
    both old new i.known m i.is is (λ x y. y.note ≡ looked_with h.asked point h.reply x.note) r.note ∙ ap (λ (z : SessionView). looked_with h.asked point h.reply z.note) seen

-- a session that kept its note has it still
pub kept_note : (old new : StoreSeat) (k m : SessionKnown) → IsSession old k → IsSession new m → m.note ≡ k.note
    → (was : SessionView) → session_view old ≡ was → (session_view new).note ≡ was.note
kept_note old new k m is now same was seen = both old new k m is now (λ x y. y.note ≡ x.note) same ∙ ap (λ (z : SessionView). z.note) seen

-- so is one that has measured
pub idle_measured : (old new : StoreSeat) (caller : Caller) (i : IsIdle old caller) (m : SessionKnown)
    → IsSession new m → (stats : Stats) → HasMeasured stats i.known m → StaysIdle old new caller
idle_measured old new caller i m is stats h = stays_idle old new caller i m is h.session h.held h.note h.extends h.well_formed (gone_did h.by.did)

-- and one that found a place held
pub idle_still : (old new : StoreSeat) (caller : Caller) (i : IsIdle old caller) (m : SessionKnown) → IsSession new m
    → IsStill i.known m → StaysIdle old new caller
idle_still old new caller i m is s = stays_idle old new caller i m is s.session s.held s.note s.extends (s.well_formed i.well_formed) (gone_did s.did)

-- its user sees it go on
pub idle_goes_on : (store : StoreView) (old new : StoreSeat) (caller : Caller) (was : SessionView)
    → session_view old ≡ was → IsOf store was → new.shelf ≡ old.shelf → StaysIdle old new caller
    → SessionGoesOn store was (session_view new)
idle_goes_on store old new caller was seen own shelf idle = goes_on store (session_view old) was (session_view new) seen own shelf idle.session idle.extends idle.well_formed idle.gone

-- so is one that has tried to measure
pub idle_tried : (old new : StoreSeat) (caller : Caller) (i : IsIdle old caller) (r : Result Stats ℕ)
    → IfErr r (λ _. Learns old new IsStill) → IfOk r (λ stats. Learns old new (HasMeasured stats))
    → StaysIdle old new caller
idle_tried old new caller i (Ok stats) still measured = let t = measured i.known i.is in idle_measured old new caller i t.0 t.1 stats t.2
idle_tried old new caller i (Err place) still measured = let t = still i.known i.is in idle_still old new caller i t.0 t.1 t.2

-- ---- a session whose calls wait for nobody, and of which no update is out

-- the session has looked, and is idle still
pub record HasLooked (store : StoreView) (was : SessionView) (new : StoreSeat) (caller : Caller) (b : BatchView) (kept : RepliesView) (stage : Stage) (room : InstalledView) : Type 0 where
  pub session : SessionGoesOn store was (session_view new)
  pub polled : IsPolled new caller b kept stage × HasRoom room new

module _ (s : StoreSeat) (caller : Caller) (b : BatchView) (kept : RepliesView) (stage : Stage) (v : IsPolled s caller b kept stage) (was : SessionView) (seen : session_view s ≡ was) (none : was.note.pending ≡ None) where
  pub idle_now : IsIdle s caller
  idle_now = idle_at s caller b kept stage v (ap (λ (z : SessionView). z.note.pending) seen ∙ none)

  pub may_look : (shared : Shared) (store : StoreView) → IsOf store was
      → shared.shelf.now.places ≡ 1 + store.config.nodes + store.config.nodes
      → HasNodes shared store
      → shared.catalogue.now ≡ store.catalogue → Knows s (λ k. IsFree caller k × IsOn shared k × IsAtRest k.note)
  may_look shared store own places nodes same =
      let i = idle_now in
      let on = on_at s caller b kept shared store stage v (subst (λ z. IsOf store z) (sym seen) own) places nodes same in
      (i.known, i.is, (i.free, on_known shared s i.known i.is on, (i.pending, i.unread)))

  pub has_looked : (store : StoreView) (new : StoreSeat) (room : InstalledView) → IsOf store was → new.shelf ≡ s.shelf
      → HasRoom room s → StaysIdle s new caller → HasLooked store was new caller b kept stage room
  has_looked store new room own same has idle = record {
    session = idle_goes_on store s new caller was seen own same idle;
    polled =
        let at = idle_stage s caller b kept stage v (ap (λ (z : SessionView). z.note.pending) seen ∙ none) in
        (subst (IsPolled new caller b kept) (sym at) idle.idle, room_on s new room idle.extends has);
  }
