-- A session's update, from its post to its answer.
use Rattle.std.proofs.Common.{◌≡◌, ℕ, suc, ◌<◌, ◌≤◌, ◌^◌, [], ◌∷◌, length, length-append, sym, refl, ap, ◌∙◌, subst, arith, None}
use Rattle.ownlock.specs.Seats.{IsSession, SeatView, ShelfId}
use Rattle.loader.specs.CatalogueView.{CatalogueView}
use Rattle.combiner.specs.declared.slots.Reply.{Reply}
use Rattle.combiner.specs.declared.slots.Reply.TheVariants.{Placed, Ended}
use Rattle.oplog.specs.declared.configuration.Sizes.{Sizes}
use Rattle.oplog.specs.Limits.{AreSizes}
use Rattle.oplog.specs.Operations.{Operation}
use Rattle.replica.specs.StoreMeaning.{store_meaning}
use Rattle.accounts.specs.declared.sessions.Progress.{Progress}
use Rattle.accounts.specs.declared.sessions.SessionNote.{SessionNote}
use Rattle.accounts.specs.Accounts.{Extends, IsWellFormed}
use Rattle.accounts.specs.Moves.{IsAtRest, answered_with, called_with, posted_with}
use Rattle.accounts.specs.Told.{Tells}
use Rattle.accounts.proofs.Export.{grown_long, whole_note}
use Rattle.store_steps.specs.declared.steps.Caller.{Caller}
use Rattle.store_steps.specs.declared.values.Value.{Value}
use Rattle.store_steps.specs.AtOnce.{IsAlone}
use Rattle.store_steps.specs.AtDesk.{HasAsked}
use Rattle.store_steps.specs.Requests.{HasCompleted, HasPosted}
use Rattle.store.specs.Sessions.{said, IsOf, SessionGoesOn, StoreView, TellsUpdate}
use Rattle.store_steps.specs.Views.{IsIdle, SessionView, known_of, request_of}
use Rattle.store_steps.specs.Standing.{IsFree, SessionKnown, Stands}
use Rattle.store_laws.specs.Gone.{GoneOn}
use Rattle.store_steps.proofs.Export.{free_by, store_laws, well_formed, view_known}

abbrev K : Type 0
K = SessionKnown

abbrev S : Type 0
S = SeatView (Progress CatalogueView) SessionNote Value

-- what a session may ask, whose history has a limit
pub has_asked : (k a : K) (op : Operation) (config : Sizes) (p : HasPosted k a op) → k.progress.config ≡ config
    → AreSizes config → k.note.batch ≡ [] → length k.note.answered ≤ length k.progress.history
    → IsWellFormed store_meaning k.progress → HasAsked a p.request
has_asked k a op config p same limits alone within well = record {
  pending = ap (λ (n : SessionNote). n.pending) p.note;
  alone = ap (λ (n : SessionNote). n.batch) p.note ∙ alone;
  few = subst (λ (n : SessionNote). suc (length n.answered) < 2 ^ 64) (sym p.note) (let top = well.limit in let most = limits.limit.1 in let is = ap (λ (z : Sizes). z.limit) same in omega (arith, within, top, most, is));
}

-- who waits for nothing may ask
pub may_ask : (k : K) (config : Sizes) → k.progress.config ≡ config → AreSizes config → IsAtRest k.note
    → k.note.batch ≡ [] → length k.note.answered ≤ length k.progress.history → IsWellFormed store_meaning k.progress
    → IsAlone k
may_ask k config same limits free alone within well = record {
  rests = free;
  alone = alone;
  few = let top = well.limit in let most = limits.limit.1 in let is = ap (λ (z : Sizes). z.limit) same in omega (arith, within, top, most, is);
}

-- the whole call
pub record Invoked (k f : K) (op : Operation) (reply : Reply) : Type 0 where
  pub session : f.session ≡ k.session
  pub held : f.held ≡ []
  pub extends : Extends k.progress f.progress
  pub stands : Stands f
  pub note : f.note ≡ answered_with (called_with k.note op) op reply
  pub tells : Tells store_meaning f.progress k.session (length k.note.answered) (request_of k.progress op) reply

pub invoked : (k a f : K) (op : Operation) (reply : Reply) (p : HasPosted k a op) → HasCompleted a f p.request reply
    → Invoked k f op reply
invoked k a f op reply p c = record {
  session = c.back.session ∙ p.back.session;
  held = c.back.held;
  extends = store_laws.extends_on k.progress a.progress f.progress p.back.extends c.back.extends;
  stands = c.back.stands;
  note = c.note ∙ (λ i. answered_with (p.note i) (p.op_is i) reply) ∙ noted reply;
  tells = told reply (subst (λ (z : ℕ × SessionNote). Tells store_meaning f.progress z.0 (length z.1.answered) p.request reply) (λ i. (p.back.session i, p.note i)) c.tells);
}
  where
    noted : (reply : Reply)
        → answered_with (posted_with k.note p.request) op reply ≡ answered_with (called_with k.note op) op reply
    noted (Placed i x) = ap (λ z. answered_with (called_with k.note z) op (Placed i x)) p.op_is
    noted Ended = ap (λ z. answered_with (called_with k.note z) op Ended) p.op_is

    told : (reply : Reply) → Tells store_meaning f.progress k.session (length k.note.answered) p.request reply
        → Tells store_meaning f.progress k.session (length k.note.answered) (request_of k.progress op) reply
    told (Placed i x) t =
        let far = p.seen in let low = t.0 in
        subst (λ (z : Operation). Tells store_meaning f.progress k.session (length k.note.answered) (request_of k.progress z) (Placed i x)) p.op_is (omega (arith, far, low), t.1)
    told Ended t = t

-- ---- the session, once it has its answer

module _ (k f : K) (op : Operation) (reply : Reply) (v : Invoked k f op reply) where
  pub is_idle : (old new : S) (caller : Caller) → (i : IsIdle old caller) → i.known ≡ k → IsSession new f
      → IsIdle new caller
  is_idle old new caller i same is = record {
    known = f;
    is = is;
    free = free_by caller k f v.session v.held v.extends (subst (λ z. IsFree caller z) same i.free);
    pending = ap (λ (n : SessionNote). n.pending) v.note ∙ none_pending reply;
    unread = ap (λ (n : SessionNote). n.begun) v.note ∙ (same_begun reply ∙ (ap (λ (z : K). z.note.begun) (sym same) ∙ i.unread));
    batch = ap (λ (n : SessionNote). n.batch) v.note
        ∙ (same_batch reply ∙ (ap (λ (z : K). z.note.batch) (sym same) ∙ i.batch));
    well_formed = well_formed f.progress v.stands.notes v.stands.accounts;
    within = ap_length (fits reply v.tells);
  }
    where
      none_pending : (reply : Reply) → (answered_with (called_with k.note op) op reply).pending ≡ None
      none_pending (Placed i x) = refl
      none_pending Ended = refl

      same_begun : (reply : Reply) → (answered_with (called_with k.note op) op reply).begun ≡ k.note.begun
      same_begun (Placed i x) = refl
      same_begun Ended = refl

      same_batch : (reply : Reply) → (answered_with (called_with k.note op) op reply).batch ≡ k.note.batch
      same_batch (Placed i x) = refl
      same_batch Ended = refl

      low : length k.note.answered ≤ length k.progress.history
      low = subst (λ (z : K). length z.note.answered ≤ length z.progress.history) same i.within

      fits : (reply : Reply)
          → Tells store_meaning f.progress k.session (length k.note.answered) (request_of k.progress op) reply
          → length (answered_with (called_with k.note op) op reply).answered ≤ length f.progress.history
      fits (Placed i x) t = let more = length-append k.note.answered (record { index = i; op = op; reply = x } ∷ []) in let far = t.0 in let lt = t.1.0 in let top = v.stands.accounts.completed in let small = low in omega (arith, more, far, lt, top, small)
      fits Ended t = let long = grown_long store_meaning k.progress f.progress v.extends in let small = low in omega (arith, long, small)

      ap_length : length (answered_with (called_with k.note op) op reply).answered ≤ length f.progress.history
          → length f.note.answered ≤ length f.progress.history
      ap_length h = subst (λ (n : SessionNote). length n.answered ≤ length f.progress.history) (sym v.note) h

-- ---- as its user sees it

module _ (store : StoreView) (old new : SessionView) (id shelf : ShelfId) (k f : K) (op : Operation) (reply : Reply) (v : Invoked k f op reply) (was : old ≡ view_known id k) (now : new ≡ view_known shelf f) where
  -- what is said of the sessions as they are known holds of them as they are seen
  both : (P : SessionView → SessionView → Type 0) → P (view_known id k) (view_known shelf f) → P old new
  both P h = subst (λ (z : SessionView × SessionView). P z.0 z.1) (λ i. (sym was i, sym now i)) h

  still_of : IsOf store old → shelf ≡ store.id → IsOf store new
  still_of own same = record {
    shelf = ap (λ (z : SessionView). z.shelf) now ∙ same;
    config = ap (λ (z : SessionView). z.progress.config) now
        ∙ (sym v.extends.config ∙ (ap (λ (z : SessionView). z.progress.config) (sym was) ∙ own.config));
    catalogue = ap (λ (z : SessionView). z.progress.catalogue) now
        ∙ (sym v.extends.catalogue ∙ (ap (λ (z : SessionView). z.progress.catalogue) (sym was) ∙ own.catalogue));
  }

  same_session : new.session ≡ old.session
  same_session = both (λ a b. b.session ≡ a.session) v.session

  pub has_grown : Extends old.progress new.progress
  has_grown = both (λ a b. Extends a.progress b.progress) v.extends

  stays_well : IsWellFormed store_meaning new.progress
  stays_well = both (λ a b. IsWellFormed store_meaning b.progress) (well_formed f.progress v.stands.notes v.stands.accounts)

  pub goes_on : IsOf store old → shelf ≡ old.shelf → GoneOn (known_of old) (known_of new) → SessionGoesOn store old new
  goes_on own same gone = record {
    own = still_of own (same ∙ own.shelf);
    same = (ap (λ (z : SessionView). z.shelf) now ∙ same, same_session);
    grown = has_grown;
    well_formed = stays_well;
    gone = gone;
  }

  pub tells_update : k.note.pending ≡ None → k.note.batch ≡ [] → TellsUpdate old new op (said reply)
  tells_update free alone = both (λ a b. TellsUpdate a b op (said reply)) (by reply v.tells v.note)
    where
      with_batch : (reply : Reply)
          → answered_with (called_with k.note op) op reply ≡ answered_with (record (called_with k.note op) { batch = [] }) op reply
      with_batch reply = λ j. answered_with (record (called_with k.note op) { batch = alone j }) op reply

      by : (reply : Reply)
          → Tells store_meaning f.progress k.session (length k.note.answered) (request_of k.progress op) reply
          → f.note ≡ answered_with (called_with k.note op) op reply
          → TellsUpdate (view_known id k) (view_known shelf f) op (said reply)
      by (Placed i x) t note = (t, note ∙ (with_batch (Placed i x) ∙ whole_note k.note op (Placed i x)))
      by Ended t note = (refl, t, note ∙ (with_batch Ended ∙ whole_note k.note op Ended))
