-- A session notes something, and makes events by that or none.
use Rattle.std.proofs.Common.{◌≡◌, ℕ, ◌≤◌, List, [], ◌∷◌, ◌++◌, length, map, drop, Option, Some, refl, sym, ap, ◌∙◌, subst, ⊎_elim, append-nil, append_assoc}
use Rattle.std.specs.Prelude.{slice_get, slice_set}
use Rattle.std.proofs.lemmas.List.{map-append}
use Rattle.std.proofs.lemmas.Option.{same_Some}
use Rattle.ownlock.specs.Seats.{At}
use Rattle.accounts.specs.declared.sessions.AnsweredUpdate.{AnsweredUpdate}
use Rattle.accounts.specs.declared.sessions.BegunRead.{BegunRead}
use Rattle.accounts.specs.declared.sessions.Pending.{Pending}
use Rattle.accounts.specs.declared.sessions.SessionEvent.{SessionEvent}
use Rattle.accounts.specs.declared.sessions.SessionNote.{SessionNote}
use Rattle.accounts.proofs.Export.{get_of}
use Rattle.schedule.specs.declared.parts.Opening.{Opening}
use Rattle.schedule.specs.Trace.{Trace, Positions, caller}
use Rattle.schedule.proofs.Export.{stamp_of, Fine, get_set, set_same}
use Rattle.store_laws.specs.RunEvents.{IsTold, event_of, own_trace}
use Rattle.store_laws.proofs.Stands.{CallStands, EventsStand, L}
use Rattle.store_laws.proofs.Events.{AreOthers, stands_event, stands_silent, told_more}

-- the events stand for this progress and these notes, with these positions of calls and perhaps more
abbrev pub Kept : Opening → Positions → L → List SessionNote → Trace → Type 0
Kept m positions l ns t = (more : Positions) × EventsStand m l ns (positions ++ more) t

pub no_more : (m : Opening) (positions : Positions) (l : L) (ns : List SessionNote) (t : Trace) → EventsStand m l ns positions t → Kept m positions l ns t
no_more m positions l ns t stands = ([], subst (λ z. EventsStand m l ns z t) (sym (append-nil positions)) stands)

pub further : (m : Opening) (positions more : Positions) (l : L) (ns : List SessionNote) (t : Trace) → Kept m (positions ++ more) l ns t → Kept m positions l ns t
further m positions more l ns t k = (more ++ k.0, subst (λ z. EventsStand m l ns z t) (append_assoc positions more k.0) k.1)

-- a step after which the session c notes n' adds these events to its own and to the trace
pub record Keeps (m : Opening) (positions : Positions) (t : Trace) (c : ℕ) (n n' : SessionNote) (l : L) (ns : List SessionNote) : Type 0 where
  pub events : Trace
  pub grows : own_trace c n' ≡ own_trace c n ++ events
  pub kept : Kept m positions l ns (t ++ events)

-- ---- what a put leaves

pub progress_is : (a b : L) → a.config ≡ b.config → a.catalogue ≡ b.catalogue → a.history ≡ b.history → a.completed ≡ b.completed → a ≡ b
progress_is a b config catalogue history completed = λ k. record { config = config k; catalogue = catalogue k; history = history k; completed = completed k }

pub drop_front : {A : Type 0} (xs ys : List A) → drop (length xs) (xs ++ ys) ≡ ys
drop_front [] ys = drop_none ys
  where
    drop_none : {A : Type 0} (zs : List A) → drop 0 zs ≡ zs
    drop_none [] = refl
    drop_none (z ∷ zs) = refl
drop_front (x ∷ xs) ys = drop_front xs ys

module _ (m : Opening) (l : L) (ns : List SessionNote) (positions : Positions) (t : Trace) (stands : EventsStand m l ns positions t) (c : ℕ) (n : SessionNote) (here : At c n ns) where
  -- the notes once the session c notes n' instead
  abbrev pub noting : SessionNote → List SessionNote
  noting n' = slice_set ns c n'

  others : (n' : SessionNote) → AreOthers ns (noting n') c
  others n' y k ne at = ⊎_elim (λ same. absurd (ne same.0)) (λ old. old.1) (get_set ns c n' y k at)

  pub own : CallStands m l.history positions t c (length n.answered) n.pending n.begun
  own = stands.calls c n (get_of ns c n here)

  -- what stands of it then
  this : (n' : SessionNote) (t' : Trace) → CallStands m l.history positions t' c (length n'.answered) n'.pending n'.begun
      → (k : SessionNote) → slice_get (noting n') c ≡ Some k → CallStands m l.history positions t' c (length k.answered) k.pending k.begun
  this n' t' p k at =
      let is : n' ≡ k = same_Some n' k (sym (set_same ns c n n' (get_of ns c n here)) ∙ at) in
      subst (λ (z : SessionNote). CallStands m l.history positions t' c (length z.answered) z.pending z.begun) is p

  -- the returns of the others, and of this one
  told_then : (n' : SessionNote) (t' : Trace) → ((y : ℕ) (u : AnsweredUpdate) → IsTold t y u → IsTold t' y u) → ((q : ℕ) (u : AnsweredUpdate) → slice_get n'.answered q ≡ Some u → IsTold t' c u)
      → (y q : ℕ) (k : SessionNote) (u : AnsweredUpdate) → slice_get (noting n') y ≡ Some k → slice_get k.answered q ≡ Some u → IsTold t' y u
  told_then n' t' on new y q k u at has = ⊎_elim
      (λ same. subst (λ z. IsTold t' z u) (sym same.0) (new q u (subst (λ (z : SessionNote). slice_get z.answered q ≡ Some u) same.1 has)))
      (λ old. on y u (stands.told y q k u old.1 has))
      (get_set ns c n' y k at)

  -- what it was answered before
  pub told_before : (q : ℕ) (u : AnsweredUpdate) → slice_get n.answered q ≡ Some u → IsTold t c u
  told_before q u has = stands.told c q n u (get_of ns c n here) has

  -- what it notes changes in nothing that its events say
  pub silent_noted : (n' : SessionNote) → n'.answered ≡ n.answered → n'.pending ≡ n.pending → n'.begun ≡ n.begun → n'.events ≡ n.events → Keeps m positions t c n n' l (noting n')
  silent_noted n' same asks reads events = record {
    events = [];
    grows = ap (map (event_of c)) events ∙ sym (append-nil (own_trace c n));
    kept = subst (Kept m positions l (noting n')) (sym (append-nil t)) (no_more m positions l (noting n') t
        (stands_silent m l ns positions t c (noting n') (others n') stands
        (told_then n' t (λ y u is. is) (λ q u has. told_before q u (subst (λ zs. slice_get zs q ≡ Some u) same has)))
        (this n' t (subst (λ (z : List AnsweredUpdate × Option Pending × Option BegunRead). CallStands m l.history positions t c (length z.0) z.1 z.2) (λ i. (sym same i, sym asks i, sym reads i)) own))));
  }

  -- it notes this event
  pub event_noted : (n' : SessionNote) (noted : SessionEvent) → n'.events ≡ n.events ++ noted ∷ [] → caller (event_of c noted) ≡ c → Fine m l.history positions t (event_of c noted) → stamp_of m (event_of c noted) ≤ l.completed
      → ((q : ℕ) (u : AnsweredUpdate) → slice_get n'.answered q ≡ Some u → IsTold (t ++ event_of c noted ∷ []) c u)
      → CallStands m l.history positions (t ++ event_of c noted ∷ []) c (length n'.answered) n'.pending n'.begun → Keeps m positions t c n n' l (noting n')
  event_noted n' noted made by fine early new p = record {
    events = event_of c noted ∷ [];
    grows = ap (map (event_of c)) made ∙ map-append (event_of c) n.events (noted ∷ []);
    kept = no_more m positions l (noting n') (t ++ event_of c noted ∷ []) (
        stands_event m l ns positions t c (noting n') (others n') stands (event_of c noted) by fine early
        (told_then n' (t ++ event_of c noted ∷ []) (λ y u is. told_more (event_of c noted) is) new) (this n' (t ++ event_of c noted ∷ []) p)
        );
  }
