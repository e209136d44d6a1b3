-- One session calls or is answered.
use Rattle.std.proofs.Common.{◌≡◌, ◌≢◌, ℕ, ◌+◌, ◌≤◌, true, List, [], ◌∷◌, ◌++◌, length, Some, None, sym, ◌∙◌, subst, ⊎_elim, arith}
use Rattle.std.specs.Prelude.{slice_get}
use Rattle.std.proofs.lemmas.Bool.{cases_eq}
use Rattle.verifier.specs.declared.refusal.Mode.TheVariants.{Update, Read}
use Rattle.oplog.specs.Operations.{Operation}
use Rattle.oplog.specs.History.{History}
use Rattle.replica.specs.StoreMeaning.{is_operation}
use Rattle.accounts.specs.declared.sessions.AnsweredUpdate.{AnsweredUpdate}
use Rattle.accounts.specs.declared.sessions.Pending.{Pending}
use Rattle.accounts.specs.declared.sessions.SessionNote.{SessionNote}
use Rattle.accounts.specs.Accounts.{HasNoRecord}
use Rattle.schedule.specs.declared.parts.Opening.{Opening}
use Rattle.schedule.specs.Explains.{Explains, count_of}
use Rattle.schedule.specs.Trace.{Answer, Event, Call, Back, Trace, Positions, IsIdle, caller, stamp}
use Rattle.schedule.proofs.Export.{stamp_of, Fine, explains_event, in_trace, get_snoc, answers_more, open_new, stamp_less}
use Rattle.store_laws.specs.RunEvents.{IsTold}
use Rattle.store_laws.proofs.Stands.{CallStands, EventsStand, L}
use Rattle.store_laws.proofs.Calls.{call_event}

-- but for session x the notes are as before
abbrev pub AreOthers : (old new : List SessionNote) → ℕ → Type 0
AreOthers old new x = (y : ℕ) (n : SessionNote) → y ≢ x → slice_get new y ≡ Some n → slice_get old y ≡ Some n

module _ (m : Opening) (l : L) (ns : List SessionNote) (positions : Positions) (t : Trace) (x : ℕ) (notes : List SessionNote) (others : AreOthers ns notes x) (stands : EventsStand m l ns positions t) where
  -- what stands of session x then
  abbrev IsCall : Trace → Type 0
  IsCall t' = (n : SessionNote) → slice_get notes x ≡ Some n → CallStands m l.history positions t' x (length n.answered) n.pending n.begun

  -- the returns are there then
  abbrev pub AreTold : Trace → Type 0
  AreTold t' = (y q : ℕ) (k : SessionNote) (u : AnsweredUpdate) → slice_get notes y ≡ Some k → slice_get k.answered q ≡ Some u → IsTold t' y u

  -- no event
  pub stands_silent : AreTold t → IsCall t → EventsStand m l notes positions t
  stands_silent told this = record {
    told = told;
    config = stands.config;
    catalogue = stands.catalogue;
    completed = stands.completed;
    explains = stands.explains;
    stamps = stands.stamps;
    calls = λ y n at. ⊎_elim
        (λ same. subst (λ z. CallStands m l.history positions t z (length n.answered) n.pending n.begun) (sym same)
        (this n (subst (λ z. slice_get notes z ≡ Some n) same at)))
        (λ ne. stands.calls y n (others y n ne at))
        (cases_eq y x);
  }

  -- an event of this session
  pub stands_event : (e : Event) → caller e ≡ x → Fine m l.history positions t e → stamp_of m e ≤ l.completed → AreTold (t ++ e ∷ []) → IsCall (t ++ e ∷ []) → EventsStand m l notes positions (t ++ e ∷ [])
  stands_event e by fine early told this = record {
    told = told;
    config = stands.config;
    catalogue = stands.catalogue;
    completed = stands.completed;
    explains = explains_event e stands.explains fine;
    stamps = λ b y a g. ⊎_elim (λ old. stands.stamps b y a old) (λ new. let is = new.1 in subst (λ f. stamp_of m f ≤ l.completed) is early) (get_snoc t e b (Back y a) g);
    calls = λ y n at. ⊎_elim
        (λ same. subst (λ z. CallStands m l.history positions (t ++ e ∷ []) z (length n.answered) n.pending n.begun) (sym same)
        (this n (subst (λ z. slice_get notes z ≡ Some n) same at)))
        (λ ne. call_event m l.history positions t y (length n.answered) n.pending n.begun e (λ same. ne (sym same ∙ by)) (stands.calls y n (others y n ne at)))
        (cases_eq y x);
  }

-- ---- what stands of the session that calls

module _ (m : Opening) (h : History) (positions : Positions) (t : Trace) (x count : ℕ) (x_idle : IsIdle t x) (counts : count_of x h ≡ count) (explains : Explains m h positions t) where
  unplaced : (i : ℕ) → slice_get positions i ≢ Some (length t)
  unplaced i g = let l = (in_trace explains i (length t) g).1 in absurd (omega arith)

  none_more : count_of x h ≡ count + 0
  none_more = counts ∙ omega arith

  pub calls_update : (o : Pending) → is_operation Update m.catalogue o.op ≡ true → HasNoRecord h x count → CallStands m h positions (t ++ Call x Update o.op ∷ []) x count (Some o) None
  calls_update o may none = (length t, None, record { is_open = open_new t x Update o.op; may = may; has = unplaced; counts = none_more }, none)

  -- no more was completed than it notes
  pub calls_read : (op : Operation) (done seen : ℕ) → is_operation Read m.catalogue op ≡ true → ((b y : ℕ) (a : Answer) → slice_get t b ≡ Some (Back y a) → stamp m.config.limit a ≤ done) → done ≤ seen
      → CallStands m h positions (t ++ Call x Read op ∷ []) x count None (Some (record { op = op; seen = seen }))
  calls_read op done seen may stamps low = (
    length t,
    record { is_open = open_new t x Read op; may = may; has = unplaced; counts = none_more },
    λ s before. let old = stamp_less m.config.limit t (Call x Read op) (omega arith) before in let l = stamps old.0 old.1 old.2 old.4 in let is = old.5 in omega (arith, l, is, low),
  )

-- a return stays in the trace
pub told_more : {t : Trace} {x : ℕ} {u : AnsweredUpdate} (e : Event) → IsTold t x u → IsTold (t ++ e ∷ []) x u
told_more e told = (told.0, told.1, answers_more e told.2)
