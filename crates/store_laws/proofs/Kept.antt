-- Each step of a run keeps what holds of the notes and the events.
use Rattle.std.proofs.Common.{◌≡◌, ℕ, ◌+◌, ◌≤◌, true, List, [], ◌∷◌, ◌++◌, length, map, take, Option, Some, None, refl, sym, ap, ◌∙◌, subst, ⊎_elim, arith, length-append}
use Rattle.std.specs.Prelude.{replicate, slice_get, slice_set}
use Rattle.std.proofs.lemmas.Option.{none-some}
use Rattle.ownlock.specs.Seats.{At}
use Rattle.verifier.specs.declared.refusal.Mode.TheVariants.{Update, Read}
use Rattle.loader.specs.CatalogueView.{CatalogueView}
use Rattle.loader.specs.StoreState.{StoreState}
use Rattle.oplog.specs.History.{read_reply_at, reply_at}
use Rattle.combiner.specs.Desks.{DeskView}
use Rattle.combiner.specs.declared.slots.Reply.{Reply}
use Rattle.combiner.specs.declared.slots.Reply.TheVariants.{Placed, Ended}
use Rattle.replica.specs.StoreMeaning.{store_meaning, is_operation}
use Rattle.accounts.specs.declared.sessions.AnsweredUpdate.{AnsweredUpdate}
use Rattle.accounts.specs.declared.sessions.BegunRead.{BegunRead}
use Rattle.accounts.specs.declared.sessions.Pending.{Pending}
use Rattle.accounts.specs.declared.sessions.SessionEvent.TheVariants.{ReadCall, UpdateBack, UpdateCall}
use Rattle.accounts.specs.declared.sessions.SessionEvent.TheVariants as noted
use Rattle.accounts.specs.declared.sessions.SessionNote.{SessionNote}
use Rattle.accounts.specs.Values.{StoreValue, TheLog, TheReplica, TheDesk}
use Rattle.accounts.specs.Accounts.{Accounts}
use Rattle.accounts.specs.Agreement.{AgreesWith}
use Rattle.accounts.specs.LogSteps.{first_progress, fresh_note}
use Rattle.accounts.specs.Moves.{BatchAppended, Begins, Claims, Collects, DeskMove, Hears, IsAtRest, MayBegin, Moves, Posts, Replies, answered_with, posted_with, raised, record_of, with_records}
use Rattle.accounts.specs.Told.{Tells}
use Rattle.accounts.proofs.Export.{answered, no_next, one_place}
use Rattle.schedule.specs.declared.parts.Opening.{Opening}
use Rattle.schedule.specs.Stands.{OpenAt}
use Rattle.schedule.specs.Trace.{Back, Call, Event, IsOpen, Trace, Positions, ReadBack, Updated}
use Rattle.schedule.proofs.Export.{Right, get_snoc, idle_back, replicate_get, right_open, take_all_front, take_length}
use Rattle.store_laws.specs.RunEvents.{IsTold}
use Rattle.store_laws.proofs.Batches.{Waiting, batch_stands, map_length, waits_for}
use Rattle.store_laws.proofs.Events.{calls_read, calls_update, told_more}
use Rattle.store_laws.proofs.Noted.{Keeps, Kept, event_noted, further, own, progress_is, silent_noted, told_before}
use Rattle.store_laws.proofs.Stands.{CallStands, EventsStand, IndexIs, L}
use Rattle.maps.proofs.Export.{at_end}

-- ---- the opening

pub opening_stands : (m : Opening) (sessions : ℕ) → EventsStand m (first_progress m.config m.catalogue) (replicate sessions fresh_note) [] []
opening_stands m sessions = record {
  config = refl;
  catalogue = refl;
  completed = omega arith;
  explains = record {
    updates = λ i r e. absurd (none-some r e);
    each_placed = refl;
    calls = λ i c r e f. absurd (none-some r e);
    once = λ i j c e f. absurd (none-some c e);
    seqs = λ i r e. absurd (none-some r e);
    right = λ x mode op c b answer a. absurd (none-some _ a.back);
    placed_later = λ c i s e before. absurd (none-some c e);
    read_later = λ x mode op c b point reply s a before. absurd (none-some _ a.back);
    calls_in_turn = λ c x mode op e. absurd (none-some _ e);
    answers_in_turn = λ b x answer e. absurd (none-some _ e);
  };
  stamps = λ b x answer e. absurd (none-some _ e);
  told = λ x q n u at has. absurd (none-some u (subst (λ (z : SessionNote). slice_get z.answered q ≡ Some u) (sym (replicate_get sessions _ x n at)) has));
  calls = λ x n at. subst (λ (z : SessionNote). CallStands m [] [] [] x (length z.answered) z.pending z.begun) (replicate_get sessions _ x n at) ((λ mode op c o. none-some _ o.call), refl);
}

-- ---- a session puts a value back, or loads the completed tail

module _ (m : Opening) (l : L) (ns : List SessionNote) (positions : Positions) (t : Trace) (stands : EventsStand m l ns positions t) (c : ℕ) (n : SessionNote) (here : At c n ns)
    (w : Accounts store_meaning l ns) where
  -- the session notes n' instead
  abbrev noting : SessionNote → List SessionNote
  noting n' = slice_set ns c n'

  abbrev KeepsNote : SessionNote → Type 0
  KeepsNote n' = Keeps m positions t c n n' l (noting n')

  abbrev before : CallStands m l.history positions t c (length n.answered) n.pending n.begun
  before = own m l ns positions t stands c n here

  idle : IsAtRest n → CallStands m l.history positions t c (length n.answered) None None
  idle rests = subst (λ (z : Option Pending × Option BegunRead). CallStands m l.history positions t c (length n.answered) z.0 z.1) (λ i. (rests.0 i, rests.1 i)) before

  -- the session was answered no more than before
  still_told : (n' : SessionNote) (e : Event) → n'.answered ≡ n.answered → (q : ℕ) (u : AnsweredUpdate) → slice_get n'.answered q ≡ Some u → IsTold (t ++ e ∷ []) c u
  still_told n' e same q u has = told_more e (told_before m l ns positions t stands c n here q u (subst (λ zs. slice_get zs q ≡ Some u) same has))

  same_note : (n' : SessionNote) → n' ≡ n → KeepsNote n'
  same_note n' is = silent_noted m l ns positions t stands c n here n' (ap (λ (z : SessionNote). z.answered) is) (ap (λ (z : SessionNote). z.pending) is) (ap (λ (z : SessionNote). z.begun) is) (ap (λ (z : SessionNote). z.events) is)

  posts : (n' : SessionNote) (o : Pending) → IsAtRest n → store_meaning.is_update l.catalogue o.op ≡ true → n' ≡ posted_with n o → KeepsNote n'
  posts n' o rests may is =
      let old = idle rests in
      let none = no_next store_meaning l ns c n w here rests.0 in
      let p = calls_update m l.history positions t c (length n.answered) old.0 old.1 stands.explains o (subst (λ z. store_meaning.is_update z o.op ≡ true) (sym stands.catalogue) may) none in
      event_noted m l ns positions t stands c n here n' (UpdateCall o.op) (ap (λ (z : SessionNote). z.events) is)
      refl old.0 (omega arith) (still_told n' (Call c Update o.op) (ap (λ (z : SessionNote). z.answered) is))
      (subst (λ (z : SessionNote × Option BegunRead). CallStands m l.history positions (t ++ Call c Update o.op ∷ []) c (length z.0.answered) z.0.pending z.1) (λ i. (sym is i, (sym rests.1 ∙ ap (λ (z : SessionNote). z.begun) (sym is)) i)) p)

  unread : (o : Pending) → n.pending ≡ Some o → n.begun ≡ None
  unread o asked = (waits_for m l.history positions t c (length n.answered) o n.pending n.begun asked before).0

  collects : (n' : SessionNote) (o : Pending) (reply : Reply) → n.pending ≡ Some o → Tells store_meaning l c (length n.answered) o reply → n' ≡ answered_with n o.op reply → KeepsNote n'
  collects n' o reply asked tells is = by reply tells is
    where
      waits : Waiting m l.history positions t c (length n.answered) o
      waits = (waits_for m l.history positions t c (length n.answered) o n.pending n.begun asked before).1

      at_index : (i : ℕ) → At i (record { author = c; seq = length n.answered; op = o.op }) l.history → (index : Option ℕ) → IndexIs l.history c (length n.answered) o.op index → index ≡ Some i
      at_index i there None none = absurd (none i (record { author = c; seq = length n.answered; op = o.op }) there refl refl)
      at_index i there (Some j) at = ap Some (one_place store_meaning l ns w j i _ _ at there refl refl)

      no_place : (index : Option ℕ) → ((i : ℕ) (r : _) → At i r l.history → r.author ≡ c → r.seq ≡ length n.answered → ⊥) → IndexIs l.history c (length n.answered) o.op index → index ≡ None
      no_place None none p = refl
      no_place (Some i) none p = absurd (none i _ p refl refl)

      -- it waits for nothing then
      rested : (e : Event) (count : ℕ) → CallStands m l.history positions (t ++ e ∷ []) c count None None → (z : SessionNote) → length z.answered ≡ count → z.pending ≡ None → z.begun ≡ n.begun
          → CallStands m l.history positions (t ++ e ∷ []) c (length z.answered) z.pending z.begun
      rested e count p z long asks reads = subst (λ (y : ℕ × Option Pending × Option BegunRead). CallStands m l.history positions (t ++ e ∷ []) c y.0 y.1 y.2) (λ i. (sym long i, sym asks i, sym (reads ∙ unread o asked) i)) p

      by : (reply : Reply) → Tells store_meaning l c (length n.answered) o reply → n' ≡ answered_with n o.op reply → KeepsNote n'
      by (Placed i r) told is =
          let u : AnsweredUpdate = record { index = i; op = o.op; reply = r } in
          let e : Event = Back c (Updated (Placed i r)) in
          let waiting : OpenAt m l.history positions t c (length n.answered) Update o.op (Some i) waits.0 =
          subst (λ z. OpenAt m l.history positions t c (length n.answered) Update o.op z waits.0) (at_index i told.1.1 waits.1 waits.3) waits.2 in
          let right : Right m l.history positions t o.op waits.0 (Updated (Placed i r)) = (waiting.has, ap (λ (z : CatalogueView). reply_at store_meaning z l.history i o.op) stands.catalogue ∙ told.1.2) in
          let low = told.1.0 in
          let counts = waiting.counts in
          let long = length-append n.answered (u ∷ []) in
          let just : IsTold (t ++ e ∷ []) c u = (
            waits.0,
            length t,
            record { open_call = subst (λ z. IsOpen z c Update o.op waits.0) (sym (take_all_front t (e ∷ []))) waiting.is_open; back = at_end t e },
          ) in
          event_noted m l ns positions t stands c n here n' (UpdateBack (Placed i r)) (ap (λ (z : SessionNote). z.events) is)
          refl (Update, o.op, waits.0, waiting.is_open, tt, right_open m l.history positions t c Update o.op waits.0 (Updated (Placed i r)) waiting.is_open right) (omega (arith, low))
          (λ q v has. ⊎_elim (λ old. told_more e (told_before m l ns positions t stands c n here q v old)) (λ new. subst (λ z. IsTold (t ++ e ∷ []) c z) new.1 just)
          (get_snoc n.answered u q v (subst (λ (z : SessionNote). slice_get z.answered q ≡ Some v) is has)))
          (rested e (length (n.answered ++ u ∷ [])) (idle_back t c (Updated (Placed i r)), omega (arith, counts, long)) n' (ap (λ (z : SessionNote). length z.answered) is) (ap (λ (z : SessionNote). z.pending) is) (ap (λ (z : SessionNote). z.begun) is))
      by Ended told is =
          let e : Event = Back c (Updated Ended) in
          let waiting : OpenAt m l.history positions t c (length n.answered) Update o.op None waits.0 =
          subst (λ z. OpenAt m l.history positions t c (length n.answered) Update o.op z waits.0) (no_place waits.1 told.1 waits.3) waits.2 in
          let full = told.0 in
          let low = w.completed in
          let most = w.limit in
          let config = ap (λ z. z.limit) stands.config in
          let counts = waiting.counts in
          let right : Right m l.history positions t o.op waits.0 (Updated Ended) = (waiting.has, omega (arith, full, low, most, config)) in
          event_noted m l ns positions t stands c n here n' (UpdateBack Ended) (ap (λ (z : SessionNote). z.events) is)
          refl (Update, o.op, waits.0, waiting.is_open, tt, right_open m l.history positions t c Update o.op waits.0 (Updated Ended) waiting.is_open right) (omega (arith, full, config)) (still_told n' e (ap (λ (z : SessionNote). z.answered) is))
          (rested e (length n.answered) (idle_back t c (Updated Ended), omega (arith, counts)) n' (ap (λ (z : SessionNote). length z.answered) is) (ap (λ (z : SessionNote). z.pending) is) (ap (λ (z : SessionNote). z.begun) is))

  desk_moves : (p : ℕ) (x : DeskView) (n' : SessionNote) → AgreesWith store_meaning p l ns (TheDesk x) → DeskMove store_meaning x c l n n' → KeepsNote n'
  desk_moves p x n' agrees (Posts o rests may seen is) = posts n' o rests may is
  desk_moves p x n' agrees (Claims none is) =
      silent_noted m l ns positions t stands c n here n' (ap (λ (z : SessionNote). z.answered) is) (ap (λ (z : SessionNote). z.pending) is) (ap (λ (z : SessionNote). z.begun) is) (ap (λ (z : SessionNote). z.events) is)
  desk_moves p x n' agrees (Replies is) =
      silent_noted m l ns positions t stands c n here n' (ap (λ (z : SessionNote). z.answered) is) (ap (λ (z : SessionNote). z.pending) is) (ap (λ (z : SessionNote). z.begun) is) (ap (λ (z : SessionNote). z.events) is)
  desk_moves p x n' agrees (Collects slot_number slot o reply own at stage asked is) =
      collects n' o reply asked (answered store_meaning l ns c n x slot_number slot o reply w here agrees.2 own at stage asked) is

  -- a read is asked
  pub begins : (n' : SessionNote) → MayBegin store_meaning l n n' → KeepsNote n'
  begins n' may = ⊎_elim (same_note n') asks may
    where
      asks : Begins store_meaning l n n' → KeepsNote n'
      asks b =
          let old = idle b.rests in
          let p = calls_read m l.history positions t c (length n.answered) old.0 old.1 stands.explains b.op l.completed b.seen (subst (λ z. is_operation Read z b.op ≡ true) (sym stands.catalogue) b.may) stands.stamps b.reached in
          event_noted m l ns positions t stands c n here n' (ReadCall b.op) (ap (λ (z : SessionNote). z.events) b.note)
          refl old.0 (omega arith) (still_told n' (Call c Read b.op) (ap (λ (z : SessionNote). z.answered) b.note))
          (subst (λ (z : SessionNote × Option Pending). CallStands m l.history positions (t ++ Call c Read b.op ∷ []) c (length z.0.answered) z.1 z.0.begun) (λ i. (sym b.note i, (sym b.rests.0 ∙ ap (λ (z : SessionNote). z.pending) (sym b.note)) i)) p)

  -- and answered
  hears : (n' : SessionNote) → Hears store_meaning l n n' → KeepsNote n'
  hears n' (read, point, reply, begun, tells, is) =
      let on = reading n.pending read (subst (λ z. CallStands m l.history positions t c (length n.answered) n.pending z) begun before) in
      let p = on.1 in
      let e : Event = Back c (ReadBack (record { point = point; reply = reply })) in
      let low = tells.0 in
      let far = tells.1 in
      let within = stands.completed in
      let counts = (p.1).counts in
      let right : Right m l.history positions t read.op p.0 (ReadBack (record { point = point; reply = reply })) = (
        omega (arith, far, within),
        ap (λ (z : CatalogueView). read_reply_at store_meaning z l.history point read.op) stands.catalogue ∙ tells.2,
        λ k before. let first = p.2 k before in omega (arith, first, low),
      ) in
      event_noted m l ns positions t stands c n here n' (noted.ReadBack point reply) (ap (λ (z : SessionNote). z.events) is)
      refl (Read, read.op, p.0, (p.1).is_open, tt, right_open m l.history positions t c Read read.op p.0 (ReadBack (record { point = point; reply = reply })) (p.1).is_open right) far
      (still_told n' e (ap (λ (z : SessionNote). z.answered) is))
      (subst (λ (z : SessionNote × Option Pending). CallStands m l.history positions (t ++ e ∷ []) c (length z.0.answered) z.1 z.0.begun) (λ i. (sym is i, (sym on.0 ∙ ap (λ (z : SessionNote). z.pending) (sym is)) i))
      (idle_back t c (ReadBack (record { point = point; reply = reply })), omega (arith, counts)))
    where
      -- a session with a read begun waits for nothing else
      reading : (pending : Option Pending) (read : BegunRead) → CallStands m l.history positions t c (length n.answered) pending (Some read)
          → (pending ≡ None) × CallStands m l.history positions t c (length n.answered) None (Some read)
      reading None read p = (refl, p)
      reading (Some o) read p = absurd p

  -- the log is put back with the first of its batch
  appends : (l' : L) (n' : SessionNote) → BatchAppended store_meaning l n l' n' → l'.config ≡ l.config → l'.catalogue ≡ l.catalogue → l'.completed ≡ l.completed → Keeps m positions t c n n' l' (noting n')
  appends l' n' b config catalogue completed =
      let more = map record_of (take b.count n.batch) in
      let longer = length-append l.history more in
      let taken = map_length (take b.count n.batch) ∙ take_length b.count n.batch b.within in
      let limit = b.limit in
      let whole : length l'.history ≡ length l.history + b.count = ap length b.history ∙ omega (arith, longer, taken) in
      let room : length l.history + b.count ≤ m.config.limit = (let e = ap (λ z. z.limit) (config ∙ sym stands.config) in let f = ap (λ z. z.limit) stands.config in omega (arith, whole, limit, e, f)) in
      let y = batch_stands m l ns positions t stands w c n here b.unplaced b.count b.within room in
      let k = silent_noted m (with_records l more) ns (positions ++ y.0) t y.1 c n here n' (ap (λ (z : SessionNote). z.answered) b.note) (ap (λ (z : SessionNote). z.pending) b.note) (ap (λ (z : SessionNote). z.begun) b.note)
      (ap (λ (z : SessionNote). z.events) b.note) in
      record {
        events = k.events;
        grows = k.grows;
        kept = subst (λ z. Kept m positions z (noting n') (t ++ k.events)) (sym (progress_is l' (with_records l more) config catalogue b.history completed))
            (further m positions y.0 (with_records l more) (noting n') (t ++ k.events) k.kept);
      }

  pub moves : (p : ℕ) (v : StoreValue StoreState) (l' : L) (n' : SessionNote) → Moves store_meaning p c v l n l' n' → AgreesWith store_meaning p l ns v → Keeps m positions t c n n' l' (noting n')
  moves p (TheReplica x) l' n' (same, note) agrees = subst (λ z. Keeps m positions t c n n' z (noting n')) (sym same) (⊎_elim (same_note n') (hears n') note)
  moves p (TheDesk x) l' n' (same, note) agrees = subst (λ z. Keeps m positions t c n n' z (noting n')) (sym same) (⊎_elim (same_note n') (λ own_desk. desk_moves p x n' agrees own_desk.1) note)
  moves p (TheLog x) l' n' (at_log, log) agrees = ⊎_elim
      (λ only. subst (λ z. Keeps m positions t c n n' z (noting n')) (sym (progress_is l' l log.config log.catalogue only.0 log.completed)) (begins n' only.1))
      (λ b. appends l' n' b log.config log.catalogue log.completed)
      log.appends

-- ---- the completed tail is raised

pub raise_kept : (m : Opening) (l : L) (ns : List SessionNote) (positions : Positions) (t : Trace) (n : ℕ) → n ≤ length l.history → EventsStand m l ns positions t → EventsStand m (raised l n) ns positions t
raise_kept m l ns positions t n within stands = record {
  config = stands.config;
  catalogue = stands.catalogue;
  completed = (let low = stands.completed in omega (arith, low, within));
  told = stands.told;
  explains = stands.explains;
  stamps = λ b x answer at. let low = stands.stamps b x answer at in omega (arith, low);
  calls = stands.calls;
}
