-- A batch is appended to the history, record by record.
use Rattle.std.proofs.Common.{◌≡◌, ℕ, zero, suc, ◌+◌, ◌<◌, ◌≤◌, true, List, [], ◌∷◌, ◌++◌, length, map, take, Option, Some, None, refl, sym, ap, ◌∙◌, subst, ⊎_elim, arith, length-append, append_assoc, append-nil}
use Rattle.std.specs.Prelude.{slice_get}
use mathlib.Core.Option.{some-injective}
use Rattle.std.proofs.lemmas.Option.{same_Some, slice_get_within}
use Rattle.std.proofs.lemmas.Bool.{cases_eq}
use Rattle.ownlock.specs.Seats.{At}
use Rattle.verifier.specs.declared.refusal.Mode.TheVariants.{Update}
use Rattle.oplog.specs.declared.records.Record.{Record}
use Rattle.oplog.specs.Operations.{Operation}
use Rattle.oplog.specs.History.{History}
use Rattle.replica.specs.StoreMeaning.{store_meaning, is_operation}
use Rattle.accounts.specs.declared.sessions.Pending.{Pending}
use Rattle.accounts.specs.declared.sessions.Claim.{Claim}
use Rattle.accounts.specs.declared.sessions.SessionNote.{SessionNote}
use Rattle.accounts.specs.Accounts.{Accounts, HasNoRecord, IsInBatch}
use Rattle.accounts.specs.Moves.{record_of, with_records}
use Rattle.accounts.proofs.Export.{at_behind, at_joined, at_none, at_of, get_of}
use Rattle.accounts.specs.declared.sessions.BegunRead.{BegunRead}
use Rattle.schedule.specs.declared.parts.Opening.{Opening}
use Rattle.schedule.specs.Explains.{Explains}
use Rattle.schedule.specs.Stands.{OpenAt}
use Rattle.schedule.specs.Trace.{Call, Trace, Positions}
use Rattle.schedule.proofs.Export.{take_length, take_snoc, explains_entry, count_self}
use Rattle.store_laws.proofs.Stands.{CallStands, EventsStand, IndexIs, L}
use Rattle.store_laws.proofs.Calls.{call_entry}
use Rattle.maps.proofs.Export.{at_end}
use Rattle.node.proofs.Export.{get_some}

-- the call of a session that waits
abbrev pub Waiting : Opening → History → Positions → Trace → (x count : ℕ) → Pending → Type 0
Waiting m h positions t x count o = (c : ℕ) × (index : Option ℕ) × OpenAt m h positions t x count Update o.op index c × IndexIs h x count o.op index

pub waits_for : (m : Opening) (h : History) (positions : Positions) (t : Trace) (x count : ℕ) (o : Pending) (pending : Option Pending) (read : Option BegunRead) → pending ≡ Some o
    → CallStands m h positions t x count pending read → (read ≡ None) × Waiting m h positions t x count o
waits_for m h positions t x count o pending read is p = by read (subst (λ z. CallStands m h positions t x count z read) is p)
  where
    by : (read : Option BegunRead) → CallStands m h positions t x count (Some o) read → (read ≡ None) × Waiting m h positions t x count o
    by None p = (refl, p)
    by (Some read) p = absurd p

-- what the history has no record of has no index
pub no_index : (h : History) (x count : ℕ) (op : Operation) (index : Option ℕ) → HasNoRecord h x count → IndexIs h x count op index → index ≡ None
no_index h x count op None none p = refl
no_index h x count op (Some i) none p = absurd (none i (record { author = x; seq = count; op = op }) p refl refl)

-- ---- the first requests of a batch

map_append : (xs ys : List Claim) → map record_of (xs ++ ys) ≡ map record_of xs ++ map record_of ys
map_append [] ys = refl
map_append (x ∷ xs) ys = ap (λ zs. record_of x ∷ zs) (map_append xs ys)

pub map_length : (xs : List Claim) → length (map record_of xs) ≡ length xs
map_length [] = refl
map_length (x ∷ xs) = ap suc (map_length xs)

take_zero : (xs : List Claim) → take 0 xs ≡ []
take_zero [] = refl
take_zero (x ∷ xs) = refl

-- a record of the first k is that of a request below k
taken_at : (k : ℕ) (xs : List Claim) (j : ℕ) (r : Record) → At j r (map record_of (take k xs)) → (q : Claim) × (j < k) × At j q xs × (record_of q ≡ r)
taken_at zero xs j r e = absurd (at_none j r (subst (λ zs. At j r (map record_of zs)) (take_zero xs) e))
taken_at (suc k) [] j r e = absurd (at_none j r e)
taken_at (suc k) (x ∷ xs) zero r e = (x, omega arith, refl, some-injective (record_of x) r e)
taken_at (suc k) (x ∷ xs) (suc j) r e = let t = taken_at k xs j r e in let l = t.1 in (t.0, omega arith, t.2, t.3)

module _ (m : Opening) (l : L) (ns : List SessionNote) (positions : Positions) (t : Trace) (stands : EventsStand m l ns positions t) (w : Accounts store_meaning l ns) (c : ℕ) (n : SessionNote)
    (here : At c n ns) (unplaced : (j : ℕ) (q : Claim) → At j q n.batch → q.index ≡ None) where
  abbrev h : History
  h = l.history

  abbrev pub grown : ℕ → History
  grown k = h ++ map record_of (take k n.batch)

  pub grown_long : (k : ℕ) → k ≤ length n.batch → length (grown k) ≡ length h + k
  grown_long k low = length-append h (map record_of (take k n.batch)) ∙ ap (λ i. length h + i) (map_length (take k n.batch) ∙ take_length k n.batch low)

  pub record Grown (k : ℕ) : Type 0 where
    pub places : Positions
    pub more : Positions
    pub places_are : places ≡ positions ++ more
    pub explains : Explains m (grown k) places t
    pub calls : (x : ℕ) (n : SessionNote) → slice_get ns x ≡ Some n → CallStands m (grown k) places t x (length n.answered) n.pending n.begun

  none_grown : grown 0 ≡ h
  none_grown = ap (λ zs. h ++ map record_of zs) (take_zero n.batch) ∙ append-nil h

  one_grown : (k : ℕ) (q : Claim) → slice_get n.batch k ≡ Some q → grown (suc k) ≡ grown k ++ record_of q ∷ []
  one_grown k q g =
      ap (λ zs. h ++ map record_of zs) (take_snoc k n.batch q g)
      ∙ (ap (λ zs. h ++ zs) (map_append (take k n.batch) (q ∷ [])) ∙ sym (append_assoc h (map record_of (take k n.batch)) (record_of q ∷ [])))

  grown_none : Grown 0
  grown_none = record {
    places = positions;
    more = [];
    places_are = sym (append-nil positions);
    explains = subst (λ z. Explains m z positions t) (sym none_grown) stands.explains;
    calls = λ x n at. subst (λ z. CallStands m z positions t x (length n.answered) n.pending n.begun) (sym none_grown) (stands.calls x n at);
  }

  in_batch : (k : ℕ) (q : Claim) → slice_get n.batch k ≡ Some q → IsInBatch ns c k q
  in_batch k q g = (n, here, at_of n.batch k q g)

  -- nothing of a request is in the history before it is appended
  not_yet : (k : ℕ) (q : Claim) → slice_get n.batch k ≡ Some q → HasNoRecord (grown k) (record_of q).author (record_of q).seq
  not_yet k q g i r at by is = ⊎_elim
      (λ old. (w.placed c k q (in_batch k q g)).1 (unplaced k q (at_of n.batch k q g)) i r old by is)
      (λ (b : (j : ℕ) × (i ≡ length h + j) × At j r (map record_of (take k n.batch))).
      let e = taken_at k n.batch b.0 r b.2 in
      let one = w.once c c b.0 k e.0 q (n, here, e.2) (in_batch k q g) (ap (λ (z : Record). z.author) e.3 ∙ by) in
      let lt = e.1 in let same = one.1 in omega (arith, lt, same))
      (at_joined h (map record_of (take k n.batch)) i r at)

  grown_next : (k : ℕ) (q : Claim) → slice_get n.batch k ≡ Some q → length h + k < m.config.limit → Grown k → Grown (suc k)
  grown_next k q g room y =
      let r : Record = record_of q in
      let inside = slice_get_within n.batch k q g in
      let len = grown_long k (omega arith) in
      let asked = w.requested c k q (in_batch k q g) in
      let a : SessionNote = asked.0 in
      let o : Pending = asked.2.0 in
      let waits = waits_for m (grown k) y.places t r.author (length a.answered) o a.pending a.begun asked.2.1 (y.calls r.author a (get_of ns r.author a asked.1)) in
      let call = waits.1 in
      let seq : r.seq ≡ length a.answered = asked.2.3 in
      let none : HasNoRecord (grown k) r.author (length a.answered) = subst (HasNoRecord (grown k) r.author) seq (not_yet k q g) in
      let waiting : OpenAt m (grown k) y.places t r.author (length a.answered) Update o.op None call.0 =
      subst (λ z. OpenAt m (grown k) y.places t r.author (length a.answered) Update o.op z call.0) (no_index (grown k) r.author (length a.answered) o.op call.1 none call.3) call.2 in
      let called : slice_get t call.0 ≡ Some (Call r.author Update r.op) = subst (λ z. slice_get t call.0 ≡ Some (Call r.author Update z)) (sym asked.2.2) (waiting.is_open).call in
      let counts = waiting.counts in
      let done = stands.completed in
      let grew : Explains m (grown k ++ r ∷ []) (y.places ++ call.0 ∷ []) t =
      explains_entry r call.0 y.explains (subst (λ z. is_operation Update m.catalogue z ≡ true) (sym asked.2.2) waiting.may) called waiting.has (omega (arith, counts, seq)) (omega (arith, len, room))
      (λ b x answer at. let low = stands.stamps b x answer at in omega (arith, low, len, done)) in
      let place : length y.places ≡ length (grown k) = y.explains.each_placed in
      let opened : OpenAt m (grown k ++ r ∷ []) (y.places ++ call.0 ∷ []) t r.author (length a.answered) Update o.op (Some (length (grown k))) call.0 = record {
        is_open = waiting.is_open;
        may = waiting.may;
        has = subst (λ i. slice_get (y.places ++ call.0 ∷ []) i ≡ Some call.0) place (at_end y.places call.0);
        counts = count_self (grown k) r ∙ omega (arith, counts);
      } in
      let is : r ≡ record { author = r.author; seq = length a.answered; op = o.op } = λ i. record { author = r.author; seq = seq i; op = asked.2.2 i } in
      let there : At (length (grown k)) r (grown k ++ r ∷ []) = subst (λ z. At z r (grown k ++ r ∷ [])) (plus_none (length (grown k))) (at_behind (grown k) (r ∷ []) 0 r refl) in
      let own : CallStands m (grown k ++ r ∷ []) (y.places ++ call.0 ∷ []) t r.author (length a.answered) (Some o) None =
      (call.0, Some (length (grown k)), opened, subst (λ z. At (length (grown k)) z (grown k ++ r ∷ [])) is there) in
      record {
        places = y.places ++ call.0 ∷ [];
        more = y.more ++ call.0 ∷ [];
        places_are = ap (λ z. z ++ call.0 ∷ []) y.places_are ∙ append_assoc positions y.more (call.0 ∷ []);
        explains = subst (λ z. Explains m z (y.places ++ call.0 ∷ []) t) (sym (one_grown k q g)) grew;
        calls = λ x n at. subst (λ z. CallStands m z (y.places ++ call.0 ∷ []) t x (length n.answered) n.pending n.begun) (sym (one_grown k q g))
            (⊎_elim
            (λ same.
            let is_a : a ≡ n = same_Some a n (sym (get_of ns r.author a asked.1) ∙ subst (λ z. slice_get ns z ≡ Some n) same at) in
            subst (λ z. CallStands m (grown k ++ r ∷ []) (y.places ++ call.0 ∷ []) t z (length n.answered) n.pending n.begun) (sym same)
            (subst (λ z. CallStands m (grown k ++ r ∷ []) (y.places ++ call.0 ∷ []) t r.author (length z.answered) z.pending z.begun) is_a
            (subst (λ (z : Option Pending × Option BegunRead). CallStands m (grown k ++ r ∷ []) (y.places ++ call.0 ∷ []) t r.author (length a.answered) z.0 z.1) (λ i. (sym asked.2.1 i, sym waits.0 i)) own)))
            (λ ne. call_entry m (grown k) y.places t x (length n.answered) n.pending n.begun r call.0 called (λ e. ne (sym e)) (y.calls x n at))
            (cases_eq x r.author));
      }
    where
      plus_none : (i : ℕ) → i + 0 ≡ i
      plus_none i = omega arith

  grown_to : (k : ℕ) → k ≤ length n.batch → length h + k ≤ m.config.limit → Grown k
  grown_to zero low room = grown_none
  grown_to (suc k) low room = let q = get_some n.batch k (omega arith) in grown_next k q.0 q.1 (omega arith) (grown_to k (omega arith) (omega arith))

  -- the events stand for the moment with these records
  pub batch_stands : (k : ℕ) → k ≤ length n.batch → length h + k ≤ m.config.limit
      → (more : Positions) × EventsStand m (with_records l (map record_of (take k n.batch))) ns (positions ++ more) t
  batch_stands k low room =
      let y = grown_to k low room in (
        y.more,
        subst (λ z. EventsStand m (with_records l (map record_of (take k n.batch))) ns z t) y.places_are (record {
          config = stands.config;
          catalogue = stands.catalogue;
          completed = (let len = grown_long k low in let done = stands.completed in omega (arith, len, done));
          explains = y.explains;
          stamps = stands.stamps;
          told = stands.told;
          calls = y.calls;
        }),
      )
