-- Histories, batches and notes, part by part.
use Rattle.std.proofs.Common.{◌≡◌, ◌≢◌, ℕ, zero, suc, ◌+◌, ◌*◌, ◌<◌, ◌≤◌, ◌⊎◌, List, [], ◌∷◌, ◌++◌, map, length, take, set, sym, refl, ap, ◌∙◌, subst, inl, inr, ⊎_elim, arith, Some, None, option_map, append_assoc}
use Rattle.std.proofs.lemmas.Bool.{cases_lt}
use mathlib.Core.Option as kernel
use mathlib.Core.Option.{some-injective}
use Rattle.atomic_table.proofs.Lists.{at_set, set_here, set_else}
use Rattle.oplog.specs.History.{Meaning, after, state_after, reply_at, read_reply_at}
use Rattle.oplog.specs.Operations.{Operation}
use Rattle.oplog.specs.declared.configuration.Sizes.{Sizes}
use Rattle.oplog.specs.declared.records.Record.{Record}
use Rattle.ownlock.specs.Seats.{At}
use Rattle.accounts.proofs.Lists.{at_none, take_front}
use Rattle.oplog.specs.Sessions.{session}
use Rattle.accounts.specs.Accounts.{IsInBatch, IsNoted, IsRequest}
use Rattle.accounts.specs.Moves.{answered_with, begun_with, called_with, heard_with, placed_from, record_of, unplaced}
use Rattle.accounts.specs.Told.{read_with, updated_with}
use Rattle.combiner.specs.declared.slots.Reply.{Reply}
use Rattle.combiner.specs.declared.slots.Reply.TheVariants.{Ended, Placed}
use Rattle.combiner.specs.declared.slots.Slot.{Slot}
use Rattle.combiner.specs.declared.slots.Stage.{Stage}
use Rattle.combiner.specs.declared.slots.Stage.TheVariants.{Answered, Claimed, Empty, Posted}
use Rattle.accounts.specs.declared.sessions.Claim.{Claim}
use Rattle.accounts.specs.declared.sessions.SessionEvent.TheVariants.{ReadBack, ReadCall, UpdateBack, UpdateCall}
use Rattle.accounts.specs.declared.sessions.SessionNote.{SessionNote}
use Rattle.combiner.specs.Slots.{requested, requests_from}
use Rattle.combiner.specs.Desks.{DeskView, first_author}
use Rattle.ownlock.proofs.Export.{at_below, at_one}

module _ {C M : Type 0} (E : Meaning C M) where
  -- more records change nothing of the state after the first k
  pub state_front : (c : C) (h more : List Record) (k : ℕ) → k ≤ length h → state_after E c (h ++ more) k ≡ state_after E c h k
  state_front c h more k le = ap (λ rs. after E c (E.opening c) rs) (take_front k h more le)

  pub reply_front : (c : C) (h more : List Record) (k : ℕ) (op : Operation) → k ≤ length h → reply_at E c (h ++ more) k op ≡ reply_at E c h k op
  reply_front c h more k op le = ap (λ m. option_map (λ e. e.reply) (E.update c op m)) (state_front c h more k le)

  pub read_front : (c : C) (h more : List Record) (k : ℕ) (op : Operation) → k ≤ length h → read_reply_at E c (h ++ more) k op ≡ read_reply_at E c h k op
  read_front c h more k op le = ap (λ m. option_map (λ e. e.reply) (E.read c op m)) (state_front c h more k le)

-- both notes have been answered the same and ask the same
pub record Alike (n m : SessionNote) : Type 0 where
  pub answered : n.answered ≡ m.answered
  pub pending : n.pending ≡ m.pending

pub alike_self : (n : SessionNote) → Alike n n
alike_self n = record { answered = refl; pending = refl }

pub alike_accounts : (n m : SessionNote) (i : ℕ) (r : Record) → Alike n m → IsNoted n i r → IsNoted m i r
alike_accounts n m i r a (inl h) = inl (h.0, subst (λ us. At r.seq (record { index = i; op = r.op; reply = h.0 }) us) a.answered h.1)
alike_accounts n m i r a (inr h) = inr (h.0, sym a.pending ∙ h.1, h.2, h.3 ∙ ap length a.answered, h.4)

pub alike_request : (n m : SessionNote) (r : Record) → Alike n m → IsRequest n r → IsRequest m r
alike_request n m r a h = (h.0, sym a.pending ∙ h.1, h.2, h.3 ∙ ap length a.answered)

-- a call and its answer, by a session that combines nothing
pub whole_note : (n : SessionNote) (op : Operation) (reply : Reply) → answered_with (record (called_with n op) { batch = [] }) op reply ≡ updated_with n op reply
whole_note n op (Placed i x) = λ j. record {
  answered = n.answered ++ record { index = i; op = op; reply = x } ∷ [];
  pending = None;
  batch = [];
  begun = n.begun;
  events = append_assoc n.events (UpdateCall op ∷ []) (UpdateBack (Placed i x) ∷ []) j;
}
whole_note n op Ended = λ j. record { answered = n.answered; pending = None; batch = []; begun = n.begun; events = append_assoc n.events (UpdateCall op ∷ []) (UpdateBack Ended ∷ []) j }

-- a read and its answer
pub whole_read : (n : SessionNote) (op : Operation) (seen point reply : ℕ) → heard_with (begun_with n op seen) point reply ≡ read_with n op point reply
whole_read n op seen point reply = λ j. record (read_with n op point reply) { events = append_assoc n.events (ReadCall op ∷ []) (ReadBack point reply ∷ []) j }

-- the notes once session c has another
module _ (ns : List SessionNote) (c : ℕ) (n n' : SessionNote) (here : At c n ns) where
  pub note_back : (a : ℕ) (m : SessionNote) → At a m (set ns c n') → ((a ≡ c) × (n' ≡ m)) ⊎ ((a ≢ c) × At a m ns)
  note_back a m h = at_set ns c a n' m h

  pub note_here : At c n' (set ns c n')
  note_here = set_here ns c n' (at_below ns c n here)

  pub note_else : (a : ℕ) (m : SessionNote) → a ≢ c → At a m ns → At a m (set ns c n')
  note_else a m ne h = set_else ns c a n' ne ∙ h

  -- a request of a batch is of the new note, or of another session
  pub batch_back : (d k : ℕ) (t : Claim) → IsInBatch (set ns c n') d k t → ((d ≡ c) × At k t n'.batch) ⊎ ((d ≢ c) × IsInBatch ns d k t)
  batch_back d k t (m, at, h) = ⊎_elim (λ e. inl (e.0, subst (λ (z : SessionNote). At k t z.batch) (sym e.1) h)) (λ e. inr (e.0, (m, e.1, h))) (note_back d m at)

  pub batch_else : (d k : ℕ) (t : Claim) → d ≢ c → IsInBatch ns d k t → IsInBatch (set ns c n') d k t
  batch_else d k t ne (m, at, h) = (m, note_else d m ne at, h)

  pub batch_here : (k : ℕ) (t : Claim) → At k t n'.batch → IsInBatch (set ns c n') c k t
  batch_here k t h = (n', note_here, h)

  -- the batches stay where the new note has the old one's
  pub same_batches : n'.batch ≡ n.batch → (d k : ℕ) (t : Claim) → IsInBatch (set ns c n') d k t → IsInBatch ns d k t
  same_batches e d k t h = ⊎_elim (λ p. (n, subst (λ z. At z n ns) (sym p.0) here, subst (λ b. At k t b) e p.1)) (λ p. p.1) (batch_back d k t h)

  pub alike_back : Alike n' n → (a : ℕ) (m : SessionNote) → At a m (set ns c n') → (o : SessionNote) × At a o ns × Alike m o
  alike_back like a m h = ⊎_elim (λ e. (n, subst (λ z. At z n ns) (sym e.0) here, subst (λ z. Alike z n) e.1 like)) (λ e. (m, e.1, alike_self m)) (note_back a m h)

  pub alike_on : Alike n n' → (a : ℕ) (m : SessionNote) → At a m ns → Dec (a ≡ c) → (o : SessionNote) × At a o (set ns c n') × Alike m o
  alike_on like a m h (yes e) = (n', subst (λ z. At z n' (set ns c n')) (sym e) note_here, subst (λ z. Alike z n') (at_one ns c n m here (subst (λ z. At z m ns) e h)) like)
  alike_on like a m h (no ne) = (m, note_else a m ne h, alike_self m)

-- a batch of which the first k were appended
pub placed_back : (from k : ℕ) (ts : List Claim) (j : ℕ) (u : Claim) → At j u (placed_from from k ts)
    → (t : Claim) × At j t ts × (u.request ≡ t.request) × ((j < k) → u.index ≡ Some (from + j)) × ((k ≤ j) → u.index ≡ t.index)
placed_back from zero ts j u h = (u, h, refl, (λ lt. absurd (omega arith)), (λ _. refl))
placed_back from (suc k) [] j u h = absurd (at_none j u h)
placed_back from (suc k) (t ∷ ts) zero u h =
    let e = some-injective _ u h in
    (t, refl, ap (λ (z : Claim). z.request) (sym e), (λ _. ap (λ (z : Claim). z.index) (sym e) ∙ ap Some (plus_zero from)), (λ le. absurd (omega arith)))
  where
    plus_zero : (n : ℕ) → n ≡ n + 0
    plus_zero n = omega arith
placed_back from (suc k) (t ∷ ts) (suc j) u h =
    let r = placed_back (suc from) k ts j u h in
    (r.0, r.1, r.2, (λ lt. r.3 (omega arith) ∙ ap Some (moved from j)), (λ le. r.4 (omega arith)))
  where
    moved : (n j : ℕ) → suc n + j ≡ n + suc j
    moved n j = omega arith

pub placed_on : (from k : ℕ) (ts : List Claim) (j : ℕ) (t : Claim) → At j t ts → (u : Claim) × At j u (placed_from from k ts) × (u.request ≡ t.request)
placed_on from zero ts j t h = (t, h, refl)
placed_on from (suc k) [] j t h = absurd (at_none j t h)
placed_on from (suc k) (x ∷ xs) zero t h = (record { request = x.request; index = Some from }, refl, ap (λ (z : Claim). z.request) (some-injective x t h))
placed_on from (suc k) (x ∷ xs) (suc j) t h = placed_on (suc from) k xs j t h

-- the records of the first k
pub taken_back : (k : ℕ) (ts : List Claim) (j : ℕ) (r : Record) → At j r (map record_of (take k ts)) → (t : Claim) × At j t ts × (r ≡ t.request) × (j < k)
taken_back zero ts j r h = absurd (at_none j r h)
taken_back (suc k) [] j r h = absurd (at_none j r h)
taken_back (suc k) (t ∷ ts) zero r h = (t, refl, sym (some-injective t.request r h), omega arith)
taken_back (suc k) (t ∷ ts) (suc j) r h = let b = taken_back k ts j r h in let lt = b.3 in (b.0, b.1, b.2, omega (arith, lt))

pub taken_on : (k : ℕ) (ts : List Claim) (j : ℕ) (t : Claim) → At j t ts → j < k → At j t.request (map record_of (take k ts))
taken_on zero ts j t h lt = absurd (omega arith)
taken_on (suc k) [] j t h lt = absurd (at_none j t h)
taken_on (suc k) (x ∷ xs) zero t h lt = ap (λ (o : Claim). kernel.some o.request) (some-injective x t h)
taken_on (suc k) (x ∷ xs) (suc j) t h lt = taken_on k xs j t h (omega arith)

-- a request that is posted in one of these slots, the first of which is session a's
pub record IsPosted (a : ℕ) (xs : List Slot) (t : Claim) : Type 0 where
  pub slot : ℕ
  pub posted : Slot
  pub op : Operation
  pub at : At slot posted xs
  pub stage : posted.stage ≡ Posted op
  pub is : t ≡ record { request = record { author = a + slot; seq = posted.count; op = op }; index = None }

pub posted_back : (a : ℕ) (xs : List Slot) (k : ℕ) (t : Claim) → At k t (unplaced (requests_from a xs)) → IsPosted a xs t
posted_back a [] k t h = absurd (at_none k t h)
posted_back a (x ∷ xs) k t h = by_stage (λ k h. posted_back (suc a) xs k t h) x.stage refl k h
  where
    plus_zero : (n : ℕ) → n ≡ n + 0
    plus_zero n = omega arith

    moved : (n j : ℕ) → suc n + j ≡ n + suc j
    moved n j = omega arith

    later : IsPosted (suc a) xs t → IsPosted a (x ∷ xs) t
    later r = record {
      slot = suc r.slot;
      posted = r.posted;
      op = r.op;
      at = r.at;
      stage = r.stage;
      is = r.is ∙ ap (λ z. record { request = record { author = z; seq = r.posted.count; op = r.op }; index = None }) (moved a r.slot);
    }

    by_stage : ((k : ℕ) → At k t (unplaced (requests_from (suc a) xs)) → IsPosted (suc a) xs t) → (st : Stage) → st ≡ x.stage → (k : ℕ) → At k t (unplaced (requested a x.count st (requests_from (suc a) xs))) → IsPosted a (x ∷ xs) t
    by_stage rest Empty e k h = later (rest k h)
    by_stage rest Claimed e k h = later (rest k h)
    by_stage rest (Answered reply) e k h = later (rest k h)
    by_stage rest (Posted op) e zero h = record {
      slot = 0;
      posted = x;
      op = op;
      at = refl;
      stage = sym e;
      is = sym (some-injective _ t h) ∙ ap (λ z. record { request = record { author = z; seq = x.count; op = op }; index = None }) (plus_zero a);
    }
    by_stage rest (Posted op) e (suc k) h = later (rest k h)

-- the requests of a desk are of different sessions
posted_rises : (a : ℕ) (xs : List Slot) (k j : ℕ) (t u : Claim) → At k t (unplaced (requests_from a xs)) → At j u (unplaced (requests_from a xs)) → k < j → t.request.author < u.request.author
posted_rises a [] k j t u h g lt = absurd (at_none k t h)
posted_rises a (x ∷ xs) k j t u h g lt = by_stage (λ k j h g lt. posted_rises (suc a) xs k j t u h g lt) x.stage k j h g lt
  where
    above : (b z : ℕ) → b < suc b + z
    above b z = omega arith

    by_stage : ((k j : ℕ) → At k t (unplaced (requests_from (suc a) xs)) → At j u (unplaced (requests_from (suc a) xs)) → k < j → t.request.author < u.request.author) → (st : Stage) (k j : ℕ)
        → At k t (unplaced (requested a x.count st (requests_from (suc a) xs))) → At j u (unplaced (requested a x.count st (requests_from (suc a) xs))) → k < j → t.request.author < u.request.author
    by_stage later Empty k j h g lt = later k j h g lt
    by_stage later Claimed k j h g lt = later k j h g lt
    by_stage later (Answered reply) k j h g lt = later k j h g lt
    by_stage later (Posted op) zero zero h g lt = absurd (omega arith)
    by_stage later (Posted op) (suc k) zero h g lt = absurd (omega arith)
    by_stage later (Posted op) (suc k) (suc j) h g lt = later k j h g (omega arith)
    by_stage later (Posted op) zero (suc j) h g lt =
        let r = posted_back (suc a) xs j u g in
        let first = ap (λ (z : Claim). z.request.author) (sym (some-injective _ t h)) in let other = ap (λ (z : Claim). z.request.author) r.is in
        subst (λ z. z < u.request.author) (sym first) (subst (λ z. a < z) (sym other) (above a r.slot))

pub posted_once : (a : ℕ) (xs : List Slot) (k j : ℕ) (t u : Claim) → At k t (unplaced (requests_from a xs)) → At j u (unplaced (requests_from a xs)) → t.request.author ≡ u.request.author → k ≡ j
posted_once a xs k j t u h g e =
    ⊎_elim (λ lt. let b = posted_rises a xs k j t u h g lt in absurd (omega (arith, b, e)))
    (λ le. ⊎_elim (λ lt. let b = posted_rises a xs j k u t g h lt in absurd (omega (arith, b, e))) (λ le2. omega arith) (cases_lt j k)) (cases_lt k j)

-- the sessions of a desk's slots follow the first's
pub author_is : (config : Sizes) (x : DeskView) (s : ℕ) → length x.slots ≡ config.slots → first_author x + s ≡ session config x.node s
author_is config x s long = ap (λ z. x.node * z + s) long
