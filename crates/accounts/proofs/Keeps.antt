-- What keeps the account of all notes.
use Rattle.std.proofs.Common.{◌≡◌, ◌≢◌, ℕ, ◌+◌, ◌<◌, ◌≤◌, List, ◌++◌, length, set, sym, ap, ◌∙◌, subst, inr, ⊎_elim, arith, length-append, Some}
use native.Mathlib.Decide.{ℕ_discrete}
use Rattle.oplog.specs.History.{Meaning}
use Rattle.oplog.specs.declared.records.Record.{Record}
use Rattle.ownlock.specs.Seats.{At}
use Rattle.accounts.proofs.Lists.{at_front, at_joined}
use Rattle.accounts.proofs.Parts.{Alike, alike_accounts, alike_back, alike_on, note_back, note_else, note_here, reply_front, same_batches}
use Rattle.oplog.specs.Sessions.{IsSessionOf}
use Rattle.accounts.specs.Accounts.{Accounts, HasNoRecord, IsInBatch, IsNoted, IsPlacedIn, IsRequest, IsAllowed, IsRecorded}
use Rattle.accounts.specs.declared.sessions.AnsweredUpdate.{AnsweredUpdate}
use Rattle.accounts.specs.declared.sessions.Claim.{Claim}
use Rattle.accounts.specs.declared.sessions.Pending.{Pending}
use Rattle.accounts.specs.declared.sessions.Progress.{Progress}
use Rattle.accounts.specs.declared.sessions.SessionNote.{SessionNote}
use Rattle.ownlock.proofs.Export.{at_below, at_one}

module _ {C M : Type 0} (E : Meaning C M) where
  -- a request that has no record yet has the highest number of its session
  pub below_open : (l : Progress C) (ns : List SessionNote) → Accounts E l ns → (n : SessionNote) (r s : Record) (i : ℕ) → At s.author n ns → IsRequest n s → HasNoRecord l.history s.author s.seq
      → At i r l.history → r.author ≡ s.author → r.seq < s.seq
  below_open l ns w n r s i there asked none at e =
      let t = w.accounted i r at in
      let same : t.0 ≡ n = at_one ns s.author t.0 n (subst (λ z. At z t.0 ns) e t.1) there in
      ⊎_elim (λ h. low h.0 (subst (λ (z : SessionNote). At r.seq (record { index = i; op = r.op; reply = h.0 }) z.answered) same h.1))
      (λ h. absurd (none i r at e (h.3 ∙ (ap (λ (z : SessionNote). length z.answered) same ∙ sym asked.3)))) t.2
    where
      low : (reply : ℕ) → At r.seq (record { index = i; op = r.op; reply = reply }) n.answered → r.seq < s.seq
      low reply h = let b = at_below n.answered r.seq _ h in let q = asked.3 in omega (arith, b, q)

  -- what is asked of new records
  pub record IsNew (l : Progress C) (ns : List SessionNote) (more : List Record) : Type 0 where
    pub request : (j : ℕ) (r : Record) → At j r more → (n : SessionNote) × At r.author n ns × IsRequest n r × HasNoRecord l.history r.author r.seq
    pub apart : (i j : ℕ) (r s : Record) → At i r more → At j s more → r.author ≡ s.author → i ≡ j

  -- what is asked of the batches
  pub record Batches (l : Progress C) (ns : List SessionNote) : Type 0 where
    pub requested : (c k : ℕ) (t : Claim) → IsInBatch ns c k t → (n : SessionNote) × At t.request.author n ns × IsRequest n t.request
    pub placed : (c k : ℕ) (t : Claim) → IsInBatch ns c k t → IsPlacedIn l.history t
    pub near : (c k : ℕ) (t : Claim) → IsInBatch ns c k t → (node : ℕ) × IsSessionOf l.config node c × IsSessionOf l.config node t.request.author
    pub once : (c d k j : ℕ) (t u : Claim) → IsInBatch ns c k t → IsInBatch ns d j u → t.request.author ≡ u.request.author → (c ≡ d) × (k ≡ j)

  module _ (l l' : Progress C) (ns : List SessionNote) (c : ℕ) (n n' : SessionNote) (w : Accounts E l ns) (here : At c n ns) where
    -- a session changes its batch alone; the history may grow
    module _ (more : List Record) (catalogue : l'.catalogue ≡ l.catalogue) (history : l'.history ≡ l.history ++ more) (new : IsNew l ns more) (like : Alike n n') where
      abbrev ns' : List SessionNote
      ns' = set ns c n'

      abbrev H' : List Record
      H' = l.history ++ more

      unlike : Alike n' n
      unlike = record { answered = sym like.answered; pending = sym like.pending }

      joined : (P : ℕ → Record → Type 0) → ((i : ℕ) (r : Record) → At i r l.history → P i r) → ((j : ℕ) (r : Record) → At j r more → P (length l.history + j) r) → (i : ℕ) (r : Record) → At i r H' → P i r
      joined P old new i r at = ⊎_elim (λ h. old i r h) (λ t. subst (λ z. P z r) (sym t.1) (new t.0 r t.2)) (at_joined l.history more i r at)

      accounted : (i : ℕ) (r : Record) → At i r H' → (m : SessionNote) × At r.author m ns' × IsNoted m i r
      accounted = joined (λ i r. (m : SessionNote) × At r.author m ns' × IsNoted m i r)
          (λ i r at. let t = w.accounted i r at in let o = alike_on ns c n n' here like r.author t.0 t.1 (ℕ_discrete r.author c) in (o.0, o.1, alike_accounts t.0 o.0 i r o.2 t.2))
          (λ j r at. let t = new.request j r at in let o = alike_on ns c n n' here like r.author t.0 t.1 (ℕ_discrete r.author c) in
          let seen = (w.pending r.author t.0 t.2.0 t.1 t.2.1).1 in (o.0, o.1, inr (t.2.0, sym o.2.pending ∙ t.2.1, t.2.2, t.2.3 ∙ ap length o.2.answered, far j t.2.0.seen seen)))
        where
          far : (j seen : ℕ) → seen ≤ length l.history → seen ≤ length l.history + j
          far j seen h = omega (arith, h)

      allowed : (i : ℕ) (r : Record) → At i r H' → IsAllowed E l.catalogue r.op
      allowed = joined (λ i r. IsAllowed E l.catalogue r.op) (λ i r at. w.allowed i r at)
          (λ j r at. let t = new.request j r at in subst (λ o. IsAllowed E l.catalogue o) (sym t.2.2) (w.pending r.author t.0 t.2.0 t.1 t.2.1).0)

      ordered : (i j : ℕ) (r s : Record) → At i r H' → At j s H' → i < j → r.author ≡ s.author → r.seq < s.seq
      ordered i j r s at_i at_j lt e =
          ⊎_elim (λ old. ⊎_elim (λ old2. w.ordered i j r s old old2 lt e)
          (λ t. let q = new.request t.0 s t.2 in below_open l ns w q.0 r s i q.1 q.2 q.3 old e) (at_joined l.history more j s at_j))
          (λ t. ⊎_elim (λ old2. let b = at_below l.history j s old2 in let x = t.1 in absurd (omega (arith, b, x, lt)))
          (λ u. let same = new.apart t.0 u.0 r s t.2 u.2 e in let x = t.1 in let y = u.1 in absurd (omega (arith, same, x, y, lt))) (at_joined l.history more j s at_j))
          (at_joined l.history more i r at_i)

      answered : (a : ℕ) (m : SessionNote) (q : ℕ) (u : AnsweredUpdate) → At a m ns' → At q u m.answered → IsRecorded E l.catalogue H' a q u
      answered a m q u at h =
          let o = alike_back ns c n n' here unlike a m at in
          let was = w.answered a o.0 q u o.1 (subst (λ us. At q u us) o.2.answered h) in
          (at_front l.history more u.index _ was.0, reply_front E l.catalogue l.history more u.index u.op (let b = at_below l.history u.index _ was.0 in omega (arith, b)) ∙ was.1)

      opened : (a : ℕ) (m : SessionNote) (o : Pending) → At a m ns' → m.pending ≡ Some o → IsAllowed E l.catalogue o.op × (o.seen ≤ length H')
      opened a m o at h =
          let b = alike_back ns c n n' here unlike a m at in let old = w.pending a b.0 o b.1 (sym b.2.pending ∙ h) in
          (old.0, far o.seen old.1)
        where
          far : (seen : ℕ) → seen ≤ length l.history → seen ≤ length H'
          far seen h = let long = length-append l.history more in omega (arith, long, h)

      pub batch_changes : l'.completed ≤ length l'.history → length l'.history ≤ l'.config.limit → Batches l' ns' → Accounts E l' ns'
      batch_changes done limit b = record {
        allowed = subst (λ h. (i : ℕ) (r : Record) → At i r h → IsAllowed E l'.catalogue r.op) (sym history) (subst (λ z. (i : ℕ) (r : Record) → At i r H' → IsAllowed E z r.op) (sym catalogue) allowed);
        accounted = subst (λ h. (i : ℕ) (r : Record) → At i r h → (m : SessionNote) × At r.author m ns' × IsNoted m i r) (sym history) accounted;
        ordered = subst (λ h. (i j : ℕ) (r s : Record) → At i r h → At j s h → i < j → r.author ≡ s.author → r.seq < s.seq) (sym history) ordered;
        answered = subst (λ h. (a : ℕ) (m : SessionNote) (q : ℕ) (u : AnsweredUpdate) → At a m ns' → At q u m.answered → IsRecorded E l'.catalogue h a q u) (sym history)
            (subst (λ z. (a : ℕ) (m : SessionNote) (q : ℕ) (u : AnsweredUpdate) → At a m ns' → At q u m.answered → IsRecorded E z H' a q u) (sym catalogue) answered);
        pending = subst (λ h. (a : ℕ) (m : SessionNote) (o : Pending) → At a m ns' → m.pending ≡ Some o → IsAllowed E l'.catalogue o.op × (o.seen ≤ length h)) (sym history)
            (subst (λ z. (a : ℕ) (m : SessionNote) (o : Pending) → At a m ns' → m.pending ≡ Some o → IsAllowed E z o.op × (o.seen ≤ length H')) (sym catalogue) opened);
        requested = b.requested;
        placed = b.placed;
        near = b.near;
        once = b.once;
        completed = done;
        limit = limit;
      }

    -- a session that no batch has a request of begins or ends one; the progress stays
    pub request_changes : n'.batch ≡ n.batch
        → ((d k : ℕ) (t : Claim) → IsInBatch ns d k t → t.request.author ≢ c)
        → ((i : ℕ) (r : Record) → At i r l.history → r.author ≡ c → IsNoted n i r → IsNoted n' i r)
        → ((q : ℕ) (u : AnsweredUpdate) → At q u n'.answered → IsRecorded E l.catalogue l.history c q u)
        → ((o : Pending) → n'.pending ≡ Some o → IsAllowed E l.catalogue o.op × (o.seen ≤ length l.history))
        → Accounts E l (set ns c n')
    request_changes batch unclaimed accounted answered opened = record {
      allowed = w.allowed;
      accounted = λ i r at. let t = w.accounted i r at in on i r at t.0 t.1 t.2 (ℕ_discrete r.author c);
      ordered = w.ordered;
      answered = λ a m q u at h. ⊎_elim (λ e. subst (λ z. IsRecorded E l.catalogue l.history z q u) (sym e.0) (answered q u (subst (λ (z : SessionNote). At q u z.answered) (sym e.1) h)))
          (λ e. w.answered a m q u e.1 h) (note_back ns c n n' here a m at);
      pending = λ a m o at h. ⊎_elim (λ e. opened o (ap (λ (z : SessionNote). z.pending) e.1 ∙ h)) (λ e. w.pending a m o e.1 h) (note_back ns c n n' here a m at);
      requested = λ d k t h. let old = back d k t h in let r = w.requested d k t old in (r.0, note_else ns c n n' here t.request.author r.0 (unclaimed d k t old) r.1, r.2);
      placed = λ d k t h. w.placed d k t (back d k t h);
      near = λ d k t h. w.near d k t (back d k t h);
      once = λ d e k j t u h g. w.once d e k j t u (back d k t h) (back e j u g);
      completed = w.completed;
      limit = w.limit;
    }
      where
        back : (d k : ℕ) (t : Claim) → IsInBatch (set ns c n') d k t → IsInBatch ns d k t
        back d k t h = same_batches ns c n n' here batch d k t h

        on : (i : ℕ) (r : Record) → At i r l.history → (m : SessionNote) → At r.author m ns → IsNoted m i r → Dec (r.author ≡ c) → (m : SessionNote) × At r.author m (set ns c n') × IsNoted m i r
        on i r at m there a (yes e) = (n', subst (λ z. At z n' (set ns c n')) (sym e) (note_here ns c n n' here), accounted i r at e (subst (λ z. IsNoted z i r) (at_one ns c m n (subst (λ z. At z m ns) e there) here) a))
        on i r at m there a (no ne) = (m, note_else ns c n n' here r.author m ne there, a)
