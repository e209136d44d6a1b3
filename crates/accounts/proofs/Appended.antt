-- What the log takes keeps the account of all notes.
use Rattle.std.proofs.Common.{◌≡◌, ◌≢◌, ℕ, ◌+◌, ◌<◌, ◌≤◌, ◌⊎◌, List, ◌++◌, map, length, take, set, sym, refl, ap, ◌∙◌, subst, ⊎_elim, arith, Some, None, length-append}
use Rattle.std.proofs.lemmas.Bool.{cases_lt}
use Rattle.std.proofs.lemmas.Option.{same_Some}
use native.Mathlib.Decide.{ℕ_discrete}
use Rattle.atomic_table.proofs.Lists.{set_again, set_here}
use Rattle.oplog.specs.History.{Meaning}
use Rattle.oplog.specs.declared.configuration.Sizes.{Sizes}
use Rattle.oplog.specs.declared.records.Record.{Record}
use Rattle.ownlock.specs.Seats.{At}
use Rattle.accounts.proofs.Keeps.{Batches, IsNew, batch_changes}
use Rattle.accounts.proofs.Lists.{at_behind, at_front, at_joined}
use Rattle.accounts.proofs.Moved.{begins_like, claim_accounts, collect_accounts, noted_accounts, post_accounts, reply_accounts, some_none}
use Rattle.accounts.proofs.Parts.{Alike, alike_on, alike_request, batch_back, placed_back, taken_back, taken_on}
use Rattle.oplog.specs.Sessions.{IsSessionOf, session}
use Rattle.accounts.specs.Accounts.{Accounts, HasNoRecord, IsInBatch, IsNoted, IsPlacedIn, IsRequest, IsAllowed, IsRecorded}
use Rattle.accounts.specs.Agreement.{AgreesWith, Answers, DeskAgrees, IsUnclaimed, StageAgrees}
use Rattle.accounts.specs.Moves.{Claims, Collects, DeskMove, LogMove, Moves, Posts, Replies, placed_from, record_of}
use Rattle.combiner.specs.Desks.{DeskView}
use Rattle.combiner.specs.declared.slots.Slot.{Slot}
use Rattle.combiner.specs.declared.slots.Stage.TheVariants.{Answered}
use Rattle.combiner.specs.declared.slots.Reply.{Reply}
use Rattle.accounts.specs.Values.{StoreValue, TheDesk, TheLog, TheReplica}
use Rattle.accounts.specs.declared.sessions.AnsweredUpdate.{AnsweredUpdate}
use Rattle.accounts.specs.declared.sessions.Claim.{Claim}
use Rattle.accounts.specs.declared.sessions.Pending.{Pending}
use Rattle.accounts.specs.declared.sessions.Progress.{Progress}
use Rattle.accounts.specs.declared.sessions.SessionNote.{SessionNote}
use Rattle.ownlock.proofs.Export.{at_below, at_one}

module _ {C M : Type 0} (E : Meaning C M) where
  module _ (l l' : Progress C) (ns : List SessionNote) (c : ℕ) (n : SessionNote) (w : Accounts E l ns) (here : At c n ns) (config : l'.config ≡ l.config) (catalogue : l'.catalogue ≡ l.catalogue) where
    -- the completed tail rises alone
    pub finish_accounts : l'.history ≡ l.history → l'.completed ≤ length l'.history → Accounts E l' ns
    finish_accounts same done = record {
      allowed = subst (λ h. (i : ℕ) (r : Record) → At i r h → IsAllowed E l'.catalogue r.op) (sym same) (subst (λ z. (i : ℕ) (r : Record) → At i r l.history → IsAllowed E z r.op) (sym catalogue) w.allowed);
      accounted = subst (λ h. (i : ℕ) (r : Record) → At i r h → (m : SessionNote) × At r.author m ns × IsNoted m i r) (sym same) w.accounted;
      ordered = subst (λ h. (i j : ℕ) (r s : Record) → At i r h → At j s h → i < j → r.author ≡ s.author → r.seq < s.seq) (sym same) w.ordered;
      answered = subst (λ h. (a : ℕ) (m : SessionNote) (q : ℕ) (u : AnsweredUpdate) → At a m ns → At q u m.answered → IsRecorded E l'.catalogue h a q u) (sym same)
          (subst (λ z. (a : ℕ) (m : SessionNote) (q : ℕ) (u : AnsweredUpdate) → At a m ns → At q u m.answered → IsRecorded E z l.history a q u) (sym catalogue) w.answered);
      pending = subst (λ h. (a : ℕ) (m : SessionNote) (o : Pending) → At a m ns → m.pending ≡ Some o → IsAllowed E l'.catalogue o.op × (o.seen ≤ length h)) (sym same)
          (subst (λ z. (a : ℕ) (m : SessionNote) (o : Pending) → At a m ns → m.pending ≡ Some o → IsAllowed E z o.op × (o.seen ≤ length l.history)) (sym catalogue) w.pending);
      requested = w.requested;
      placed = subst (λ h. (d k : ℕ) (t : Claim) → IsInBatch ns d k t → IsPlacedIn h t) (sym same) w.placed;
      near = subst (λ z. (d k : ℕ) (t : Claim) → IsInBatch ns d k t → (node : ℕ) × IsSessionOf z node d × IsSessionOf z node t.request.author) (sym config) w.near;
      once = w.once;
      completed = done;
      limit = let long = ap length same in let top = ap (λ (z : Sizes). z.limit) config in let was = w.limit in omega (arith, long, top, was);
    }

    module _ (k : ℕ) (unplaced : (j : ℕ) (t : Claim) → At j t n.batch → t.index ≡ None) (history : l'.history ≡ l.history ++ map record_of (take k n.batch)) where
      abbrev more : List Record
      more = map record_of (take k n.batch)

      abbrev appended : SessionNote
      appended = record n { batch = placed_from (length l.history) k n.batch }

      like : Alike n appended
      like = record { answered = refl; pending = refl }

      own : (j : ℕ) (t : Claim) → At j t n.batch → IsInBatch ns c j t
      own j t h = (n, here, h)

      pub new : IsNew E l ns more
      new = record {
        request = λ j r at. let b = taken_back k n.batch j r at in let q = w.requested c j b.0 (own j b.0 b.1) in
            subst (λ z. (m : SessionNote) × At z.author m ns × IsRequest m z × HasNoRecord l.history z.author z.seq) (sym b.2)
            (q.0, q.1, q.2, (w.placed c j b.0 (own j b.0 b.1)).1 (unplaced j b.0 b.1));
        apart = λ i j r s at at2 e. let b = taken_back k n.batch i r at in let d = taken_back k n.batch j s at2 in
            (w.once c c i j b.0 d.0 (own i b.0 b.1) (own j d.0 d.1) (ap (λ (z : Record). z.author) (sym b.2) ∙ (e ∙ ap (λ (z : Record). z.author) d.2))).1;
      }

      back : (d j : ℕ) (u : Claim) → IsInBatch (set ns c appended) d j u → ((d ≡ c) × At j u (placed_from (length l.history) k n.batch)) ⊎ ((d ≢ c) × IsInBatch ns d j u)
      back d j u h = batch_back ns c n appended here d j u h

      pub was : (d j : ℕ) (u : Claim) → IsInBatch (set ns c appended) d j u → (t : Claim) × IsInBatch ns d j t × (u.request ≡ t.request)
      was d j u h = ⊎_elim (λ a. let p = placed_back (length l.history) k n.batch j u a.1 in (p.0, subst (λ z. IsInBatch ns z j p.0) (sym a.0) (own j p.0 p.1), p.2)) (λ a. (u, a.1, refl)) (back d j u h)

      -- a request that isn't among the first k has no record after either
      none_still : (d j : ℕ) (t : Claim) → IsInBatch ns d j t → (d ≡ c → k ≤ j) → HasNoRecord l.history t.request.author t.request.seq → HasNoRecord (l.history ++ more) t.request.author t.request.seq
      none_still d j t h beyond none i r at e =
          ⊎_elim (λ old. none i r old e)
          (λ b. let f = taken_back k n.batch b.0 r b.2 in
          let o = w.once d c j b.0 t f.0 h (own b.0 f.0 f.1) (sym e ∙ ap (λ (z : Record). z.author) f.2) in
          let lt = f.3 in let le = beyond o.0 in let same = o.1 in absurd (omega (arith, lt, le, same)))
          (at_joined l.history more i r at)

      placed_now : (d j : ℕ) (u : Claim) → IsInBatch (set ns c appended) d j u → IsPlacedIn (l.history ++ more) u
      placed_now d j u h = ⊎_elim (λ a. mine a.0 (placed_back (length l.history) k n.batch j u a.1)) (λ a. theirs a.0 a.1) (back d j u h)
        where
          theirs : d ≢ c → IsInBatch ns d j u → IsPlacedIn (l.history ++ more) u
          theirs ne g = let p = w.placed d j u g in ((λ i e. at_front l.history more i u.request (p.0 i e)), (λ e. none_still d j u g (λ z. absurd (ne z)) (p.1 e)))

          mine : d ≡ c → (t : Claim) × At j t n.batch × (u.request ≡ t.request) × ((j < k) → u.index ≡ Some (length l.history + j)) × ((k ≤ j) → u.index ≡ t.index) → IsPlacedIn (l.history ++ more) u
          mine is (t, at, same, low, high) = (
            (λ i e. ⊎_elim (λ lt. here_now i lt e) (λ le. absurd (some_none i u.index e (high le ∙ unplaced j t at))) (cases_lt j k)),
            (λ e. ⊎_elim (λ lt. absurd (some_none (length l.history + j) u.index (low lt) e)) (λ le. missing le) (cases_lt j k)),
          )
            where
              here_now : (i : ℕ) → j < k → u.index ≡ Some i → At i u.request (l.history ++ more)
              here_now i lt e = subst (λ z. At z u.request (l.history ++ more)) (same_Some (length l.history + j) i (sym (low lt) ∙ e))
                  (subst (λ (z : Record). At (length l.history + j) z (l.history ++ more)) (sym same) (at_behind l.history more j t.request (taken_on k n.batch j t at lt)))

              missing : k ≤ j → HasNoRecord (l.history ++ more) u.request.author u.request.seq
              missing le = subst (λ (z : Record). HasNoRecord (l.history ++ more) z.author z.seq) (sym same) (none_still c j t (own j t at) (λ _. le) ((w.placed c j t (own j t at)).1 (unplaced j t at)))

      batches : Batches E l' (set ns c appended)
      batches = record {
        requested = λ d j u h. let t = was d j u h in let r = w.requested d j t.0 t.1 in let o = alike_on ns c n appended here like t.0.request.author r.0 r.1 (ℕ_discrete t.0.request.author c) in
            subst (λ (z : Record). (m : SessionNote) × At z.author m (set ns c appended) × IsRequest m z) (sym t.2) (o.0, o.1, alike_request r.0 o.0 t.0.request o.2 r.2);
        placed = subst (λ h. (d j : ℕ) (u : Claim) → IsInBatch (set ns c appended) d j u → IsPlacedIn h u) (sym history) placed_now;
        near = λ d j u h. let t = was d j u h in let r = w.near d j t.0 t.1 in
            subst (λ z. (node : ℕ) × IsSessionOf z node d × IsSessionOf z node u.request.author) (sym config)
            (subst (λ (z : Record). (node : ℕ) × IsSessionOf l.config node d × IsSessionOf l.config node z.author) (sym t.2) r);
        once = λ d e j i t u h g q. let a = was d j t h in let b = was e i u g in
            w.once d e j i a.0 b.0 a.1 b.1 (ap (λ (z : Record). z.author) (sym a.2) ∙ (q ∙ ap (λ (z : Record). z.author) b.2));
      }

      pub append_accounts : l'.completed ≤ length l'.history → length l'.history ≤ l'.config.limit → Accounts E l' (set ns c appended)
      append_accounts done limit = batch_changes E l l' ns c n appended w here more catalogue history new like done limit batches

  log_accounts : (l l' : Progress C) (ns : List SessionNote) (c : ℕ) (n n' : SessionNote) → Accounts E l ns → At c n ns → LogMove E l n l' n' → Accounts E l' (set ns c n')
  log_accounts l l' ns c n n' w here m = ⊎_elim
      (λ keep. let like = begins_like E l n n' keep.1 in
      finish_accounts l l' (set ns c n') c n' (noted_accounts E l ns c n w here n' like.0 like.1) (set_here ns c n' (at_below ns c n here)) m.config m.catalogue keep.0
      (let low = w.completed in let still = m.completed in let long = ap length keep.0 in omega (arith, low, still, long)))
      (λ t. let limit = t.limit in let top = ap (λ (z : Sizes). z.limit) m.config in let low = w.completed in let still = m.completed in let long = ap length t.history ∙ length-append l.history (map record_of (take t.count n.batch)) in
      subst (λ z. Accounts E l' (set ns c z)) (sym t.note) (append_accounts l l' ns c n w here m.config m.catalogue t.count t.unplaced t.history (omega (arith, low, still, long)) (omega (arith, limit, top))))
      m.appends

  -- what a desk tells of a slot that is answered
  pub collected : (l : Progress C) (ns : List SessionNote) (c : ℕ) (n : SessionNote) → Accounts E l ns → At c n ns → (x : DeskView) → DeskAgrees E l ns x
      → (s : ℕ) (slot : Slot) (o : Pending) (reply : Reply) → c ≡ session l.config x.node s → At s slot x.slots → slot.stage ≡ Answered reply → n.pending ≡ Some o → Answers E l c (length n.answered) o.op reply × IsUnclaimed ns c
  collected l ns c n w here x desk s slot o reply is at stage asked =
      let told = desk.each s slot at in
      let there : At c told.0 ns = subst (λ z. At z told.0 ns) (sym is) told.1 in
      let same : told.0 ≡ n = at_one ns c told.0 n there here in
      let st : StageAgrees E l ns desk.combiner c n (Answered reply) = subst (λ z. StageAgrees E l ns desk.combiner c n z) stage (subst (λ m. StageAgrees E l ns desk.combiner c m slot.stage) same (subst (λ z. StageAgrees E l ns desk.combiner z told.0 slot.stage) (sym is) told.3)) in
      let one : st.0 ≡ o = same_Some st.0 o (sym st.1 ∙ asked) in
      (subst (λ (z : Pending). Answers E l c (length n.answered) z.op reply) one st.2, st.3)

  desk_accounts : (l : Progress C) (ns : List SessionNote) (c : ℕ) (n n' : SessionNote) (x : DeskView) → Accounts E l ns → At c n ns → DeskAgrees E l ns x → IsSessionOf l.config x.node c → DeskMove E x c l n n' → Accounts E l (set ns c n')
  desk_accounts l ns c n n' x w here desk mine (Posts o idle may seen e) = subst (λ z. Accounts E l (set ns c z)) (sym e) (post_accounts E l ns c n w here o idle.0 may seen)
  desk_accounts l ns c n n' x w here desk mine (Claims empty e) = subst (λ z. Accounts E l (set ns c z)) (sym e) (claim_accounts E l ns c n w here x desk mine empty)
  desk_accounts l ns c n n' x w here desk mine (Replies e) = subst (λ z. Accounts E l (set ns c z)) (sym e) (reply_accounts E l ns c n w here)
  desk_accounts l ns c n n' x w here desk mine (Collects s slot o reply is at stage asked e) =
      let t = collected l ns c n w here x desk s slot o reply is at stage asked in
      subst (λ z. Accounts E l (set ns c z)) (sym e) (collect_accounts E l ns c n w here o reply asked t.0 t.1)

  pub moves_accounts : (p c : ℕ) (x : StoreValue M) (l l' : Progress C) (n n' : SessionNote) (ns : List SessionNote) → Accounts E l ns → At c n ns → AgreesWith E p l ns x → Moves E p c x l n l' n' → Accounts E l' (set ns c n')
  moves_accounts p c (TheLog x) l l' n n' ns w here a m = log_accounts l l' ns c n n' w here m.1
  moves_accounts p c (TheReplica x) l l' n n' ns w here a m = subst (λ z. Accounts E z (set ns c n')) (sym m.0) (⊎_elim (λ e. subst (λ z. Accounts E l (set ns c z)) (sym e) (subst (λ z. Accounts E l z) (sym (set_again ns c n here)) w))
      (λ h. noted_accounts E l ns c n w here n' (record { answered = ap (λ (z : SessionNote). z.answered) (sym h.5); pending = ap (λ (z : SessionNote). z.pending) (sym h.5) }) (ap (λ (z : SessionNote). z.batch) h.5)) m.1)
  moves_accounts p c (TheDesk x) l l' n n' ns w here a m = subst (λ z. Accounts E z (set ns c n')) (sym m.0) (⊎_elim (λ e. subst (λ z. Accounts E l (set ns c z)) (sym e) (subst (λ z. Accounts E l z) (sym (set_again ns c n here)) w)) (λ d. desk_accounts l ns c n n' x w here a.2 d.0 d.1) m.1)
