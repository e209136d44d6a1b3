-- Each move keeps the account of all notes.
use Rattle.std.proofs.Common.{◌≡◌, ◌≢◌, ℕ, zero, suc, ◌+◌, ◌≤◌, ◌⊎◌, List, [], ◌∷◌, ◌++◌, length, set, sym, refl, ap, ◌∙◌, subst, inl, inr, ⊎_elim, arith, append-nil, Option, Some, None}
use Rattle.std.proofs.lemmas.Bool.{cases_lt}
use Rattle.std.proofs.lemmas.Option.{same_Some}
use mathlib.Core.Option.{some-injective}
use native.Mathlib.Decide.{ℕ_discrete}
use Rattle.oplog.specs.History.{Meaning, reply_at}
use Rattle.oplog.specs.Operations.{Operation}
use Rattle.oplog.specs.declared.records.Record.{Record}
use Rattle.ownlock.specs.Seats.{At}
use Rattle.accounts.proofs.Keeps.{Batches, IsNew, batch_changes, request_changes}
use Rattle.accounts.proofs.Lists.{at_behind, at_front, at_joined, at_none}
use Rattle.accounts.proofs.Parts.{Alike, alike_on, alike_request, batch_back, same_batches, posted_back, posted_once, author_is}
use Rattle.oplog.specs.Sessions.{IsSessionOf, session}
use Rattle.accounts.specs.Accounts.{Accounts, HasNoRecord, IsInBatch, IsNoted, IsRequest, IsAllowed, IsRecorded}
use Rattle.accounts.specs.Agreement.{Answers, DeskAgrees, IsUnclaimed, StageAgrees}
use Rattle.accounts.specs.Moves.{Begins, MayBegin, answered_with, posted_with, unplaced}
use Rattle.combiner.specs.Desks.{DeskView, batch_of, first_author}
use Rattle.combiner.specs.declared.slots.Stage.{Stage}
use Rattle.combiner.specs.declared.slots.Stage.TheVariants.{Posted}
use Rattle.combiner.specs.declared.slots.Reply.{Reply}
use Rattle.combiner.specs.declared.slots.Reply.TheVariants.{Ended, Placed}
use Rattle.accounts.specs.declared.sessions.AnsweredUpdate.{AnsweredUpdate}
use Rattle.accounts.specs.declared.sessions.Claim.{Claim}
use Rattle.accounts.specs.declared.sessions.Pending.{Pending}
use Rattle.accounts.specs.declared.sessions.Progress.{Progress}
use Rattle.accounts.specs.declared.sessions.SessionNote.{SessionNote}
use Rattle.ownlock.proofs.Export.{at_below, at_one}

abbrev updated : ℕ → Pending → ℕ → AnsweredUpdate
updated i o reply = record { index = i; op = o.op; reply = reply }

abbrev IsThere : {A : Type 0} → Option A → Type 0
IsThere (Some b) = Unit {0}
IsThere None = ⊥

pub some_none : {A : Type 0} (a : A) (o : Option A) → o ≡ Some a → o ≡ None → ⊥
some_none a o e f = subst (λ z. IsThere z) (sym e ∙ f) tt

module _ {C M : Type 0} (E : Meaning C M) where
  -- a read is accounted for in nothing
  pub begins_like : (l : Progress C) (n n' : SessionNote) → MayBegin E l n n' → Alike n n' × (n'.batch ≡ n.batch)
  begins_like l n n' may = ⊎_elim like (λ b. like_begun b) may
    where
      like : n' ≡ n → Alike n n' × (n'.batch ≡ n.batch)
      like e = (record { answered = ap (λ (z : SessionNote). z.answered) (sym e); pending = ap (λ (z : SessionNote). z.pending) (sym e) }, ap (λ (z : SessionNote). z.batch) e)

      like_begun : Begins E l n n' → Alike n n' × (n'.batch ≡ n.batch)
      like_begun b = (
        record { answered = ap (λ (z : SessionNote). z.answered) (sym b.note); pending = ap (λ (z : SessionNote). z.pending) (sym b.note) },
        ap (λ (z : SessionNote). z.batch) b.note,
      )

  -- a session's request has one place
  pub one_place : (l : Progress C) (ns : List SessionNote) → Accounts E l ns → (i j : ℕ) (r s : Record) → At i r l.history → At j s l.history → r.author ≡ s.author → r.seq ≡ s.seq → i ≡ j
  one_place l ns w i j r s h g e q =
      ⊎_elim (λ lt. let b = w.ordered i j r s h g lt e in absurd (omega (arith, b, q)))
      (λ le. ⊎_elim (λ lt. let b = w.ordered j i s r g h lt (sym e) in absurd (omega (arith, b, q))) (λ le2. omega arith) (cases_lt j i)) (cases_lt i j)

  module _ (l : Progress C) (ns : List SessionNote) (c : ℕ) (n : SessionNote) (w : Accounts E l ns) (here : At c n ns) where
    pub none_new : IsNew E l ns []
    none_new = record { request = λ j r at. absurd (at_none j r at); apart = λ i j r s at at2 e. absurd (at_none i r at) }

    -- a note whose batch has no claim that the old one has not
    batches_back : (n' : SessionNote) → ((d k : ℕ) (t : Claim) → IsInBatch (set ns c n') d k t → IsInBatch ns d k t) → Alike n n' → Batches E l (set ns c n')
    batches_back n' back like = record {
      requested = λ d k t h. let r = w.requested d k t (back d k t h) in let o = alike_on ns c n n' here like t.request.author r.0 r.1 (ℕ_discrete t.request.author c) in (o.0, o.1, alike_request r.0 o.0 t.request o.2 r.2);
      placed = λ d k t h. w.placed d k t (back d k t h);
      near = λ d k t h. w.near d k t (back d k t h);
      once = λ d e k j t u h g q. w.once d e k j t u (back d k t h) (back e j u g) q;
    }

    -- who has no batch left
    batches_without : (n' : SessionNote) → n'.batch ≡ [] → Alike n n' → Batches E l (set ns c n')
    batches_without n' none like = batches_back n' back like
      where
        back : (d k : ℕ) (t : Claim) → IsInBatch (set ns c n') d k t → IsInBatch ns d k t
        back d k t h = ⊎_elim (λ e. absurd (at_none k t (subst (λ b. At k t b) none e.1))) (λ e. e.1) (batch_back ns c n n' here d k t h)

    -- a note that changes in nothing that is accounted for
    pub noted_accounts : (n' : SessionNote) → Alike n n' → n'.batch ≡ n.batch → Accounts E l (set ns c n')
    noted_accounts n' like same = batch_changes E l l ns c n n' w here [] refl (sym (append-nil l.history)) none_new like w.completed w.limit
        (batches_back n' (same_batches ns c n n' here same) like)

    pub reply_accounts : Accounts E l (set ns c (record n { batch = [] }))
    reply_accounts = batch_changes E l l ns c n (record n { batch = [] }) w here [] refl (sym (append-nil l.history)) none_new (record { answered = refl; pending = refl }) w.completed w.limit
        (batches_without (record n { batch = [] }) refl (record { answered = refl; pending = refl }))

    pub unclaimed_idle : n.pending ≡ None → (d k : ℕ) (t : Claim) → IsInBatch ns d k t → t.request.author ≢ c
    unclaimed_idle idle d k t h e =
        let r = w.requested d k t h in
        let same : r.0 ≡ n = at_one ns c r.0 n (subst (λ z. At z r.0 ns) e r.1) here in
        some_none r.2.0 r.0.pending r.2.1 (ap (λ (z : SessionNote). z.pending) same ∙ idle)

    pub post_accounts : (o : Pending) → n.pending ≡ None → IsAllowed E l.catalogue o.op → o.seen ≤ length l.history → Accounts E l (set ns c (posted_with n o))
    post_accounts o idle may seen = request_changes E l l ns c n (posted_with n o) w here refl (unclaimed_idle idle) accounted
        (λ q u h. w.answered c n q u here h)
        (λ o2 e. let same = same_Some o o2 e in subst (λ (z : Pending). IsAllowed E l.catalogue z.op × (z.seen ≤ length l.history)) same (may, seen))
      where
        accounted : (i : ℕ) (r : Record) → At i r l.history → r.author ≡ c → IsNoted n i r → IsNoted (posted_with n o) i r
        accounted i r at e (inl h) = inl h
        accounted i r at e (inr h) = absurd (some_none h.0 n.pending h.1 idle)

    -- the session is answered
    pub placed_accounts : (o : Pending) (i reply : ℕ) → n.pending ≡ Some o → At i (record { author = c; seq = length n.answered; op = o.op }) l.history → reply_at E l.catalogue l.history i o.op ≡ Some reply → IsUnclaimed ns c
        → Accounts E l (set ns c (answered_with n o.op (Placed i reply)))
    placed_accounts o i reply asked there told free = request_changes E l l ns c n (answered_with n o.op (Placed i reply)) w here refl free accounted answered (λ o2 e. absurd (some_none o2 None e refl))
      where
        accounted : (j : ℕ) (r : Record) → At j r l.history → r.author ≡ c → IsNoted n j r → IsNoted (answered_with n o.op (Placed i reply)) j r
        accounted j r at e (inl h) = inl (h.0, at_front n.answered _ r.seq _ h.1)
        accounted j r at e (inr h) =
            let same : h.0 ≡ o = same_Some h.0 o (sym h.1 ∙ asked) in
            let place : j ≡ i = one_place l ns w j i r _ at there e h.3 in
            let it : At (length n.answered + 0) (updated i o reply) (n.answered ++ updated i o reply ∷ []) = at_behind n.answered (updated i o reply ∷ []) 0 (updated i o reply) refl in
            inl (
              reply,
              subst (λ z. At z (record { index = j; op = r.op; reply = reply }) (n.answered ++ updated i o reply ∷ [])) (plus_zero (length n.answered) r.seq h.3)
                  (subst (λ (z : AnsweredUpdate). At (length n.answered + 0) z (n.answered ++ updated i o reply ∷ [])) (λ k. record { index = sym place k; op = (ap (λ (z : Pending). z.op) (sym same) ∙ sym h.2) k; reply = reply }) it),
            )
          where
            plus_zero : (a b : ℕ) → b ≡ a → a + 0 ≡ b
            plus_zero a b e = omega (arith, e)

        answered : (q : ℕ) (u : AnsweredUpdate) → At q u (n.answered ++ updated i o reply ∷ []) → IsRecorded E l.catalogue l.history c q u
        answered q u h = ⊎_elim (λ old. w.answered c n q u here old) (λ t. last t.0 t.1 t.2) (at_joined n.answered (updated i o reply ∷ []) q u h)
          where
            plus_zero : (a b : ℕ) → b ≡ a + 0 → a ≡ b
            plus_zero a b e = omega (arith, e)

            last : (j : ℕ) → q ≡ length n.answered + j → At j u (updated i o reply ∷ []) → IsRecorded E l.catalogue l.history c q u
            last zero e g = subst (λ (z : AnsweredUpdate). IsRecorded E l.catalogue l.history c q z) (some-injective (updated i o reply) u g)
                (subst (λ z. At i (record { author = c; seq = z; op = o.op }) l.history) (plus_zero (length n.answered) q e) there, told)
            last (suc j) e g = absurd (at_none j u g)

    ended_accounts : (o : Pending) → n.pending ≡ Some o → HasNoRecord l.history c (length n.answered) → IsUnclaimed ns c → Accounts E l (set ns c (answered_with n o.op Ended))
    ended_accounts o asked none free = request_changes E l l ns c n (answered_with n o.op Ended) w here refl free accounted (λ q u h. w.answered c n q u here h) (λ o2 e. absurd (some_none o2 None e refl))
      where
        accounted : (j : ℕ) (r : Record) → At j r l.history → r.author ≡ c → IsNoted n j r → IsNoted (answered_with n o.op Ended) j r
        accounted j r at e (inl h) = inl h
        accounted j r at e (inr h) = absurd (none j r at e h.3)

    pub collect_accounts : (o : Pending) (reply : Reply) → n.pending ≡ Some o → Answers E l c (length n.answered) o.op reply → IsUnclaimed ns c → Accounts E l (set ns c (answered_with n o.op reply))
    collect_accounts o (Placed i reply) asked h free = placed_accounts o i reply asked h.1 h.2 free
    collect_accounts o Ended asked h free = ended_accounts o asked h.1 free

    -- the posted requests of its desk go to the session's batch
    module _ (x : DeskView) (desk : DeskAgrees E l ns x) (mine : IsSessionOf l.config x.node c) (empty : n.batch ≡ []) where
      abbrev claimed : SessionNote
      claimed = record n { batch = unplaced (batch_of x).records }

      -- what the desk tells of a request that is posted
      record Asked (t : Claim) : Type 0 where
        note : SessionNote
        at : At t.request.author note ns
        is : IsRequest note t.request
        unplaced : t.index ≡ None
        none : HasNoRecord l.history t.request.author t.request.seq
        free : IsUnclaimed ns t.request.author
        near : IsSessionOf l.config x.node t.request.author

      stage_tells : (m : SessionNote) (a : ℕ) (st : Stage) (op : Operation) → st ≡ Posted op → StageAgrees E l ns desk.combiner a m st → StageAgrees E l ns desk.combiner a m (Posted op)
      stage_tells m a st op e h = subst (λ z. StageAgrees E l ns desk.combiner a m z) e h

      asked : (k : ℕ) (t : Claim) → At k t (unplaced (batch_of x).records) → Asked t
      asked k t h =
          let p = posted_back (first_author x) x.slots k t h in
          let told = desk.each p.slot p.posted p.at in
          let st = stage_tells told.0 (session l.config x.node p.slot) p.posted.stage p.op p.stage told.3 in
          let is0 = p.is ∙ ap (λ z. record { request = record { author = z; seq = p.posted.count; op = p.op }; index = None }) (author_is l.config x p.slot desk.slots) in
          subst Asked (sym is0) (record {
            note = told.0;
            at = told.1;
            is = (st.0, st.1, st.2, told.2);
            unplaced = refl;
            none = subst (λ z. HasNoRecord l.history (session l.config x.node p.slot) z) (sym told.2) st.3;
            free = st.4;
            near = (p.slot, (let b = at_below x.slots p.slot p.posted p.at in let long = desk.slots in omega (arith, b, long)), refl, mine.3);
          })

      back : (d k : ℕ) (t : Claim) → IsInBatch (set ns c claimed) d k t → ((d ≡ c) × At k t (unplaced (batch_of x).records)) ⊎ ((d ≢ c) × IsInBatch ns d k t)
      back d k t h = batch_back ns c n claimed here d k t h

      claim_once : (d e k j : ℕ) (t u : Claim) → IsInBatch (set ns c claimed) d k t → IsInBatch (set ns c claimed) e j u → t.request.author ≡ u.request.author → (d ≡ e) × (k ≡ j)
      claim_once d e k j t u h g q =
          ⊎_elim (λ a. ⊎_elim (λ b. (a.0 ∙ sym b.0, posted_once (first_author x) x.slots k j t u a.1 b.1 q))
          (λ b. absurd ((asked k t a.1).free e j u b.1 (sym q))) (back e j u g))
          (λ a. ⊎_elim (λ b. absurd ((asked j u b.1).free d k t a.1 q)) (λ b. w.once d e k j t u a.1 b.1 q) (back e j u g))
          (back d k t h)

      like : Alike n claimed
      like = record { answered = refl; pending = refl }

      now : (t : Claim) → ((m : SessionNote) × At t.request.author m ns × IsRequest m t.request) → (m : SessionNote) × At t.request.author m (set ns c claimed) × IsRequest m t.request
      now t r = let o = alike_on ns c n claimed here like t.request.author r.0 r.1 (ℕ_discrete t.request.author c) in (o.0, o.1, alike_request r.0 o.0 t.request o.2 r.2)

      claim_batches : Batches E l (set ns c claimed)
      claim_batches = record {
        requested = λ d k t h. ⊎_elim (λ a. let p = asked k t a.1 in now t (p.note, p.at, p.is)) (λ a. now t (w.requested d k t a.1)) (back d k t h);
        placed = λ d k t h. ⊎_elim (λ a. let p = asked k t a.1 in ((λ i e. absurd (some_none i t.index e p.unplaced)), (λ _. p.none))) (λ a. w.placed d k t a.1) (back d k t h);
        near = λ d k t h. ⊎_elim (λ a. (x.node, subst (λ z. IsSessionOf l.config x.node z) (sym a.0) mine, (asked k t a.1).near)) (λ a. w.near d k t a.1) (back d k t h);
        once = claim_once;
      }

      pub claim_accounts : Accounts E l (set ns c claimed)
      claim_accounts = batch_changes E l l ns c n claimed w here [] refl (sym (append-nil l.history)) none_new like w.completed w.limit claim_batches
