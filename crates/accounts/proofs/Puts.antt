-- What is put back at a desk agrees.
use Rattle.std.proofs.Common.{length-set, ◌≡◌, ◌≢◌, ℕ, zero, suc, ◌+◌, ◌*◌, ◌<◌, ◌≤◌, List, [], ◌∷◌, map, length, set, sym, refl, ap, ◌∙◌, subst, inr, ⊎_elim, arith, length-append, Some, None, slice_get}
use Rattle.std.proofs.lemmas.List.{length-map}
use Rattle.std.proofs.lemmas.Option.{same_Some}
use mathlib.Core.Option.{some-injective}
use native.Mathlib.Decide.{ℕ_discrete}
use Rattle.atomic_table.proofs.Lists.{at_set}
use Rattle.oplog.specs.History.{Meaning, reply_at}
use Rattle.oplog.specs.Operations.{Operation}
use Rattle.oplog.specs.declared.configuration.Sizes.{Sizes}
use Rattle.oplog.specs.declared.records.Record.{Record}
use Rattle.ownlock.specs.Seats.{At}
use Rattle.accounts.proofs.Lists.{at_none, one_node}
use Rattle.accounts.proofs.Moved.{some_none}
use Rattle.accounts.proofs.Others.{Undisturbed, same_progress, slot_stays}
use Rattle.accounts.proofs.Parts.{Alike, alike_on, alike_self, batch_back, batch_else, batch_here, note_else, note_here, posted_back, reply_front, same_batches, author_is}
use Rattle.oplog.specs.Sessions.{IsSessionOf, session}
use Rattle.accounts.specs.Accounts.{Accounts, Extends, HasNoRecord, IsInBatch, IsPlacedIn, IsAllowed}
use Rattle.accounts.specs.Agreement.{Answers, DeskAgrees, IsUnclaimed, SlotAgrees, StageAgrees, desk_place, AgreesWith}
use Rattle.accounts.specs.DeskSteps.{ClaimStep, CollectStep, DeskMayPut, DeskPuts, DeskStep, Gives, PostStep, ReplyStep}
use Rattle.accounts.specs.Moves.{Claims, Collects, DeskMove, Posts, Replies, answered_with, posted_with, record_of, unplaced, Moves}
use Rattle.combiner.specs.Desks.{DeskView, BatchView, answer_for, answered_from, batch_of, claimed, first_author, replied}
use Rattle.combiner.specs.declared.slots.Slot.{Slot}
use Rattle.combiner.specs.declared.slots.Stage.{Stage}
use Rattle.combiner.specs.declared.slots.Stage.TheVariants.{Answered, Claimed, Empty, Posted}
use Rattle.combiner.specs.declared.slots.Reply.{Reply}
use Rattle.combiner.specs.declared.slots.Reply.TheVariants.{Ended, Placed}
use Rattle.accounts.specs.Values.{TheDesk, StoreValue}
use Rattle.accounts.specs.declared.sessions.Claim.{Claim}
use Rattle.accounts.specs.declared.sessions.Pending.{Pending}
use Rattle.accounts.specs.declared.sessions.Progress.{Progress}
use Rattle.accounts.specs.declared.sessions.SessionNote.{SessionNote}
use mathlib.Core.Option as kernel
use Rattle.combiner.specs.Slots.{answered_stage, claimed_slot, claimed_stage, counted, with_answer}
use Rattle.accounts.proofs.Desks.{answer_is, answered_at, answered_long, collected_is, none_claimed, posted_is, posted_on}
use Rattle.accounts.specs.Putting.{SeenDeskMayPut}
use Rattle.ownlock.proofs.Export.{at_below, at_one}

abbrev IsStage : Stage → Stage → Type 0
IsStage Empty Empty = Unit {0}
IsStage (Posted op) (Posted op2) = Unit {0}
IsStage Claimed Claimed = Unit {0}
IsStage (Answered reply) (Answered reply2) = Unit {0}
IsStage _ _ = ⊥

pub at_there : {A : Type 0} (xs : List A) (i : ℕ) → i < length xs → (a : A) × At i a xs
at_there [] i h = absurd (omega arith)
at_there (x ∷ xs) zero h = (x, refl)
at_there (x ∷ xs) (suc i) h = at_there xs i (omega arith)

pub at_mapped : {A B : Type 0} (f : A → B) (xs : List A) (i : ℕ) (b : B) → At i b (map f xs) → (a : A) × At i a xs × (b ≡ f a)
at_mapped f [] i b h = absurd (at_none i b h)
at_mapped f (x ∷ xs) zero b h = (x, refl, sym (some-injective (f x) b h))
at_mapped f (x ∷ xs) (suc i) b h = at_mapped f xs i b h

pub at_map : {A B : Type 0} (f : A → B) (xs : List A) (i : ℕ) (a : A) → At i a xs → At i (f a) (map f xs)
at_map f [] i a h = absurd (at_none i a h)
at_map f (x ∷ xs) zero a h = ap (λ z. kernel.some (f z)) (some-injective x a h)
at_map f (x ∷ xs) (suc i) a h = at_map f xs i a h

pub one_slot : (config : Sizes) (node s t : ℕ) → session config node s ≡ session config node t → s ≡ t
one_slot config node s t e = cancel (node * config.slots) e
  where
    cancel : (b : ℕ) → b + s ≡ b + t → s ≡ t
    cancel b e = omega (arith, e)

module _ {C M : Type 0} (E : Meaning C M) where
  module _ (l : Progress C) (ns : List SessionNote) (c : ℕ) (n n' : SessionNote) (w : Accounts E l ns) (here : At c n ns) (x : DeskView) (desk : DeskAgrees E l ns x) where
    -- a session's own slot changes, and no batch
    own_slot : n'.batch ≡ n.batch → (s : ℕ) (slot : Slot) → c ≡ session l.config x.node s → SlotAgrees E l (set ns c n') desk.combiner c slot → DeskAgrees E l (set ns c n') (record { node = x.node; slots = set x.slots s slot })
    own_slot batch s slot mine agrees = record {
      slots = length-set x.slots s slot ∙ desk.slots;
      combiner = desk.combiner;
      each = λ t other at. ⊎_elim
          (λ e. subst (λ z. SlotAgrees E l (set ns c n') desk.combiner (session l.config x.node z) other) (sym e.0) (subst (λ z. SlotAgrees E l (set ns c n') desk.combiner (session l.config x.node s) z) e.1 (subst (λ z. SlotAgrees E l (set ns c n') desk.combiner z slot) mine agrees)))
          (λ e. slot_stays E l l [] ns (set ns c n') desk.combiner (session l.config x.node t) other w.completed (same_progress E l ns w) (calm t e.0) (desk.each t other e.1))
          (at_set x.slots s t slot other at);
    }
      where
        forth : (d k : ℕ) (t : Claim) → IsInBatch ns d k t → Dec (d ≡ c) → IsInBatch (set ns c n') d k t
        forth d k t (m, at, h) (yes e) = subst (λ z. IsInBatch (set ns c n') z k t) (sym e) (batch_here ns c n n' here k t (subst (λ b. At k t b) (ap (λ (z : SessionNote). z.batch) (at_one ns c m n (subst (λ z. At z m ns) e at) here) ∙ sym batch) h))
        forth d k t h (no ne) = batch_else ns c n n' here d k t ne h

        calm : (t : ℕ) → t ≢ s → Undisturbed E l l ns (set ns c n') desk.combiner (session l.config x.node t)
        calm t ne = record {
          note = λ m at. (m, note_else ns c n n' here (session l.config x.node t) m (λ e. ne (one_slot l.config x.node t s (e ∙ mine))) at, alike_self m);
          free = λ free d k u h. free d k u (same_batches ns c n n' here batch d k u h);
          claimed = λ h. (h.0, h.1, forth desk.combiner h.0 h.1 h.2 (ℕ_discrete desk.combiner c), h.3);
          unheard = λ seq free none. none;
        }

    free_now : n'.batch ≡ n.batch → IsUnclaimed ns c → IsUnclaimed (set ns c n') c
    free_now batch free d k u h = free d k u (same_batches ns c n n' here batch d k u h)

  module _ (known l : Progress C) (ns : List SessionNote) (c : ℕ) (n : SessionNote) (low : known.completed ≤ length known.history) (grown : Extends known l) (w : Accounts E l ns) (here : At c n ns)
      (x : DeskView) (mine : IsSessionOf l.config x.node c) (desk : DeskAgrees E l ns x) where
    told : (s : ℕ) (slot : Slot) → c ≡ session l.config x.node s → At s slot x.slots → (slot.count ≡ length n.answered) × StageAgrees E l ns desk.combiner c n slot.stage
    told s slot is at =
        let t = desk.each s slot at in
        let same : t.0 ≡ n = at_one ns c t.0 n (subst (λ z. At z t.0 ns) (sym is) t.1) here in
        (t.2 ∙ ap (λ (z : SessionNote). length z.answered) same, subst (λ m. StageAgrees E l ns desk.combiner c m slot.stage) same (subst (λ z. StageAgrees E l ns desk.combiner z t.0 slot.stage) (sym is) t.3))

    own : (s : ℕ) → c ≡ session known.config x.node s → c ≡ session l.config x.node s
    own s e = e ∙ ap (λ z. session z x.node s) grown.config

    post_puts : (s : ℕ) (slot : Slot) (op : Operation) → c ≡ session known.config x.node s → At s slot x.slots → slot.stage ≡ Empty → n.begun ≡ None → IsAllowed E known.catalogue op → (n' : SessionNote) → n' ≡ posted_with n (record { op = op; seen = length known.history })
        → DeskMove E x c l n n' × DeskAgrees E l (set ns c n') (record { node = x.node; slots = set x.slots s (record { stage = Posted op; count = slot.count }) })
    post_puts s slot op is at empty unread may n' e = (
      Posts asked (idle, unread) (subst (λ z. IsAllowed E z op) grown.catalogue may) seen e,
      own_slot l ns c n n' w here x desk batch s (record { stage = Posted op; count = slot.count }) (own s is) (
        n',
        note_here ns c n n' here,
        t.0 ∙ sym answered,
        (asked, ap (λ (z : SessionNote). z.pending) e, refl, subst (λ z. HasNoRecord l.history c z) (sym answered) none, free_now l ns c n n' w here x desk batch free),
      ),
    )
      where
        asked : Pending
        asked = record { op = op; seen = length known.history }

        t : (slot.count ≡ length n.answered) × StageAgrees E l ns desk.combiner c n slot.stage
        t = told s slot (own s is) at

        idle : n.pending ≡ None
        idle = subst (λ st. StageAgrees E l ns desk.combiner c n st) empty t.1

        seen : length known.history ≤ length l.history
        seen = let long = ap length grown.history.1 ∙ length-append known.history grown.history.0 in omega (arith, long)

        batch : n'.batch ≡ n.batch
        batch = ap (λ (z : SessionNote). z.batch) e

        answered : length n'.answered ≡ length n.answered
        answered = ap (λ (z : SessionNote). length z.answered) e

        none : HasNoRecord l.history c (length n.answered)
        none i r at e q =
            let a = w.accounted i r at in
            let same : a.0 ≡ n = at_one ns c a.0 n (subst (λ z. At z a.0 ns) e a.1) here in
            ⊎_elim (λ h. let b = at_below n.answered r.seq _ (subst (λ (z : SessionNote). At r.seq (record { index = i; op = r.op; reply = h.0 }) z.answered) same h.1) in omega (arith, b, q))
            (λ h. some_none h.0 a.0.pending h.1 (ap (λ (z : SessionNote). z.pending) same ∙ idle)) a.2

        free : IsUnclaimed ns c
        free d k u h e =
            let r = w.requested d k u h in
            let same : r.0 ≡ n = at_one ns c r.0 n (subst (λ z. At z r.0 ns) e r.1) here in
            some_none r.2.0 r.0.pending r.2.1 (ap (λ (z : SessionNote). z.pending) same ∙ idle)

    collect_puts : (s : ℕ) (slot : Slot) (o : Pending) (reply : Reply) → c ≡ session known.config x.node s → At s slot x.slots → slot.stage ≡ Answered reply → n.pending ≡ Some o → (n' : SessionNote) → n' ≡ answered_with n o.op reply
        → DeskMove E x c l n n' × DeskAgrees E l (set ns c n') (record { node = x.node; slots = set x.slots s (record { stage = Empty; count = counted reply slot.count }) })
    collect_puts s slot o reply is at stage asked n' e = (
      Collects s slot o reply (own s is) at stage asked e,
      own_slot l ns c n n' w here x desk (ap (λ (z : SessionNote). z.batch) e ∙ batch reply) s (record { stage = Empty; count = counted reply slot.count }) (own s is)
          (n', note_here ns c n n' here, count reply ∙ ap (λ (z : SessionNote). length z.answered) (sym e), ap (λ (z : SessionNote). z.pending) e ∙ none reply),
    )
      where
        batch : (r : Reply) → (answered_with n o.op r).batch ≡ n.batch
        batch (Placed i r) = refl
        batch Ended = refl

        none : (r : Reply) → (answered_with n o.op r).pending ≡ None
        none (Placed i r) = refl
        none Ended = refl

        one_more : (a b c : ℕ) → a ≡ b → c ≡ b + 1 → suc a ≡ c
        one_more a b c e f = omega (arith, e, f)

        count : (r : Reply) → counted r slot.count ≡ length (answered_with n o.op r).answered
        count (Placed i r) = one_more slot.count (length n.answered) _ (told s slot (own s is) at).0 (length-append n.answered (record { index = i; op = o.op; reply = r } ∷ []))
        count Ended = (told s slot (own s is) at).0

    claim_puts : ((s : ℕ) (slot : Slot) → At s slot x.slots → slot.stage ≢ Claimed) → n.batch ≡ [] → (n' : SessionNote) → n' ≡ record n { batch = unplaced (batch_of x).records } → DeskMove E x c l n n' × DeskAgrees E l (set ns c n') (claimed x)
    claim_puts idle empty n' e = (Claims empty e, record { slots = length-map x.slots claimed_slot ∙ desk.slots; combiner = c; each = each })
      where
        like : Alike n n'
        like = record { answered = ap (λ (z : SessionNote). z.answered) (sym e); pending = ap (λ (z : SessionNote). z.pending) (sym e) }

        free : (s : ℕ) (slot : Slot) (reply : Reply) → At s slot x.slots → slot.stage ≡ Answered reply → IsUnclaimed ns (session l.config x.node s) → IsUnclaimed (set ns c n') (session l.config x.node s)
        free s slot reply at st old d k u h q = ⊎_elim
            (λ b. let p = posted_back (first_author x) x.slots k u (subst (λ (z : SessionNote). At k u z.batch) e b.1) in
            let same : p.slot ≡ s = one_slot l.config x.node p.slot s (sym (author_is l.config x p.slot desk.slots) ∙ (ap (λ (z : Claim). z.request.author) (sym p.is) ∙ q)) in
            let one : p.posted ≡ slot = at_one x.slots s p.posted slot (subst (λ z. At z p.posted x.slots) same p.at) at in
            subst (λ z. IsStage (Posted p.op) z) (sym p.stage ∙ (ap (λ (z : Slot). z.stage) one ∙ st)) tt)
            (λ b. old d k u b.1 q) (batch_back ns c n n' here d k u h)

        stage : (s : ℕ) (slot : Slot) (m o : SessionNote) → At s slot x.slots → Alike m o → (st : Stage) → slot.stage ≡ st → StageAgrees E l ns desk.combiner (session l.config x.node s) m st → StageAgrees E l (set ns c n') c (session l.config x.node s) o (claimed_stage st)
        stage s slot m o at same_as Empty is h = sym same_as.pending ∙ h
        stage s slot m o at same_as (Posted op) is h =
            let p = posted_on (first_author x) x.slots s slot op at is in
            (h.0, sym same_as.pending ∙ h.1, (p.0, p.1, batch_here ns c n n' here p.0 p.1 (subst (λ (z : SessionNote). At p.0 p.1 z.batch) (sym e) p.2), p.3 ∙ author_is l.config x s desk.slots))
        stage s slot m o at same_as Claimed is h = absurd (idle s slot at is)
        stage s slot m o at same_as (Answered reply) is h =
            (h.0, sym same_as.pending ∙ h.1, subst (λ us. Answers E l (session l.config x.node s) us h.0.op reply) (ap length same_as.answered) h.2, free s slot reply at is h.3)

        each : (s : ℕ) (slot : Slot) → At s slot (map claimed_slot x.slots) → SlotAgrees E l (set ns c n') c (session l.config x.node s) slot
        each s slot at =
            let b = at_mapped claimed_slot x.slots s slot at in
            let t = desk.each s b.0 b.1 in
            let o = alike_on ns c n n' here like (session l.config x.node s) t.0 t.1 (ℕ_discrete (session l.config x.node s) c) in
            subst (λ z. SlotAgrees E l (set ns c n') c (session l.config x.node s) z) (sym b.2)
            (o.0, o.1, t.2 ∙ ap length o.2.answered, stage s b.0 t.0 o.0 b.1 o.2 b.0.stage refl t.3)

    -- who has a batch is the one that the desk's claimed slots are with
    combines : (k : ℕ) (t : Claim) → At k t n.batch → desk.combiner ≡ c
    combines k t at = by_stage slot.0.stage there.3
      where
        mate : (node : ℕ) × IsSessionOf l.config node c × IsSessionOf l.config node t.request.author
        mate = w.near c k t (n, here, at)

        same_node : mate.0 ≡ x.node
        same_node = one_node mate.0 x.node mate.1.0 mine.0 l.config.slots mate.1.1 mine.1 (sym mate.1.2 ∙ mine.2)

        s : ℕ
        s = mate.2.0

        is : t.request.author ≡ session l.config x.node mate.2.0
        is = mate.2.2 ∙ ap (λ z. session l.config z mate.2.0) same_node

        slot : (a : Slot) × At mate.2.0 a x.slots
        slot = at_there x.slots mate.2.0 (let lt = mate.2.1 in let long = desk.slots in omega (arith, lt, long))

        there : SlotAgrees E l ns desk.combiner (session l.config x.node mate.2.0) slot.0
        there = desk.each mate.2.0 slot.0 slot.1

        by_stage : (st : Stage) → StageAgrees E l ns desk.combiner (session l.config x.node mate.2.0) there.0 st → desk.combiner ≡ c
        by_stage Empty h =
            let r = w.requested c k t (n, here, at) in
            let same : r.0 ≡ there.0 = at_one ns t.request.author r.0 there.0 r.1 (subst (λ z. At z there.0 ns) (sym is) there.1) in
            absurd (some_none r.2.0 r.0.pending r.2.1 (ap (λ (z : SessionNote). z.pending) same ∙ h))
        by_stage (Posted op) h = absurd (h.4 c k t (n, here, at) is)
        by_stage (Answered reply) h = absurd (h.3 c k t (n, here, at) is)
        by_stage Claimed h = (w.once desk.combiner c h.2.0 k h.2.1 t h.2.2 (n, here, at) (h.2.3 ∙ sym is)).0

    reply_puts : (b : BatchView) (k : ℕ) (t : Claim) → At k t n.batch → b.records ≡ map record_of n.batch → ((k : ℕ) (t : Claim) → At k t n.batch → (reply : Reply) × (slice_get b.answers k ≡ Some (Some reply)) × Gives E known t reply)
        → (n' : SessionNote) → n' ≡ record n { batch = [] } → DeskMove E x c l n n' × DeskAgrees E l (set ns c n') (replied b x)
    reply_puts b k0 t0 first records gives n' e = (Replies e, record { slots = answered_long (first_author x) b x.slots ∙ desk.slots; combiner = c; each = each })
      where
        like : Alike n n'
        like = record { answered = ap (λ (z : SessionNote). z.answered) (sym e); pending = ap (λ (z : SessionNote). z.pending) (sym e) }

        back : (d k : ℕ) (u : Claim) → IsInBatch (set ns c n') d k u → (d ≢ c) × IsInBatch ns d k u
        back d k u h = ⊎_elim (λ b. absurd (at_none k u (subst (λ (z : SessionNote). At k u z.batch) e b.1))) (λ b. b) (batch_back ns c n n' here d k u h)

        answers : (a : ℕ) (u : Claim) (o : Pending) (seq : ℕ) (r : Reply) → u.request ≡ record { author = a; seq = seq; op = o.op } → IsPlacedIn l.history u → Gives E known u r → Answers E l a seq o.op r
        answers a u o seq (Placed i r) is p g =
            let up = grown.completed in let lt = g.1 in (
              omega (arith, up, lt),
              subst (λ z. At i z l.history) is (p.0 i g.0),
              sym (ap (λ (z : Record). reply_at E known.catalogue known.history i z.op) is ∙ (ap (λ z. reply_at E z known.history i o.op) grown.catalogue
                  ∙ (sym (reply_front E l.catalogue known.history grown.history.0 i o.op (omega (arith, lt, low))) ∙ ap (λ z. reply_at E l.catalogue z i o.op) (sym grown.history.1)))) ∙ g.2,
            )
        answers a u o seq Ended is p g =
            let up = grown.completed in let at = g.1 in let same = ap (λ (z : Sizes). z.limit) grown.config in let top = w.limit in let end = w.completed in
            (omega (arith, up, at, same, top, end), subst (λ (z : Record). HasNoRecord l.history z.author z.seq) is (p.1 g.0))

        -- the answer to a request of slot s
        found : (s k : ℕ) (u : Claim) (at : At k u n.batch) → u.request.author ≡ session l.config x.node s → answer_for (first_author x + s) b.records b.answers ≡ Some (gives k u at).0
        found s k u at is = answer_is (first_author x + s) b.records b.answers k u.request (gives k u at).0 (subst (λ z. At k u.request z) (sym records) (at_map record_of n.batch k u at))
            (is ∙ sym (author_is l.config x s desk.slots)) (gives k u at).1
            (λ j q there e.
            let v = at_mapped record_of n.batch j q (subst (λ z. At j q z) records there) in
            (w.once c c j k v.0 u (n, here, v.1) (n, here, at) (ap (λ (z : Record). z.author) (sym v.2) ∙ (e ∙ (author_is l.config x s desk.slots ∙ sym is)))).1)

        stage : (s : ℕ) (m o : SessionNote) → At (session l.config x.node s) m ns → Alike m o → (st : Stage) → StageAgrees E l ns desk.combiner (session l.config x.node s) m st
            → StageAgrees E l (set ns c n') c (session l.config x.node s) o (answered_stage (answer_for (first_author x + s) b.records b.answers) st)
        stage s m o there same_as Empty h = sym same_as.pending ∙ h
        stage s m o there same_as (Posted op) h = (h.0, sym same_as.pending ∙ h.1, h.2, subst (λ us. HasNoRecord l.history (session l.config x.node s) us) (ap length same_as.answered) h.3, (λ d k u g. h.4 d k u (back d k u g).1))
        stage s m o there same_as (Answered reply) h = (h.0, sym same_as.pending ∙ h.1, subst (λ us. Answers E l (session l.config x.node s) us h.0.op reply) (ap length same_as.answered) h.2, (λ d k u g. h.3 d k u (back d k u g).1))
        stage s m o there same_as Claimed h =
            let a = session l.config x.node s in
            let by : IsInBatch ns c h.2.0 h.2.1 = subst (λ z. IsInBatch ns z h.2.0 h.2.1) (combines k0 t0 first) h.2.2 in
            let at : At h.2.0 h.2.1 n.batch = subst (λ (z : SessionNote). At h.2.0 h.2.1 z.batch) (at_one ns c by.0 n by.1 here) by.2 in
            let r = w.requested c h.2.0 h.2.1 by in
            let note : r.0 ≡ m = at_one ns a r.0 m (subst (λ z. At z r.0 ns) h.2.3 r.1) there in
            let asked : r.2.0 ≡ h.0 = same_Some r.2.0 h.0 (sym r.2.1 ∙ (ap (λ (z : SessionNote). z.pending) note ∙ h.1)) in
            let is : h.2.1.request ≡ record { author = a; seq = length o.answered; op = h.0.op } =
            λ k. record { author = h.2.3 k; seq = (r.2.3 ∙ (ap (λ (z : SessionNote). length z.answered) note ∙ ap length same_as.answered)) k; op = (r.2.2 ∙ ap (λ (z : Pending). z.op) asked) k } in
            let g = gives h.2.0 h.2.1 at in
            subst (λ z. StageAgrees E l (set ns c n') c a o (with_answer z)) (sym (found s h.2.0 h.2.1 at h.2.3)) (
              h.0,
              sym same_as.pending ∙ h.1,
              answers a h.2.1 h.0 (length o.answered) g.0 is (w.placed c h.2.0 h.2.1 by) g.2,
              (λ d k u g q. let b = back d k u g in b.0 (w.once d c k h.2.0 u h.2.1 b.1 by (q ∙ sym h.2.3)).0),
            )

        each : (s : ℕ) (slot : Slot) → At s slot (answered_from (first_author x) b x.slots) → SlotAgrees E l (set ns c n') c (session l.config x.node s) slot
        each s slot at =
            let f = at_there x.slots s (let lt = at_below (answered_from (first_author x) b x.slots) s slot at in let long = answered_long (first_author x) b x.slots in omega (arith, lt, long)) in
            let t = desk.each s f.0 f.1 in
            let o = alike_on ns c n n' here like (session l.config x.node s) t.0 t.1 (ℕ_discrete (session l.config x.node s) c) in
            subst (λ z. SlotAgrees E l (set ns c n') c (session l.config x.node s) z) (at_one (answered_from (first_author x) b x.slots) s _ slot (answered_at (first_author x) b x.slots s f.0 f.1) at)
            (o.0, o.1, t.2 ∙ ap length o.2.answered, stage s t.0 o.0 t.1 o.2 f.0.stage t.3)

  pub desk_puts : DeskPuts E
  desk_puts known l ns c n n' x y low grown w here mine desk (PostStep s op is unread may e f) =
      let p = posted_is s op x y f in let t = post_puts known l ns c n low grown w here x mine desk s p.0 op is p.1 p.2 unread may n' e in (t.0, subst (λ z. DeskAgrees E l (set ns c n') z) (sym p.3) t.1)
  desk_puts known l ns c n n' x y low grown w here mine desk (ClaimStep idle empty e f) =
      let t = claim_puts known l ns c n low grown w here x mine desk (none_claimed x.slots idle) empty n' e in (t.0, subst (λ z. DeskAgrees E l (set ns c n') z) (sym f) t.1)
  desk_puts known l ns c n n' x y low grown w here mine desk (ReplyStep b k t first records gives e f) =
      let t = reply_puts known l ns c n low grown w here x mine desk b k t first records gives n' e in (t.0, subst (λ z. DeskAgrees E l (set ns c n') z) (sym f) t.1)
  desk_puts known l ns c n n' x y low grown w here mine desk (CollectStep s o reply is asked e f) =
      let p = collected_is s reply x y f in let t = collect_puts known l ns c n low grown w here x mine desk s p.0 o reply is p.1 p.2 asked n' e in (t.0, subst (λ z. DeskAgrees E l (set ns c n') z) (sym p.3) t.1)

  same_node : (known : Progress C) (c : ℕ) (n n' : SessionNote) (x y : DeskView) → DeskStep E known c n x n' y → x.node ≡ y.node
  same_node known c n n' x y (PostStep s op is unread may e f) = ap (λ (z : DeskView). z.node) (sym (posted_is s op x y f).3)
  same_node known c n n' x y (ClaimStep idle empty e f) = ap (λ (z : DeskView). z.node) (sym f)
  same_node known c n n' x y (ReplyStep b k t first records gives e f) = ap (λ (z : DeskView). z.node) (sym f)
  same_node known c n n' x y (CollectStep s o reply is asked e f) = ap (λ (z : DeskView). z.node) (sym (collected_is s reply x y f).3)

  pub desk_may_put : DeskMayPut E
  desk_may_put k p a x y n' held low mine step = (
    TheDesk x,
    a,
    held,
    λ line notes may.
        let grown = may.0.0 in
        let own : IsSessionOf line.config x.node k.session = subst (λ z. IsSessionOf z x.node k.session) grown.config mine in
        let agrees = may.3 a (p, TheDesk x) held in
        let t = desk_puts k.progress line notes k.session k.note n' x y low grown may.2 may.1 own agrees.2 step in
        let node = same_node k.progress k.session k.note n' x y step in
        ((refl, inr (own, t.0)), (subst (λ z. z < line.config.nodes) node agrees.0, agrees.1 ∙ ap (λ z. desk_place line.config z) node, t.1)),
  )

module _ {C M V : Type 0} (E : Meaning C M) (view : V → StoreValue M) (IsSized : Sizes → C → V → Type 0) where
  pub seen_desk_may_put : SeenDeskMayPut E view IsSized
  seen_desk_may_put k p v w x y n' h = (
    v,
    h.index,
    h.held,
    λ line notes may.
        let grown = may.0.0 in
        let own : IsSessionOf line.config x.node k.session = subst (λ z. IsSessionOf z x.node k.session) grown.config h.own in
        let was = may.3 h.index (p, v) h.held in
        let agrees = subst (λ z. AgreesWith E p line notes z) h.was was.0 in
        let t = desk_puts E k.progress line notes k.session k.note n' x y h.completed grown may.2 may.1 own agrees.2 h.step in
        let node = same_node E k.progress k.session k.note n' x y h.step in (
          subst (λ z. Moves E p k.session z line k.note line n') (sym h.was) (refl, inr (own, t.0)),
          (
            subst (λ z. AgreesWith E p line (set notes k.session n') z) (sym h.becomes) (subst (λ z. z < line.config.nodes) node agrees.0, agrees.1 ∙ ap (λ z. desk_place line.config z) node, t.1),
            h.sizes line.config line.catalogue was.1,
          ),
        ),
  )
