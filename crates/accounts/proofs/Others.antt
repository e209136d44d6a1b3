-- A move at one place keeps the agreement of every other.
use Rattle.std.proofs.Common.{append_assoc, ◌≡◌, ◌≢◌, ℕ, ◌<◌, ◌≤◌, ◌⊎◌, List, [], ◌∷◌, ◌++◌, map, length, length-append, take, set, sym, refl, ap, ◌∙◌, subst, inl, inr, ⊎_elim, arith, append-nil, None}
use Rattle.std.proofs.Math.Nat.{le-max_left, max-le}
use native.Mathlib.Decide.{ℕ_discrete}
use Rattle.atomic_table.proofs.Lists.{set_again}
use Rattle.oplog.specs.History.{Meaning, state_after, reply_at}
use Rattle.oplog.specs.Operations.{Operation}
use Rattle.oplog.specs.declared.configuration.Sizes.{Sizes}
use Rattle.oplog.specs.declared.records.Record.{Record}
use Rattle.ownlock.specs.Rules.{Laws, IsPart}
use Rattle.ownlock.specs.Seats.{At}
use Rattle.accounts.proofs.Appended.{moves_accounts, was}
use Rattle.accounts.proofs.Lists.{at_front, at_joined, one_node}
use Rattle.accounts.proofs.Parts.{Alike, alike_on, alike_self, batch_back, batch_else, batch_here, state_front, note_else, placed_on, reply_front, same_batches, taken_back}
use Rattle.oplog.specs.Sessions.{IsSessionOf, session}
use Rattle.accounts.specs.Accounts.{Accounts, Extends, HasNoRecord, IsInBatch}
use Rattle.accounts.specs.Agreement.{AgreesWith, Answers, DeskAgrees, IsClaimedBy, IsUnclaimed, ReplicaAgrees, SlotAgrees, StageAgrees, desk_place, replica_place}
use Rattle.accounts.proofs.Moved.{begins_like, noted_accounts}
use Rattle.accounts.specs.Moves.{HoldsBoth, HoldsDesk, HoldsLog, HoldsNothing, HoldsReplica, LogMove, BatchAppended, MayBegin, MayHold, Moves, desk_rules, placed_from, raised, record_of}
use Rattle.combiner.specs.Desks.{DeskView}
use Rattle.combiner.specs.declared.slots.Slot.{Slot}
use Rattle.combiner.specs.declared.slots.Stage.{Stage}
use Rattle.combiner.specs.declared.slots.Stage.TheVariants.{Answered, Claimed, Empty, Posted}
use Rattle.combiner.specs.declared.slots.Reply.{Reply}
use Rattle.combiner.specs.declared.slots.Reply.TheVariants.{Ended, Placed}
use Rattle.accounts.specs.Values.{ReplicaValue, StoreValue, TheDesk, TheLog, TheReplica}
use Rattle.accounts.specs.declared.sessions.Claim.{Claim}
use Rattle.accounts.specs.declared.sessions.Progress.{Progress}
use Rattle.accounts.specs.declared.sessions.SessionNote.{SessionNote}
use Rattle.ownlock.proofs.Export.{at_below, at_one}

module _ {C M : Type 0} (E : Meaning C M) where
  -- a progress that has grown
  pub record Grown (l l' : Progress C) (more : List Record) : Type 0 where
    pub config : l'.config ≡ l.config
    pub catalogue : l'.catalogue ≡ l.catalogue
    pub history : l'.history ≡ l.history ++ more
    pub rises : l.completed ≤ l'.completed
    pub done : l'.completed ≤ length l'.history
    pub limit : length l'.history ≤ l'.config.limit

  state_stays : (l l' : Progress C) (more : List Record) → Grown l l' more → (k : ℕ) → k ≤ length l.history → state_after E l'.catalogue l'.history k ≡ state_after E l.catalogue l.history k
  state_stays l l' more g k le = ap (λ z. state_after E z l'.history k) g.catalogue ∙ (ap (λ h. state_after E l.catalogue h k) g.history ∙ state_front E l.catalogue l.history more k le)

  reply_stays : (l l' : Progress C) (more : List Record) → Grown l l' more → (k : ℕ) (op : Operation) → k ≤ length l.history → reply_at E l'.catalogue l'.history k op ≡ reply_at E l.catalogue l.history k op
  reply_stays l l' more g k op le = ap (λ z. reply_at E z l'.history k op) g.catalogue ∙ (ap (λ h. reply_at E l.catalogue h k op) g.history ∙ reply_front E l.catalogue l.history more k op le)

  pub replica_stays : (l l' : Progress C) (more : List Record) (x : ReplicaValue M) → l.completed ≤ length l.history → Grown l l' more → ReplicaAgrees E l x → ReplicaAgrees E l' x
  replica_stays l l' more x low g a = record {
    tail = let t = a.tail in let r = g.rises in omega (arith, t, r);
    state = a.state ∙ sym (state_stays l l' more g x.tail (let t = a.tail in omega (arith, t, low)));
  }

  -- what a session keeps, of a desk with that combiner
  pub record Undisturbed (l l' : Progress C) (ns ns' : List SessionNote) (combiner a : ℕ) : Type 0 where
    pub note : (m : SessionNote) → At a m ns → (o : SessionNote) × At a o ns' × Alike m o
    pub free : IsUnclaimed ns a → IsUnclaimed ns' a
    pub claimed : IsClaimedBy ns combiner a → IsClaimedBy ns' combiner a
    pub unheard : (seq : ℕ) → IsUnclaimed ns a → HasNoRecord l.history a seq → HasNoRecord l'.history a seq

  answer_stays : (l l' : Progress C) (more : List Record) → l.completed ≤ length l.history → Grown l l' more → (a seq : ℕ) (op : Operation) (reply : Reply) → (HasNoRecord l.history a seq → HasNoRecord l'.history a seq) → Answers E l a seq op reply → Answers E l' a seq op reply
  answer_stays l l' more low g a seq op (Placed i reply) none h =
      let lt = h.0 in let up = g.rises in
      (omega (arith, lt, up), subst (λ z. At i (record { author = a; seq = seq; op = op }) z) (sym g.history) (at_front l.history more i _ h.1), reply_stays l l' more g i op (omega (arith, lt, low)) ∙ h.2)
  answer_stays l l' more low g a seq op Ended none h =
      let at = h.0 in let up = g.rises in let top = g.limit in let end = g.done in let same = ap (λ (z : Sizes). z.limit) g.config in
      (omega (arith, at, up, top, end, same), none h.1)

  pub stage_stays : (l l' : Progress C) (more : List Record) (ns ns' : List SessionNote) (combiner a : ℕ) (n m : SessionNote) → l.completed ≤ length l.history → Grown l l' more → Undisturbed l l' ns ns' combiner a → Alike n m
      → (st : Stage) → StageAgrees E l ns combiner a n st → StageAgrees E l' ns' combiner a m st
  stage_stays l l' more ns ns' combiner a n m low g u like Empty h = sym like.pending ∙ h
  stage_stays l l' more ns ns' combiner a n m low g u like (Posted op) h =
      (h.0, sym like.pending ∙ h.1, h.2, subst (λ us. HasNoRecord l'.history a us) (ap length like.answered) (u.unheard (length n.answered) h.4 h.3), u.free h.4)
  stage_stays l l' more ns ns' combiner a n m low g u like Claimed h = (h.0, sym like.pending ∙ h.1, u.claimed h.2)
  stage_stays l l' more ns ns' combiner a n m low g u like (Answered reply) h = (
    h.0,
    sym like.pending ∙ h.1,
    subst (λ z. Answers E l' a z h.0.op reply) (ap length like.answered) (answer_stays l l' more low g a (length n.answered) h.0.op reply (λ none. u.unheard (length n.answered) h.3 none) h.2),
    u.free h.3,
  )

  pub slot_stays : (l l' : Progress C) (more : List Record) (ns ns' : List SessionNote) (combiner a : ℕ) (slot : Slot) → l.completed ≤ length l.history → Grown l l' more → Undisturbed l l' ns ns' combiner a → SlotAgrees E l ns combiner a slot → SlotAgrees E l' ns' combiner a slot
  slot_stays l l' more ns ns' combiner a slot low g u t = let o = u.note t.0 t.1 in (o.0, o.1, t.2 ∙ ap length o.2.answered, stage_stays l l' more ns ns' combiner a t.0 o.0 low g u o.2 slot.stage t.3)

  pub desk_stays : (l l' : Progress C) (more : List Record) (ns ns' : List SessionNote) (y : DeskView) → l.completed ≤ length l.history → Grown l l' more → (a : DeskAgrees E l ns y)
      → ((s : ℕ) → s < l.config.slots → Undisturbed l l' ns ns' a.combiner (session l.config y.node s)) → DeskAgrees E l' ns' y
  desk_stays l l' more ns ns' y low g a u = record {
    slots = a.slots ∙ ap (λ (z : Sizes). z.slots) (sym g.config);
    combiner = a.combiner;
    each = λ s slot at.
        let lt : s < l.config.slots = let b = at_below y.slots s slot at in let long = a.slots in omega (arith, b, long) in
        subst (λ z. SlotAgrees E l' ns' a.combiner (session z y.node s) slot) (sym g.config)
        (slot_stays l l' more ns ns' a.combiner (session l.config y.node s) slot low g (u s lt) (a.each s slot at));
  }

  -- a batch grows places
  module _ (l l' : Progress C) (ns : List SessionNote) (c : ℕ) (n : SessionNote) (w : Accounts E l ns) (here : At c n ns) (config : l'.config ≡ l.config) (catalogue : l'.catalogue ≡ l.catalogue)
      (k : ℕ) (unplaced : (j : ℕ) (t : Claim) → At j t n.batch → t.index ≡ None) (history : l'.history ≡ l.history ++ map record_of (take k n.batch)) where
    abbrev appended : SessionNote
    appended = record n { batch = placed_from (length l.history) k n.batch }

    append_desk : (combiner a : ℕ) → Undisturbed l l' ns (set ns c appended) combiner a
    append_desk combiner a = record {
      note = λ m at. alike_on ns c n appended here (record { answered = refl; pending = refl }) a m at (ℕ_discrete a c);
      free = λ free d j u h e. let t = was E l l' ns c n w here config catalogue k unplaced history d j u h in free d j t.0 t.1 (ap (λ (z : Record). z.author) (sym t.2) ∙ e);
      claimed = λ h. on a h (ℕ_discrete combiner c);
      unheard = λ seq free none. subst (λ z. HasNoRecord z a seq) (sym history) (λ i r at e. ⊎_elim (λ old. none i r old e)
          (λ b. let f = taken_back k n.batch b.0 r b.2 in absurd (free c b.0 f.0 (n, here, f.1) (ap (λ (z : Record). z.author) (sym f.2) ∙ e))) (at_joined l.history (map record_of (take k n.batch)) i r at));
    }
      where
        on : (a : ℕ) → IsClaimedBy ns combiner a → Dec (combiner ≡ c) → IsClaimedBy (set ns c appended) combiner a
        on a (j, t, (m, at, h), e) (yes is) =
            let same : m ≡ n = at_one ns c m n (subst (λ z. At z m ns) is at) here in
            let p = placed_on (length l.history) k n.batch j t (subst (λ (z : SessionNote). At j t z.batch) same h) in
            (j, p.0, subst (λ z. IsInBatch (set ns c appended) z j p.0) (sym is) (batch_here ns c n appended here j p.0 p.1), ap (λ (z : Record). z.author) p.2 ∙ e)
        on a (j, t, h, e) (no ne) = (j, t, batch_else ns c n appended here combiner j t ne h, e)

  -- whoever is of another node disturbs no session of this one
  desk_other : (l : Progress C) (ns : List SessionNote) (c : ℕ) (n n' : SessionNote) → Accounts E l ns → Accounts E l (set ns c n') → At c n ns → (mine node combiner : ℕ) → IsSessionOf l.config mine c → node ≢ mine → (s : ℕ) → s < l.config.slots → Undisturbed l l ns (set ns c n') combiner (session l.config node s)
  desk_other l ns c n n' w w' here mine node combiner is ne s lt = record {
    note = λ m at. (m, note_else ns c n n' here (session l.config node s) m (λ e. apart s lt e) at, alike_self m);
    free = λ free d k t h e. free d k t (back d k t h s lt e) e;
    claimed = λ h. (h.0, h.1, batch_else ns c n n' here combiner h.0 h.1 (λ e. far combiner h.1 (w.near combiner h.0 h.1 h.2) e s lt h.3) h.2, h.3);
    unheard = λ seq free none. none;
  }
    where
      apart : (s : ℕ) → s < l.config.slots → session l.config node s ≡ c → ⊥
      apart s lt e = ne (one_node node mine s is.0 l.config.slots lt is.1 (e ∙ is.2))

      far : (d : ℕ) (t : Claim) → ((a : ℕ) × IsSessionOf l.config a d × IsSessionOf l.config a t.request.author) → d ≡ c → (s : ℕ) → s < l.config.slots → t.request.author ≡ session l.config node s → ⊥
      far d t (a, (s1, lt1, e1, in1), (s2, lt2, e2, in2)) e s lt q =
          let x : a ≡ mine = one_node a mine s1 is.0 l.config.slots lt1 is.1 (sym e1 ∙ (e ∙ is.2)) in
          let y : a ≡ node = one_node a node s2 s l.config.slots lt2 lt (sym e2 ∙ q) in
          ne (sym y ∙ x)

      back : (d k : ℕ) (t : Claim) → IsInBatch (set ns c n') d k t → (s : ℕ) → s < l.config.slots → t.request.author ≡ session l.config node s → IsInBatch ns d k t
      back d k t h s lt q = ⊎_elim (λ e. absurd (far d t (w'.near d k t h) e.0 s lt q)) (λ e. e.1) (batch_back ns c n n' here d k t h)

  pub same_progress : (l : Progress C) (ns : List SessionNote) → Accounts E l ns → Grown l l []
  same_progress l ns w = record { config = refl; catalogue = refl; history = sym (append-nil l.history); rises = omega arith; done = w.completed; limit = w.limit }

  -- a note that changes in nothing that is accounted for disturbs nobody
  noted_desk : (l : Progress C) (ns : List SessionNote) (c : ℕ) (n n' : SessionNote) → At c n ns → Alike n n' → n'.batch ≡ n.batch → (combiner a : ℕ) → Undisturbed l l ns (set ns c n') combiner a
  noted_desk l ns c n n' here like same combiner a = record {
    note = λ m at. alike_on ns c n n' here like a m at (ℕ_discrete a c);
    free = λ free d k t h e. free d k t (same_batches ns c n n' here same d k t h) e;
    claimed = λ h. (h.0, h.1, on h.0 h.1 h.2 (ℕ_discrete combiner c), h.3);
    unheard = λ seq free none. none;
  }
    where
      on : (j : ℕ) (t : Claim) → IsInBatch ns combiner j t → Dec (combiner ≡ c) → IsInBatch (set ns c n') combiner j t
      on j t (m, at, h) (yes is) =
          let one : m ≡ n = at_one ns c m n (subst (λ z. At z m ns) is at) here in
          subst (λ z. IsInBatch (set ns c n') z j t) (sym is) (batch_here ns c n n' here j t (subst (λ b. At j t b) (sym same) (subst (λ (z : SessionNote). At j t z.batch) one h)))
      on j t h (no ne) = batch_else ns c n n' here combiner j t ne h

  pub noted_agrees : (l : Progress C) (ns : List SessionNote) (c : ℕ) (n n' : SessionNote) → Accounts E l ns → At c n ns → Alike n n' → n'.batch ≡ n.batch → (q : ℕ) (y : StoreValue M) → AgreesWith E q l ns y → AgreesWith E q l (set ns c n') y
  noted_agrees l ns c n n' w here like same q (TheLog y) a = a
  noted_agrees l ns c n n' w here like same q (TheReplica y) a = a
  noted_agrees l ns c n n' w here like same q (TheDesk y) (lt, at, a) =
      (lt, at, desk_stays l l [] ns (set ns c n') y w.completed (same_progress l ns w) a (λ s low. noted_desk l ns c n n' here like same a.combiner (session l.config y.node s)))

  log_others : (l l' : Progress C) (ns : List SessionNote) (c : ℕ) (n n' : SessionNote) → Accounts E l ns → Accounts E l' (set ns c n') → At c n ns → LogMove E l n l' n' → (q : ℕ) (y : StoreValue M) → q ≢ 0 → AgreesWith E q l ns y → AgreesWith E q l' (set ns c n') y
  log_others l l' ns c n n' w w' here m q (TheLog y) ne a = absurd (ne a.0)
  log_others l l' ns c n n' w w' here m q (TheReplica y) ne (node, lt, at, a) =
      let g = grown in (node, subst (λ (z : Sizes). node < z.nodes) (sym m.config) lt, at, replica_stays l l' g.0 y w.completed g.1 a)
    where
      grown : (more : List Record) × Grown l l' more
      grown = ⊎_elim (λ keep. ([], record { config = m.config; catalogue = m.catalogue; history = keep.0 ∙ sym (append-nil l.history); rises = (let same = m.completed in omega (arith, same)); done = w'.completed; limit = w'.limit }))
          (λ t. (map record_of (take t.count n.batch), record { config = m.config; catalogue = m.catalogue; history = t.history; rises = (let same = m.completed in omega (arith, same)); done = w'.completed; limit = w'.limit })) m.appends
  log_others l l' ns c n n' w w' here m q (TheDesk y) ne (lt, at, a) =
      (subst (λ (z : Sizes). y.node < z.nodes) (sym m.config) lt, at ∙ ap (λ z. desk_place z y.node) (sym m.config), ⊎_elim kept added m.appends)
    where
      kept : (l'.history ≡ l.history) × MayBegin E l n n' → DeskAgrees E l' (set ns c n') y
      kept keep =
          let like = begins_like E l n n' keep.1 in
          let noted = noted_agrees l ns c n n' w here like.0 like.1 q (TheDesk y) (lt, at, a) in
          desk_stays l l' [] (set ns c n') (set ns c n') y w.completed
          (record { config = m.config; catalogue = m.catalogue; history = keep.0 ∙ sym (append-nil l.history); rises = (let same = m.completed in omega (arith, same)); done = w'.completed; limit = w'.limit }) noted.2
          (λ s lt. record { note = λ o at. (o, at, alike_self o); free = λ h. h; claimed = λ h. h; unheard = λ seq free none. subst (λ z. HasNoRecord z (session l.config y.node s) seq) (sym keep.0) none })

      added : BatchAppended E l n l' n' → DeskAgrees E l' (set ns c n') y
      added t = subst (λ z. DeskAgrees E l' (set ns c z) y) (sym t.note)
          (desk_stays l l' (map record_of (take t.count n.batch)) ns _ y w.completed (record { config = m.config; catalogue = m.catalogue; history = t.history; rises = (let same = m.completed in omega (arith, same)); done = w'.completed; limit = w'.limit }) a
          (λ s lt. append_desk l l' ns c n w here m.config m.catalogue t.count t.unplaced t.history a.combiner (session l.config y.node s)))

  desk_others : (l : Progress C) (ns : List SessionNote) (c : ℕ) (n n' : SessionNote) → Accounts E l ns → Accounts E l (set ns c n') → At c n ns → (mine p : ℕ) → p ≡ desk_place l.config mine → IsSessionOf l.config mine c → (q : ℕ) (y : StoreValue M) → q ≢ p → AgreesWith E q l ns y → AgreesWith E q l (set ns c n') y
  desk_others l ns c n n' w w' here mine p is own q (TheLog y) ne a = a
  desk_others l ns c n n' w w' here mine p is own q (TheReplica y) ne a = a
  desk_others l ns c n n' w w' here mine p is own q (TheDesk y) ne (lt, at, a) =
      (lt, at, desk_stays l l [] ns (set ns c n') y w.completed (same_progress l ns w) a (desk_other l ns c n n' w w' here mine y.node a.combiner own (λ e. ne (at ∙ (ap (λ z. desk_place l.config z) e ∙ sym is)))))

  pub moves_others : (p c : ℕ) (x : StoreValue M) (l l' : Progress C) (n n' : SessionNote) (ns : List SessionNote) → Accounts E l ns → At c n ns → AgreesWith E p l ns x → Moves E p c x l n l' n'
      → (q : ℕ) (y : StoreValue M) → q ≢ p → AgreesWith E q l ns y → AgreesWith E q l' (set ns c n') y
  moves_others p c (TheLog x) l l' n n' ns w here a m q y ne b = log_others l l' ns c n n' w (moves_accounts E p c (TheLog x) l l' n n' ns w here a m) here m.1 q y (λ e. ne (e ∙ sym m.0)) b
  moves_others p c (TheReplica x) l l' n n' ns w here a m q y ne b = subst (λ z. AgreesWith E q z (set ns c n') y) (sym m.0) (⊎_elim (λ e. subst (λ z. AgreesWith E q l (set ns c z) y) (sym e) (subst (λ z. AgreesWith E q l z y) (sym (set_again ns c n here)) b))
      (λ h. noted_agrees l ns c n n' w here (record { answered = ap (λ (z : SessionNote). z.answered) (sym h.5); pending = ap (λ (z : SessionNote). z.pending) (sym h.5) }) (ap (λ (z : SessionNote). z.batch) h.5) q y b) m.1)
  moves_others p c (TheDesk x) l l' n n' ns w here a m q y ne b =
      subst (λ z. AgreesWith E q z (set ns c n') y) (sym m.0) (⊎_elim
      (λ e. subst (λ z. AgreesWith E q l (set ns c z) y) (sym e) (subst (λ z. AgreesWith E q l z y) (sym (set_again ns c n here)) b))
      (λ d. desk_others l ns c n n' w (subst (λ z. Accounts E z (set ns c n')) m.0 (moves_accounts E p c (TheDesk x) l l' n n' ns w here a m)) here x.node p a.1 d.0 q y ne b)
      m.1)

  pub grows_on : (a b c : Progress C) → Extends a b → Extends b c → Extends a c
  grows_on a b c f g = record {
    config = f.config ∙ g.config;
    catalogue = f.catalogue ∙ g.catalogue;
    history = (f.history.0 ++ g.history.0, g.history.1 ∙ (ap (λ l. l ++ g.history.0) f.history.1 ∙ append_assoc a.history f.history.0 g.history.0));
    completed = let one = f.completed in let two = g.completed in omega (arith, one, two);
  }

  grows_self : (l : Progress C) → Extends l l
  grows_self l = record { config = refl; catalogue = refl; history = ([], sym (append-nil l.history)); completed = omega arith }

  moves_grow : (p c : ℕ) (x : StoreValue M) (l l' : Progress C) (n n' : SessionNote) → Moves E p c x l n l' n' → Extends l l'
  moves_grow p c (TheLog x) l l' n n' (is, m) = record {
    config = sym m.config;
    catalogue = sym m.catalogue;
    history = ⊎_elim (λ keep. ([], keep.0 ∙ sym (append-nil l.history))) (λ t. (map record_of (take t.count n.batch), t.history)) m.appends;
    completed = let same = m.completed in omega (arith, same);
  }
  moves_grow p c (TheReplica x) l l' n n' m = subst (λ z. Extends l z) (sym m.0) (grows_self l)
  moves_grow p c (TheDesk x) l l' n n' m = subst (λ z. Extends l z) (sym m.0) (grows_self l)

  moves_same : (p c : ℕ) (x : StoreValue M) (l l' : Progress C) (n n' : SessionNote) → p ≢ 0 → Moves E p c x l n l' n' → l.history ≡ l'.history
  moves_same p c (TheLog x) l l' n n' ne m = absurd (ne m.0)
  moves_same p c (TheReplica x) l l' n n' ne m = ap (λ (z : Progress C). z.history) (sym m.0)
  moves_same p c (TheDesk x) l l' n n' ne m = ap (λ (z : Progress C). z.history) (sym m.0)

  moves_completed : (p c : ℕ) (x : StoreValue M) (l l' : Progress C) (n n' : SessionNote) → Moves E p c x l n l' n' → l'.completed ≡ l.completed
  moves_completed p c (TheLog x) l l' n n' m = m.1.completed
  moves_completed p c (TheReplica x) l l' n n' m = ap (λ (z : Progress C). z.completed) m.0
  moves_completed p c (TheDesk x) l l' n n' m = ap (λ (z : Progress C). z.completed) m.0

  pub raised_grows : (l : Progress C) (n : ℕ) → Extends l (raised l n)
  raised_grows l n = record { config = refl; catalogue = refl; history = ([], sym (append-nil l.history)); completed = le-max_left l.completed n }

  -- a raise to no more than the history's length leaves everything but the completed tail
  pub raised_accounts : (l : Progress C) (n : ℕ) (ns : List SessionNote) → n ≤ length l.history → Accounts E l ns → Accounts E (raised l n) ns
  raised_accounts l n ns far w = record {
    allowed = w.allowed;
    accounted = w.accounted;
    ordered = w.ordered;
    answered = w.answered;
    pending = w.pending;
    requested = w.requested;
    placed = w.placed;
    near = w.near;
    once = w.once;
    completed = max-le w.completed far;
    limit = w.limit;
  }

  raised_grown : (l : Progress C) (n : ℕ) (ns : List SessionNote) → n ≤ length l.history → Accounts E l ns → Grown l (raised l n) []
  raised_grown l n ns far w = record { config = refl; catalogue = refl; history = sym (append-nil l.history); rises = le-max_left l.completed n; done = max-le w.completed far; limit = w.limit }

  pub raised_agrees : (p : ℕ) (x : StoreValue M) (l : Progress C) (n : ℕ) (ns : List SessionNote) → n ≤ length l.history → Accounts E l ns → AgreesWith E p l ns x → AgreesWith E p (raised l n) ns x
  raised_agrees p (TheLog x) l n ns far w a = (a.0, record { done = (let low = a.1.done in omega (arith, low, le-max_left l.completed n)); base = a.1.base; base_state = a.1.base_state; records = a.1.records })
  raised_agrees p (TheReplica x) l n ns far w a = (a.0, a.1, a.2, replica_stays l (raised l n) [] x w.completed (raised_grown l n ns far w) a.3)
  raised_agrees p (TheDesk x) l n ns far w a = (
    a.0,
    a.1,
    desk_stays l (raised l n) [] ns ns x w.completed (raised_grown l n ns far w) a.2 (λ s lt. record { note = λ o at. (o, at, alike_self o); free = λ h. h; claimed = λ h. h; unheard = λ seq free none. none }),
  )

  -- of one place there are two parts, of two places four
  one_part : (qs : List ℕ) (p : ℕ) → IsPart qs (p ∷ []) → (qs ≡ []) ⊎ (qs ≡ p ∷ [])
  one_part [] p part = inl refl
  one_part (q ∷ []) p part = ⊎_elim (λ h. inr (ap (λ z. z ∷ []) h.0)) (λ h. absurd h) part
  one_part (q ∷ r ∷ rs) p part = ⊎_elim (λ h. absurd h.1) (λ h. absurd h) part

  two_parts : (qs : List ℕ) (p o : ℕ) → IsPart qs (p ∷ o ∷ []) → (qs ≡ p ∷ o ∷ []) ⊎ ((qs ≡ p ∷ []) ⊎ ((qs ≡ []) ⊎ (qs ≡ o ∷ [])))
  two_parts [] p o part = inr (inr (inl refl))
  two_parts (q ∷ qs) p o part = ⊎_elim
      (λ h. ⊎_elim (λ e. inr (inl (λ k. h.0 k ∷ e k))) (λ e. inl (λ k. h.0 k ∷ e k)) (one_part qs o h.1))
      (λ h. ⊎_elim (λ e. inr (inr (inl e))) (λ e. inr (inr (inr e))) (one_part (q ∷ qs) o h)) part

  no_parts : (qs : List ℕ) → IsPart qs [] → qs ≡ []
  no_parts [] part = refl
  no_parts (q ∷ qs) part = absurd part

  allows_part : (l : Progress C) (i : ℕ) (qs ps : List ℕ) → IsPart qs ps → MayHold l i ps → MayHold l i qs
  allows_part l i qs ps part (HoldsNothing e) = HoldsNothing (no_parts qs (subst (λ z. IsPart qs z) e part))
  allows_part l i qs ps part (HoldsLog e) = ⊎_elim (λ h. HoldsNothing h) (λ h. HoldsLog h) (one_part qs 0 (subst (λ z. IsPart qs z) e part))
  allows_part l i qs ps part (HoldsDesk node is e) = ⊎_elim (λ h. HoldsNothing h) (λ h. HoldsDesk node is h) (one_part qs (desk_place l.config node) (subst (λ z. IsPart qs z) e part))
  allows_part l i qs ps part (HoldsReplica node is e) = ⊎_elim (λ h. HoldsNothing h) (λ h. HoldsReplica node is h) (one_part qs (replica_place l.config node) (subst (λ z. IsPart qs z) e part))
  allows_part l i qs ps part (HoldsBoth node is e) = ⊎_elim (λ h. HoldsBoth node is h) (λ h. ⊎_elim (λ h. HoldsLog h) (λ h. ⊎_elim (λ h. HoldsNothing h) (λ h. HoldsReplica node is h) h) h)
      (two_parts qs 0 (replica_place l.config node) (subst (λ z. IsPart qs z) e part))

  allows_on : (a b : Progress C) (i : ℕ) (ps : List ℕ) → Extends a b → MayHold a i ps → MayHold b i ps
  allows_on a b i ps g (HoldsNothing e) = HoldsNothing e
  allows_on a b i ps g (HoldsLog e) = HoldsLog e
  allows_on a b i ps g (HoldsDesk node is e) = HoldsDesk node (subst (λ z. IsSessionOf z node i) g.config is) (e ∙ ap (λ z. desk_place z node ∷ []) g.config)
  allows_on a b i ps g (HoldsReplica node is e) = HoldsReplica node (subst (λ z. IsSessionOf z node i) g.config is) (e ∙ ap (λ z. replica_place z node ∷ []) g.config)
  allows_on a b i ps g (HoldsBoth node is e) = HoldsBoth node (subst (λ z. IsSessionOf z node i) g.config is) (e ∙ ap (λ z. 0 ∷ replica_place z node ∷ []) g.config)

  pub desk_laws : Laws (desk_rules E)
  desk_laws = record {
    extends_self = grows_self;
    extends_on = grows_on;
    same_self = λ l. refl;
    same_on = λ a b c e f. e ∙ f;
    allows_none = λ l i. HoldsNothing refl;
    allows_part = allows_part;
    allows_on = allows_on;
    moves_extend = λ m. moves_grow m.place m.session m.value m.progress m.new_progress m.note m.new_note m.allowed;
    moves_same = λ m ne. moves_same m.place m.session m.value m.progress m.new_progress m.note m.new_note ne m.allowed;
    moves_completed = λ m. moves_completed m.place m.session m.value m.progress m.new_progress m.note m.new_note m.allowed;
    moves_account = λ m ns a. moves_accounts E m.place m.session m.value m.progress m.new_progress m.note m.new_note ns a.accounts a.own a.agrees m.allowed;
    moves_others = λ m ns a. moves_others m.place m.session m.value m.progress m.new_progress m.note m.new_note ns a.accounts a.own a.agrees m.allowed;
    asks_account = λ c l n n' ns asks here w. let a = begins_like E l n n' asks in noted_accounts E l ns c n w here n' a.0 a.1;
    asks_agrees = λ p x c l n n' ns asks here w a. let like = begins_like E l n n' asks in noted_agrees l ns c n n' w here like.0 like.1 p x a;
    raised_completed = λ l n. refl;
    raised_extends = raised_grows;
    raised_same = λ l n. refl;
    raised_account = raised_accounts;
    raised_agrees = raised_agrees;
    reaches_on = λ a b n g far. let long = ap length g.history.1 ∙ length-append a.history g.history.0 in omega (arith, long, far);
  }
