-- A session that comes after those of a pipeline whose calls wait for nobody, and the last one, which leaves it.
use Rattle.std.proofs.Common.{◌≡◌, ℕ, ◌+◌, ◌*◌, ◌-◌, ◌<◌, ◌≤◌, List, [], ◌∷◌, ◌++◌, length, length-append, sym, refl, ap, ◌∙◌, subst, arith, ◌⊎◌, inl, inr, ⊎_elim}
use Rattle.std.proofs.lemmas.Bool.{cases_lt}
use Rattle.std.proofs.lemmas.List.{length-map}
use Rattle.ownlock.specs.Seats.{At, IsSession}
use Rattle.loader.specs.Installed.{InstalledView}
use Rattle.oplog.specs.Sessions.{session}
use Rattle.accounts.proofs.Export.{at_below, at_behind, at_front, at_map, at_mapped, at_one, at_there}
use Rattle.store_steps.specs.declared.pipelines.Member.{Member}
use Rattle.store_steps.specs.declared.steps.Caller.{Caller}
use Rattle.store_steps.specs.Standing.{SessionKnown}
use Rattle.store_steps.specs.Views.{IsIdle, SessionView, session_view}
use Rattle.store_steps.proofs.Export.{seen_as}
use Rattle.store.specs.Opening.{AreOf}
use Rattle.store.specs.Pipelines.{AreJoined, views_of}
use Rattle.store.specs.PolledPipelines.{Follows, MayFollow}
use Rattle.store.specs.Sessions.{HasRoom, IsOf, StoreView}
use Rattle.store.proofs.Ascending.{HasSlot, at_last, caller_is, member_slot, more_members}

abbrev K : Type 0
K = SessionKnown

-- ---- by the last one

pub is_last : (ms : List Member) (caller : Caller) (q : Member) → length ms < 16 → At (length ms - 1) q ms
    → q.caller.node ≡ caller.node → q.caller.slot < caller.slot → Follows ms caller
is_last ms caller q few at node slot = record {
  room = few;
  last = λ m there. let e = at_one ms (length ms - 1) m q there at in (ap (λ (z : Member). z.caller.node) e ∙ node, subst (λ (z : Member). z.caller.slot < caller.slot) (sym e) slot);
}

-- ---- one more

module _ (store : StoreView) (ms : List Member) (rooms : List InstalledView) (joined : AreJoined ms rooms) (own : AreOf store (views_of ms)) where
  own_member : (j : ℕ) (m : Member) → At j m ms → IsOf store (session_view m.seat)
  own_member j m at = own j (session_view m.seat) (at_map (λ (z : Member). session_view z.seat) ms j m at)

  slot_at : (j : ℕ) (m : Member) → At j m ms → HasSlot store.config (session_view m.seat) m.caller
  slot_at j m at = member_slot store m (joined.idle j m at) (own_member j m at)

  -- a session whose slot is above the last one's
  module _ (s : SessionView) (caller : Caller) (slot : HasSlot store.config s caller) (follows : Follows ms caller) where
    last_of : (j : ℕ) (p : Member) → At j p ms → (q : Member) × At (length ms - 1) q ms
    last_of j p at = let below = at_below ms j p at in at_there ms (length ms - 1) (omega (arith, below))

    node_of : (j : ℕ) (p : Member) → At j p ms → p.caller.node ≡ caller.node
    node_of j p at = let q = last_of j p at in joined.near j (length ms - 1) p q.0 at q.1 ∙ (follows.last q.0 q.1).0

    -- the last one is below the new one
    last_below : (q : Member) → At (length ms - 1) q ms → (session_view q.seat).session < s.session
    last_below q at =
        let a = slot_at (length ms - 1) q at in
        let f = follows.last q at in
        less (caller.node * store.config.slots) (a.own ∙ ap (λ z. session store.config z q.caller.slot) f.0) slot.own f.1
      where
        less : (base : ℕ) → (session_view q.seat).session ≡ base + q.caller.slot
            → s.session ≡ base + caller.slot → q.caller.slot < caller.slot
            → (session_view q.seat).session < s.session
        less base a b lt = omega (arith, a, b, lt)

    -- and so is each other one
    all_below : (j : ℕ) (p : Member) (f : K) → At j p ms → IsSession p.seat f → f.session < s.session
    all_below j p f at is =
        let q = last_of j p at in
        let below = at_below ms j p at in
        let i = joined.idle (length ms - 1) q.0 q.1 in
        let top = last_below q.0 q.1 in
        let seen = ap (λ (z : SessionView). z.session) (seen_as q.0.seat i.known i.is) in
        ⊎_elim (λ less. let up = joined.ascend j (length ms - 1) f i.known less (p, at, is) (q.0, q.1, i.is) in omega (arith, up, seen, top))
        (λ same. here same q.0 q.1 top)
        (apart j (length ms - 1) (omega (arith, below)))
      where
        apart : (a b : ℕ) → a ≤ b → (a < b) ⊎ (a ≡ b)
        apart a b le = ⊎_elim (λ lt. inl lt) (λ not. inr (omega (arith, le, not))) (cases_lt a b)

        here : j ≡ length ms - 1 → (q : Member) → At (length ms - 1) q ms → (session_view q.seat).session < s.session
            → f.session < s.session
        here same q there top =
            let e : p ≡ q = at_one ms (length ms - 1) p q (subst (λ z. At z p ms) same at) there in
            let seen = ap (λ (z : SessionView). z.session) (seen_as p.seat f is) in
            let high = subst (λ (z : Member). (session_view z.seat).session < s.session) (sym e) top in
            omega (arith, seen, high)

    -- so it may follow
    pub follows_may : MayFollow store.config (views_of ms) s
    follows_may = record {
      room = let few = follows.room in let long = length-map ms (λ (z : Member). session_view z.seat) in omega (arith, few, long);
      near = λ j t at.
          let q = there j t at in
          let a = slot_at j q.0 q.1 in
          let own = ap (λ (z : SessionView). z.session) q.2 ∙ (a.own ∙ ap (λ z. session store.config z q.0.caller.slot) (node_of j q.0 q.1)) in
          (caller.node, (q.0.caller.slot, a.within, own), (caller.slot, slot.within, slot.own));
      above = λ j t at.
          let q = there j t at in
          let i = joined.idle j q.0 q.1 in
          let below = all_below j q.0 i.known q.1 i.is in
          let seen = ap (λ (z : SessionView). z.session) (q.2 ∙ seen_as q.0.seat i.known i.is) in
          omega (arith, below, seen);
    }
      where
        there : (j : ℕ) (t : SessionView) → At j t (views_of ms) → (q : Member) × At j q ms × (t ≡ session_view q.seat)
        there j t at = at_mapped (λ (z : Member). session_view z.seat) ms j t at

  module _ (m : Member) (room : InstalledView) (idle : IsIdle m.seat m.caller) (has : HasRoom room m.seat) (of : IsOf store (session_view m.seat)) (follows : Follows ms m.caller) where
    pub one_more : AreJoined (ms ++ m ∷ []) (rooms ++ room ∷ [])
    one_more =
        let all = more_members ms rooms m room (record { idle = joined.idle; count = joined.count; rooms_are = joined.rooms_are }) idle has in
        record {
          idle = all.idle;
          count = all.count;
          rooms_are = all.rooms_are;
          few = let long = length-append ms (m ∷ []) in let few = follows.room in omega (arith, long, few);
          near = λ i j p q at there. near i j p q (at_last ms m i p at) (at_last ms m j q there);
          ascend = λ i j f g lt a b. ascend i j f g lt a.0 b.0 (at_last ms m i a.0 a.1) (at_last ms m j b.0 b.1) a.2 b.2;
        }
      where
        near : (i j : ℕ) (p q : Member) → (At i p ms ⊎ ((i ≡ length ms) × (p ≡ m)))
            → (At j q ms ⊎ ((j ≡ length ms) × (q ≡ m))) → p.caller.node ≡ q.caller.node
        near i j p q (inl a) (inl b) = joined.near i j p q a b
        near i j p q (inl a) (inr b) = node_of (session_view m.seat) m.caller (member_slot store m idle of) follows i p a ∙ ap (λ (z : Member). z.caller.node) (sym b.1)
        near i j p q (inr a) (inl b) = ap (λ (z : Member). z.caller.node) a.1 ∙ sym (node_of (session_view m.seat) m.caller (member_slot store m idle of) follows j q b)
        near i j p q (inr a) (inr b) = ap (λ (z : Member). z.caller.node) (a.1 ∙ sym b.1)

        ascend : (i j : ℕ) (f g : K) → i < j → (p q : Member) → (At i p ms ⊎ ((i ≡ length ms) × (p ≡ m)))
            → (At j q ms ⊎ ((j ≡ length ms) × (q ≡ m))) → IsSession p.seat f → IsSession q.seat g
            → f.session < g.session
        ascend i j f g lt p q (inl a) (inl b) x y = joined.ascend i j f g lt (p, a, x) (q, b, y)
        ascend i j f g lt p q (inl a) (inr b) x y =
            let low = all_below (session_view m.seat) m.caller (member_slot store m idle of) follows i p f a x in
            let seen = ap (λ (z : SessionView). z.session) (seen_as q.seat g y) ∙ refl in
            let same = ap (λ (z : Member). (session_view z.seat).session) b.1 in
            omega (arith, low, seen, same)
        ascend i j f g lt p q (inr a) (inl b) x y = let below = at_below ms j q b in let e = a.0 in absurd (omega (arith, lt, below, e))
        ascend i j f g lt p q (inr a) (inr b) x y = let e = a.0 in let h = b.0 in absurd (omega (arith, lt, e, h))

  -- a session that may follow has such a slot
  pub may_follow : (s : SessionView) (caller : Caller) → HasSlot store.config s caller
      → MayFollow store.config (views_of ms) s → Follows ms caller
  may_follow s caller slot may = record {
    room = let room = may.room in let long = length-map ms (λ (z : Member). session_view z.seat) in omega (arith, room, long);
    last = λ q at.
        let there = at_map (λ (z : Member). session_view z.seat) ms (length ms - 1) q at in
        let a = slot_at (length ms - 1) q at in
        let n = may.near (length ms - 1) (session_view q.seat) there in
        let x = caller_is store.config.slots q.caller.node n.0 q.caller.slot n.1.0 a.within n.1.1 (sym a.own ∙ n.1.2) in
        let y = caller_is store.config.slots caller.node n.0 caller.slot n.2.0 slot.within n.2.1 (sym slot.own ∙ n.2.2) in
        let same = x.0 ∙ sym y.0 in
        (same, less (caller.node * store.config.slots) q.caller.slot (session_view q.seat).session (a.own ∙ ap (λ z. session store.config z q.caller.slot) same) slot.own (may.above (length ms - 1) (session_view q.seat) there));
  }
    where
      less : (base x n : ℕ) → n ≡ base + x → s.session ≡ base + caller.slot → n < s.session → x < caller.slot
      less base x n a b lt = omega (arith, a, b, lt)

-- ---- the last one

pub record LastOut (ms : List Member) (rooms : List InstalledView) (m : Member) (room : InstalledView) : Type 0 where
  pub joined : AreJoined ms rooms
  pub idle : IsIdle m.seat m.caller
  pub has : HasRoom room m.seat

pub last_out : (ms : List Member) (rooms : List InstalledView) (m : Member) (room : InstalledView)
    → AreJoined (ms ++ m ∷ []) (rooms ++ room ∷ []) → LastOut ms rooms m room
last_out ms rooms m room j = record {
  joined = record {
    idle = λ i p at. j.idle i p (at_front ms (m ∷ []) i p at);
    count = count;
    rooms_are = λ i p r at there. j.rooms_are i p r (at_front ms (m ∷ []) i p at) (at_front rooms (room ∷ []) i r there);
    few = let long = length-append ms (m ∷ []) in let few = j.few in omega (arith, long, few);
    near = λ i k p q at there. j.near i k p q (at_front ms (m ∷ []) i p at) (at_front ms (m ∷ []) k q there);
    ascend = λ i k f g lt a b. j.ascend i k f g lt (a.0, at_front ms (m ∷ []) i a.0 a.1, a.2) (b.0, at_front ms (m ∷ []) k b.0 b.1, b.2);
  };
  idle = j.idle (length ms) m (end ms m);
  has = j.rooms_are (length ms) m room (end ms m) (subst (λ z. At z room (rooms ++ room ∷ [])) count (end rooms room));
}
  where
    count : length rooms ≡ length ms
    count = let long = length-append ms (m ∷ []) in let wide = length-append rooms (room ∷ []) in let same = j.count in omega (arith, long, wide, same)

    end : {A : Type 0} (xs : List A) (x : A) → At (length xs) x (xs ++ x ∷ [])
    end xs x = subst (λ i. At i x (xs ++ x ∷ [])) (no_more (length xs)) (at_behind xs (x ∷ []) 0 x refl)
      where
        no_more : (n : ℕ) → n + 0 ≡ n
        no_more n = omega arith

-- ---- by the same slot

pub follows_too : (store : StoreView) (s : SessionView) (a b : Caller) (ms : List Member) → HasSlot store.config s a
    → HasSlot store.config s b → Follows ms a → Follows ms b
follows_too store s a b ms x y f =
    let e = caller_is store.config.slots a.node b.node a.slot b.slot x.within y.within (sym x.own ∙ y.own) in
    record { room = f.room; last = λ m at. let l = f.last m at in (l.0 ∙ e.0, subst (λ z. m.caller.slot < z) e.1 l.1) }
