-- The sessions of a pipeline: whether they are of one node and ascend, how they come into it, and how they leave it.
use Rattle.std.proofs.Common.{◌≡◌, ℕ, zero, suc, ◌+◌, ◌*◌, ◌/◌, ◌%◌, ◌<◌, ◌≤◌, List, [], ◌∷◌, ◌++◌, append-nil, append_assoc, length, length-append, sym, refl, ap, ◌∙◌, subst, arith, ◌⊎◌, inl, inr, ⊎_elim}
use Rattle.std.proofs.lemmas.Bool.{cases_lt}
use Rattle.std.proofs.lemmas.List.{length-map}
use Rattle.std.specs.Prelude.{slice_index_or}
use Rattle.std.specs.List.{remove}
use Rattle.std.proofs.lemmas.Nat.{div-mul-add, mod-mul-add}
use lib.ListN.{get_elem?}
use mathlib.Core.Option as kernel
use mathlib.Core.Option.{some-injective}
use Rattle.ownlock.specs.Seats.{At}
use Rattle.loader.specs.Installed.{InstalledView}
use Rattle.oplog.specs.declared.configuration.Sizes.{Sizes}
use Rattle.oplog.specs.Sessions.{session}
use Rattle.accounts.proofs.Export.{at_below, at_joined, at_map, at_none}
use Rattle.store_steps.specs.declared.pipelines.Member.{Member}
use Rattle.store_steps.specs.declared.steps.Caller.{Caller}
use Rattle.store_steps.specs.EachMember.{AscendEach}
use Rattle.store_steps.specs.Standing.{StoreSeat}
use Rattle.store_steps.specs.Views.{IsIdle, SessionView, session_view}
use Rattle.store_steps.proofs.Export.{seen_as}
use Rattle.store.specs.Opening.{AreOf}
use Rattle.store.specs.Pipelines.{AreJoined, AreAscending, IsOnNode, views_of}
use Rattle.store.specs.Sessions.{HasRoom, IsOf, StoreView, known_of}

-- ---- slots by their numbers

-- a number has one node and one slot
pub caller_is : (slots m n s t : ℕ) → s < slots → t < slots → m * slots + s ≡ n * slots + t → (m ≡ n) × (s ≡ t)
caller_is slots m n s t hs ht e =
    (sym (div-mul-add m slots s hs) ∙ (ap (λ z. z / slots) e ∙ div-mul-add n slots t ht), sym (mod-mul-add m slots s hs) ∙ (ap (λ z. z % slots) e ∙ mod-mul-add n slots t ht))

-- a session has this slot
pub record HasSlot (config : Sizes) (s : SessionView) (caller : Caller) : Type 0 where
  pub own : s.session ≡ session config caller.node caller.slot
  pub within : caller.slot < config.slots

-- the first n sessions are of this node, by ascending slots, and the next one has at least the slot `lowest`
pub record Checked (config : Sizes) (sessions : List SessionView) (node n lowest : ℕ) : Type 0 where
  pub slots : (j : ℕ) (s : SessionView) → j < n → At j s sessions → IsOnNode config node s
  pub ascend : (i j : ℕ) (s t : SessionView) → i < j → j < n → At i s sessions → At j t sessions → s.session < t.session
  pub under : (j : ℕ) (s : SessionView) → j < n → At j s sessions → s.session < session config node lowest
  -- the last of them has the slot before
  pub last : 0 < lowest
      → (j : ℕ) × (s : SessionView) × (j < n) × At j s sessions × (s.session + 1 ≡ session config node lowest)
  pub reach : n ≤ lowest
  pub within : lowest ≤ config.slots

-- an index is below n, or n
below_or_at : (j n : ℕ) → j < n + 1 → (j < n) ⊎ (j ≡ n)
below_or_at j n lt = ⊎_elim (λ below. inl below) (λ above. inr (omega (arith, above, lt))) (cases_lt j n)

module _ (config : Sizes) (sessions : List SessionView) (node : ℕ) where
  pub none_checked : Checked config sessions node 0 0
  none_checked = record {
    slots = λ j s lt at. absurd (omega (arith, lt));
    ascend = λ i j s t up lt at there. absurd (omega (arith, lt));
    under = λ j s lt at. absurd (omega (arith, lt));
    last = λ lt. absurd (omega (arith, lt));
    reach = omega arith;
    within = omega arith;
  }

  pub one_checked : (n lowest : ℕ) (s : SessionView) (caller : Caller) → Checked config sessions node n lowest
      → At n s sessions → HasSlot config s caller → caller.node ≡ node → lowest ≤ caller.slot
      → Checked config sessions node (n + 1) (caller.slot + 1)
  one_checked n lowest s caller c at has same up = record {
    slots = slots;
    ascend = ascend;
    under = under;
    last = λ lt. (n, s, omega arith, at, next base is);
    reach = let reach = c.reach in omega (arith, reach, up);
    within = let fits = has.within in omega (arith, fits);
  }
    where
      base : ℕ
      base = node * config.slots

      is : s.session ≡ base + caller.slot
      is = has.own ∙ ap (λ z. session config z caller.slot) same

      next : (base : ℕ) → s.session ≡ base + caller.slot → s.session + 1 ≡ base + (caller.slot + 1)
      next base e = omega (arith, e)

      rises : (base x : ℕ) → s.session ≡ base + caller.slot → x < base + lowest → x < s.session
      rises base x e lt = omega (arith, e, lt, up)

      here : (j : ℕ) (t : SessionView) → j ≡ n → At j t sessions → t ≡ s
      here j t e there = some-injective t s (sym there ∙ (ap (λ z. get_elem? sessions z) e ∙ at))

      slots : (j : ℕ) (t : SessionView) → j < n + 1 → At j t sessions → IsOnNode config node t
      slots j t lt there = ⊎_elim (λ below. c.slots j t below there)
          (λ e. (caller.slot, has.within, ap (λ (z : SessionView). z.session) (here j t e there) ∙ is)) (below_or_at j n lt)

      ascend : (i j : ℕ) (t u : SessionView) → i < j → j < n + 1 → At i t sessions → At j u sessions
          → t.session < u.session
      ascend i j t u less lt there then = ⊎_elim (λ below. c.ascend i j t u less below there then)
          (λ e. subst (λ (z : SessionView). t.session < z.session) (sym (here j u e then)) (rises base t.session is (c.under i t (omega (arith, less, e)) there))) (below_or_at j n lt)

      under : (j : ℕ) (t : SessionView) → j < n + 1 → At j t sessions → t.session < base + (caller.slot + 1)
      under j t lt there = ⊎_elim (λ below. over base t.session (rises base t.session is (c.under j t below there)) is)
          (λ e. subst (λ (z : SessionView). z.session < base + (caller.slot + 1)) (sym (here j t e there)) (top base is)) (below_or_at j n lt)
        where
          over : (base x : ℕ) → x < s.session → s.session ≡ base + caller.slot → x < base + (caller.slot + 1)
          over base x lt e = omega (arith, lt, e)

          top : (base : ℕ) → s.session ≡ base + caller.slot → s.session < base + (caller.slot + 1)
          top base e = omega (arith, e)

  pub all_checked : (n lowest : ℕ) → Checked config sessions node n lowest → n ≡ length sessions → 0 < length sessions
      → AreAscending config sessions
  all_checked n lowest c all some = record {
    node = node;
    some = some;
    slots = λ j s at. c.slots j s (let below = at_below sessions j s at in omega (arith, below, all)) at;
    ascend = λ i j s t up at there. c.ascend i j s t up (let below = at_below sessions j t there in omega (arith, below, all)) at there;
  }

  -- one of another node than the first, or of a lower slot than the next one may have
  pub are_no_neighbours : (n lowest : ℕ) (s t : SessionView) (first caller : Caller)
      → Checked config sessions node n lowest → At 0 s sessions → HasSlot config s first → first.node ≡ node
      → At n t sessions → HasSlot config t caller
      → (caller.node ≡ node → lowest ≤ caller.slot → ⊥) → AreAscending config sessions → ⊥
  are_no_neighbours n lowest s t first caller c at_s has_s of at_t has_t differs are =
      let a = are.slots 0 s at_s in
      let b = are.slots n t at_t in
      let one = caller_is config.slots first.node are.node first.slot a.0 has_s.within a.1 (sym has_s.own ∙ a.2) in
      let two = caller_is config.slots caller.node are.node caller.slot b.0 has_t.within b.1 (sym has_t.own ∙ b.2) in
      let same : caller.node ≡ node = two.0 ∙ (sym one.0 ∙ of) in
      ⊎_elim (λ low. not_lower low same) (λ high. differs same (omega (arith, high))) (cases_lt caller.slot lowest)
    where
      lower : (base x y : ℕ) → caller.slot < lowest → y ≡ base + caller.slot → x + 1 ≡ base + lowest → x < y → ⊥
      lower base x y low is last up = omega (arith, low, is, last, up)

      not_lower : caller.slot < lowest → caller.node ≡ node → ⊥
      not_lower low same =
          let last = c.last (omega (arith, low)) in
          lower (node * config.slots) last.1.session t.session low (has_t.own ∙ ap (λ z. session config z caller.slot) same) last.4 (are.ascend last.0 n last.1 t last.2 last.3 at_t)

-- ---- lists

module _ {A : Type 0} where
  -- an element that is read stands there
  pub at_read : (xs : List A) (n : ℕ) (x : A) → n < length xs → x ≡ slice_index_or xs n x → At n x xs
  at_read [] n x lt is = absurd (omega (arith, lt))
  at_read (y ∷ xs) zero x lt is = ap kernel.some (sym is)
  at_read (y ∷ xs) (suc n) x lt is = at_read xs n x (omega (arith, lt)) is

  -- the first that is taken out
  pub first_out : (xs rest : List A) (x : A) → 0 < length xs → x ≡ slice_index_or xs 0 x → rest ≡ remove xs 0
      → xs ≡ x ∷ rest
  first_out [] rest x some is left = absurd (omega (arith, some))
  first_out (y ∷ xs) rest x some is left = λ i. sym is i ∷ sym left i

  pub none_left : (xs : List A) → length xs ≡ 0 → xs ≡ []
  none_left [] e = refl
  none_left (x ∷ xs) e = absurd (omega (arith, e))

  -- an element of a list with one more is of the list, or the last
  pub at_last : (xs : List A) (x : A) (j : ℕ) (a : A) → At j a (xs ++ x ∷ []) → At j a xs ⊎ ((j ≡ length xs) × (a ≡ x))
  at_last xs x j a at = ⊎_elim (λ h. inl h) (λ t. inr (only t.0 t.1 t.2)) (at_joined xs (x ∷ []) j a at)
    where
      only : (i : ℕ) → j ≡ length xs + i → At i a (x ∷ []) → (j ≡ length xs) × (a ≡ x)
      only zero e here = (omega (arith, e), sym (some-injective x a here))
      only (suc i) e here = absurd (at_none i a here)

more_views : (ms : List Member) (m : Member) → views_of (ms ++ m ∷ []) ≡ views_of ms ++ session_view m.seat ∷ []
more_views [] m = refl
more_views (n ∷ ms) m = ap (λ z. session_view n.seat ∷ z) (more_views ms m)

-- a seat of one session is seen as that session
pub seat_seen : (seat : StoreSeat) (s : SessionView) → seat.shelf ≡ s.shelf → seat.sessions ≡ known_of s ∷ []
    → session_view seat ≡ s
seat_seen seat s shelf known = λ i. session_view (record { shelf = shelf i; sessions = known i })

-- ---- into the pipeline

-- each of these members is idle, and has its room
pub record AreIdleMembers (ms : List Member) (rooms : List InstalledView) : Type 0 where
  pub idle : (j : ℕ) (m : Member) → At j m ms → IsIdle m.seat m.caller
  pub count : length rooms ≡ length ms
  pub rooms_are : (j : ℕ) (m : Member) (r : InstalledView) → At j m ms → At j r rooms → HasRoom r m.seat

pub no_members : AreIdleMembers [] []
no_members = record { idle = λ j m at. absurd (at_none j m at); count = refl; rooms_are = λ j m r at there. absurd (at_none j m at) }

pub more_members : (ms : List Member) (rooms : List InstalledView) (m : Member) (room : InstalledView)
    → AreIdleMembers ms rooms → IsIdle m.seat m.caller → HasRoom room m.seat
    → AreIdleMembers (ms ++ m ∷ []) (rooms ++ room ∷ [])
more_members ms rooms m room a idle has = record {
  idle = λ j n at. ⊎_elim (λ h. a.idle j n h) (λ e. subst (λ (z : Member). IsIdle z.seat z.caller) (sym e.1) idle) (at_last ms m j n at);
  count = let long = length-append ms (m ∷ []) in let wide = length-append rooms (room ∷ []) in let same = a.count in omega (arith, long, wide, same);
  rooms_are = rooms_are;
}
  where
    rooms_are : (j : ℕ) (n : Member) (r : InstalledView) → At j n (ms ++ m ∷ []) → At j r (rooms ++ room ∷ [])
        → HasRoom r n.seat
    rooms_are j n r at there = ⊎_elim (λ h. ⊎_elim (λ g. a.rooms_are j n r h g) (λ f. let below = at_below ms j n h in let same = a.count in let e = f.0 in absurd (omega (arith, below, same, e))) (at_last rooms room j r there))
        (λ e. ⊎_elim (λ g. let below = at_below rooms j r g in let same = a.count in let f = e.0 in absurd (omega (arith, below, same, f))) (λ f. subst (λ (z : InstalledView × Member). HasRoom z.0 z.1.seat) (λ i. (sym f.1 i, sym e.1 i)) has) (at_last rooms room j r there)) (at_last ms m j n at)

-- some sessions have come into the pipeline, and the others are left
pub record Joining (all : List SessionView) (ms : List Member) (rooms : List InstalledView) (rest : List SessionView) : Type 0 where
  pub split : views_of ms ++ rest ≡ all
  pub members : AreIdleMembers ms rooms

pub joining_first : (all : List SessionView) (ms : List Member) (rooms : List InstalledView) → ms ≡ [] → rooms ≡ []
    → Joining all ms rooms all
joining_first all ms rooms none empty = subst (λ (z : List Member × List InstalledView). Joining all z.0 z.1 all) (λ i. (sym none i, sym empty i)) (record { split = refl; members = no_members })

pub joining_more : (all : List SessionView) (ms : List Member) (rooms : List InstalledView) (before rest : List SessionView) (s : SessionView) (seat : StoreSeat) (caller : Caller) (room : InstalledView)
    → Joining all ms rooms before → before ≡ s ∷ rest → seat.shelf ≡ s.shelf → seat.sessions ≡ known_of s ∷ []
    → IsIdle seat caller → HasRoom room seat
    → Joining all (ms ++ record { seat = seat; caller = caller } ∷ []) (rooms ++ room ∷ []) rest
joining_more all ms rooms before rest s seat caller room g is shelf known idle has = record {
  split = ap (λ z. z ++ rest) (more_views ms (record { seat = seat; caller = caller }) ∙ ap (λ z. views_of ms ++ z ∷ []) (seat_seen seat s shelf known)) ∙ (append_assoc (views_of ms) (s ∷ []) rest ∙ (ap (λ z. views_of ms ++ z) (sym is) ∙ g.split));
  members = more_members ms rooms (record { seat = seat; caller = caller }) room g.members idle has;
}

-- ---- the sessions in the pipeline

pub has_slot : (store : StoreView) (s : SessionView) (caller : Caller) → IsOf store s
    → s.session ≡ session s.progress.config caller.node caller.slot → caller.slot < s.progress.config.slots
    → HasSlot store.config s caller
has_slot store s caller of own within = record { own = own ∙ ap (λ z. session z caller.node caller.slot) of.config; within = subst (λ (z : Sizes). caller.slot < z.slots) of.config within }

-- a member's session is that of its slot
pub member_slot : (store : StoreView) (m : Member) → IsIdle m.seat m.caller → IsOf store (session_view m.seat)
    → HasSlot store.config (session_view m.seat) m.caller
member_slot store m i of =
    let seen = seen_as m.seat i.known i.is in
    has_slot store (session_view m.seat) m.caller of (ap (λ (z : SessionView). z.session) seen ∙ (i.free.own ∙ ap (λ (z : SessionView). session z.progress.config m.caller.node m.caller.slot) (sym seen)))
    (subst (λ (z : SessionView). m.caller.slot < z.progress.config.slots) (sym seen) i.free.within)

module _ (store : StoreView) (ms : List Member) (rooms : List InstalledView) (are : AreIdleMembers ms rooms) (own : AreOf store (views_of ms)) (near : AreAscending store.config (views_of ms)) where
  node_is : (j : ℕ) (m : Member) → At j m ms → m.caller.node ≡ near.node
  node_is j m at =
      let there = at_map (λ (z : Member). session_view z.seat) ms j m at in
      let has = member_slot store m (are.idle j m at) (own j (session_view m.seat) there) in
      let slot = near.slots j (session_view m.seat) there in
      (caller_is store.config.slots m.caller.node near.node m.caller.slot slot.0 has.within slot.1 (sym has.own ∙ slot.2)).0

  ascend : AscendEach ms
  ascend i j f g lt a b =
      let low = ap (λ (z : SessionView). z.session) (seen_as a.0.seat f a.2) in
      let high = ap (λ (z : SessionView). z.session) (seen_as b.0.seat g b.2) in
      let up = near.ascend i j (session_view a.0.seat) (session_view b.0.seat) lt (at_map (λ (z : Member). session_view z.seat) ms i a.0 a.1) (at_map (λ (z : Member). session_view z.seat) ms j b.0 b.1) in
      omega (arith, low, high, up)

  pub are_joined : length ms ≤ 16 → AreJoined ms rooms
  are_joined few = record {
    idle = are.idle;
    count = are.count;
    rooms_are = are.rooms_are;
    few = few;
    near = λ i j m n at there. node_is i m at ∙ sym (node_is j n there);
    ascend = ascend;
  }

pub all_joined : (store : StoreView) (all : List SessionView) (ms : List Member) (rooms : List InstalledView) (rest : List SessionView)
    → Joining all ms rooms rest → rest ≡ [] → AreOf store all → AreAscending store.config all → length all ≤ 16
    → AreJoined ms rooms × (views_of ms ≡ all)
all_joined store all ms rooms rest g none own near few =
    let is : views_of ms ≡ all = sym (append-nil (views_of ms)) ∙ (ap (λ z. views_of ms ++ z) (sym none) ∙ g.split) in
    let long : length ms ≡ length all = sym (length-map ms (λ (z : Member). session_view z.seat)) ∙ ap length is in
    (are_joined store ms rooms g.members (subst (AreOf store) (sym is) own) (subst (AreAscending store.config) (sym is) near) (omega (arith, few, long)), is)

-- ---- out of the pipeline

-- some sessions have left the pipeline, and the others are members still
pub record Leaving (all out : List SessionView) (ms : List Member) (rooms : List InstalledView) : Type 0 where
  pub split : out ++ views_of ms ≡ all
  pub members : AreIdleMembers ms rooms

pub leaving_first : (ms : List Member) (rooms : List InstalledView) (out : List SessionView) → AreJoined ms rooms
    → out ≡ [] → Leaving (views_of ms) out ms rooms
leaving_first ms rooms out j none = record { split = ap (λ z. z ++ views_of ms) none; members = record { idle = j.idle; count = j.count; rooms_are = j.rooms_are } }

pub leaving_more : (all before out : List SessionView) (m : Member) (ms : List Member) (room : InstalledView) (rooms : List InstalledView) (s : SessionView)
    → Leaving all before (m ∷ ms) (room ∷ rooms) → s ≡ session_view m.seat → out ≡ before ++ s ∷ []
    → Leaving all out ms rooms
leaving_more all before out m ms room rooms s g seen is = record {
  split = ap (λ z. z ++ views_of ms) (is ∙ ap (λ z. before ++ z ∷ []) seen) ∙ (append_assoc before (session_view m.seat ∷ []) (views_of ms) ∙ g.split);
  members = record {
    idle = λ j n at. g.members.idle (suc j) n at;
    count = let same = g.members.count in omega (arith, same);
    rooms_are = λ j n r at there. g.members.rooms_are (suc j) n r at there;
  };
}
