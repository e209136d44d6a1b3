-- The members of a pipeline post one after the other.
use Rattle.std.proofs.Common.{◌≡◌, ◌≢◌, ℕ, zero, suc, ◌+◌, ◌-◌, ◌*◌, ◌<◌, ◌≤◌, ◌^◌, List, [], ◌∷◌, length, map, set, slice_index_or, sym, refl, ap, ◌∙◌, subst, arith, ⊎_elim, Some}
use lib.ListN.{get_elem?}
use mathlib.Core.Option.{some-injective}
use Rattle.std.proofs.lemmas.Bool.{cases_lt}
use Rattle.atomic_table.proofs.Lists.{at_index, set_else, set_here}
use Rattle.ownlock.proofs.Export.{one_known}
use Rattle.ownlock.specs.Held.{held_place}
use Rattle.ownlock.specs.Seats.{At, IsSession, TookNext}
use Rattle.ownlock.specs.declared.shelf.Held.{Held}
use Rattle.oplog.specs.Operations.{Operation}
use Rattle.combiner.specs.Desks.{BatchView, DeskView, batch_of, first_author, posted}
use Rattle.accounts.specs.Moves.{IsAtRest}
use Rattle.store_steps.specs.declared.desks.Turn.{Turn}
use Rattle.store_steps.specs.declared.desks.Turn.TheVariants.{Combines}
use Rattle.accounts.proofs.Export.{at_below, at_none, at_one, at_there}
use Rattle.accounts.specs.declared.sessions.SessionNote.{SessionNote}
use Rattle.store_steps.specs.declared.pipelines.Member.{Member}
use Rattle.store_steps.specs.declared.steps.Question.{Question}
use Rattle.store_steps.specs.declared.steps.Shared.{Shared}
use Rattle.store_steps.specs.declared.values.Value.{Value}
use Rattle.store_steps.specs.Asking.{asked_op}
use Rattle.store_steps.specs.AtOnce.{IsAlone, MayAsk}
use Rattle.store_steps.specs.Knowing.{IsOn}
use Rattle.store_steps.specs.Lending.{desk_of}
use Rattle.store_steps.specs.Pipelines.{Asks, Begins, HasDesk, HasNoCombiner, HoldsAt, IsDesk, IsNext, IsPosted, IsTurnThere, KnownAt, MayAskAt, MayPostWith, PostsAt, SameSpots, SessionHands, here_of, spot_of}
use Rattle.store_steps.specs.Standing.{IsFree, SessionKnown, StoreSeat}
use Rattle.store_steps.specs.Visits.{TakesNext}
use Rattle.store_steps.proofs.Gathered.{post_asks, post_keeps, post_leaves_free, turn_claims}
use Rattle.store_steps.proofs.Handing.{desk_is, taken}
use Rattle.store_steps.proofs.Parts.{has_desk}

abbrev K : Type 0
K = SessionKnown

-- ---- lists of members

pub map_set : {A B : Type 0} (f : A → B) (xs : List A) (i : ℕ) (x y : A) → At i x xs → f y ≡ f x → map f (set xs i y) ≡ map f xs
map_set f [] i x y at same = refl
map_set f (z ∷ xs) zero x y at same = λ j. (same ∙ ap f (sym (some-injective z x at))) j ∷ map f xs
map_set f (z ∷ xs) (suc i) x y at same = ap (λ l. f z ∷ l) (map_set f xs i x y at same)

-- two members are set, which stay where they are
pub set_both : (members : List Member) (i j : ℕ) (a b x y : Member) → i ≢ j → At i a members → At j b members → spot_of x ≡ spot_of a → spot_of y ≡ spot_of b → map spot_of (set (set members i x) j y) ≡ map spot_of members
set_both members i j a b x y apart at_a at_b same_a same_b =
    map_set spot_of (set members i x) j b y (set_else members i j x (λ e. apart (sym e)) ∙ at_b) same_b ∙ map_set spot_of members i a x at_a same_a

pub set_first : (members : List Member) (i j : ℕ) (a x y : Member) → i ≢ j → At i a members → At i x (set (set members i x) j y)
set_first members i j a x y apart at_a = set_else (set members i x) j i y apart ∙ set_here members i x (at_below members i a at_a)

pub set_second : (members : List Member) (i j : ℕ) (b x y : Member) → i ≢ j → At j b members → At j y (set (set members i x) j y)
set_second members i j b x y apart at_b = set_here (set members i x) j y (at_below (set members i x) j b (set_else members i j x (λ e. apart (sym e)) ∙ at_b))

pub set_neither : (members : List Member) (i j : ℕ) (x y : Member) (n : ℕ) → n ≢ i → n ≢ j → get_elem? (set (set members i x) j y) n ≡ get_elem? members n
set_neither members i j x y n ni nj = set_else (set members i x) j n y nj ∙ set_else members i n x ni

pub known_as : (members : List Member) (j : ℕ) (f : K) (p : Member) → At j p members → KnownAt members j f → IsSession p.seat f
known_as members j f p at k = subst (λ (z : Member). IsSession z.seat f) (at_one members j k.0 p k.1 at) k.2

pub set_size : {A : Type 0} (xs : List A) (i : ℕ) (x : A) → length (set xs i x) ≡ length xs
set_size [] i x = refl
set_size (y ∷ xs) zero x = refl
set_size (y ∷ xs) (suc i) x = ap suc (set_size xs i x)

-- a member by its number
pub member_at : (members : List Member) (i : ℕ) (p : Member) → i < length members → p ≡ slice_index_or members i p → At i (slice_index_or members i p) members
member_at members i p lt is = subst (λ z. At i z members) is (at_index members i p lt is)

-- the second of two members that are set
pub second_at : (members : List Member) (i j : ℕ) (new p : Member) → j ≢ i → j < length members → p ≡ slice_index_or (set members i new) j p → At j (slice_index_or (set members i new) j p) members
second_at members i j new p apart lt is = sym (set_else members i j new apart) ∙ member_at (set members i new) j p (let same = set_size members i new in omega (arith, lt, same)) is

pub or_at : (qs : List Question) (n : ℕ) (d q : Question) → At n q qs → slice_index_or qs n d ≡ q
or_at [] n d q at = absurd (at_none n q at)
or_at (x ∷ qs) zero d q at = some-injective x q at
or_at (x ∷ qs) (suc n) d q at = or_at qs n d q at

-- ---- at a desk that a member has

module _ (shared : Shared) (s : StoreSeat) (h : Held Value) (member : Member) (f t : K) (d : HasDesk s (here_of shared member) h f t) (place : IsDesk (here_of shared member) h) where
  pub desk_here : (x : DeskView) × (desk_of h.value ≡ Some x)
  desk_here = let b = taken s (here_of shared member) h f t d place in (b.desk, has_desk h.value b.desk b.seen)

  -- which slot is its own
  pub author_here : (x : DeskView) → desk_of h.value ≡ Some x → f.session ≡ first_author x + member.caller.slot
  author_here x is =
      let b = taken s (here_of shared member) h f t d place in
      let same = desk_is h.value b.desk x (has_desk h.value b.desk b.seen) is in
      sym b.session ∙ (b.here.own ∙ (ap (λ n. b.desk.node * n + member.caller.slot) (sym b.here.agrees.slots) ∙ ap (λ (z : DeskView). first_author z + member.caller.slot) same))

-- two sessions that had the desk in one seat have the same note
pub same_note : (shared : Shared) (s : StoreSeat) (h : Held Value) (member : Member) (f t k u : K) → HasDesk s (here_of shared member) h f t → HasDesk s (here_of shared member) h k u → IsDesk (here_of shared member) h → f.note ≡ k.note
same_note shared s h member f t k u d e place =
    let a = taken s (here_of shared member) h f t d place in let b = taken s (here_of shared member) h k u e place in
    sym a.note ∙ (ap (λ (z : K). z.note) (one_known s t u d.is e.is) ∙ b.note)

pub alone_by : (f k : K) → f.note ≡ k.note → IsAlone k → IsAlone f
alone_by f k same a = record {
  rests = subst IsAtRest (sym same) a.rests;
  alone = ap (λ (n : SessionNote). n.batch) same ∙ a.alone;
  few = subst (λ (n : SessionNote). suc (length n.answered) < 2 ^ 64) (sym same) a.few;
}

-- who may post: the last member, which has the desk, or one before it
module _ (shared : Shared) (old : List Member) (from : ℕ) (s0 : StoreSeat) (h0 : Held Value) (has : (member : Member) → At from member old → MayPostWith (here_of shared member) s0 h0) (idle : (j : ℕ) → j < from → MayAskAt shared old j) where
  pub may_now : (number : ℕ) → number ≤ from → number < length old → (f : K) × Begins shared old from s0 h0 number f
  may_now number le lt = ⊎_elim
      (λ before. let p = at_there old number lt in let m = idle number before p.0 p.1 in (m.0, ((λ e. absurd (omega (arith, e, before))), λ n. (p.0, p.1, m.1))))
      (λ not.
      let same : number ≡ from = omega (arith, not, le) in
      let p = at_there old from (omega (arith, same, lt)) in
      let m = (has p.0 p.1).1 in
      (m.0, ((λ e. (p.0, m.1, subst (λ i. At i p.0 old) (sym same) p.1, m.2)), λ n. absurd (n same))))
      (cases_lt number from)

  pub alone_now : (number : ℕ) → number ≤ from → (f : K) → Begins shared old from s0 h0 number f → IsAlone f
  alone_now number le f b = ⊎_elim
      (λ before.
      let known = b.1 (λ e. omega (arith, e, before)) in
      let m = idle number before known.0 known.1 in
      subst IsAlone (one_known known.0.seat m.0 f m.1 known.2) m.3)
      (λ not.
      let same : number ≡ from = omega (arith, not, le) in
      let w = b.0 same in
      let m = has w.0 (subst (λ i. At i w.0 old) same w.2) in
      alone_by f m.1.0 (same_note shared s0 h0 w.0 f w.1 m.1.0 m.1.1 w.3 m.1.2 m.0) m.1.3)
      (cases_lt number from)

-- ---- while they post

-- the members after the number have posted, the member of the number has the desk, and those before it are as they were
pub record Posting (shared : Shared) (old : List Member) (calls : List Question) (s0 : StoreSeat) (h0 : Held Value) (members : List Member) (number : ℕ) (at : StoreSeat) (h : Held Value) : Type 0 where
  pub spots : SameSpots old members
  pub shelf : at.shelf ≡ shared.shelf.now.id
  pub upto : number < length calls
  pub before : (i : ℕ) → i < number → get_elem? members i ≡ get_elem? old i
  pub holder : (f : K) → Begins shared old (length calls - 1) s0 h0 number f → HoldsAt shared members at h number f
  pub desk : (member : Member) → At number member members → IsDesk (here_of shared member) h
  pub posted : (j : ℕ) (f : K) (q : Question) → number < j → At j q calls → Begins shared old (length calls - 1) s0 h0 j f → PostsAt members j f (asked_op q)
  pub free : HasNoCombiner h0 → HasNoCombiner h
  pub asks : (x : DeskView) (j : ℕ) (f : K) → desk_of h.value ≡ Some x → number < j → Begins shared old (length calls - 1) s0 h0 j f → Asks x f
  pub next : (j : ℕ) (f a b : K) → number < j → suc j < length calls → Begins shared old (length calls - 1) s0 h0 j f → KnownAt members j a → KnownAt members (suc j) b → TakesNext b f a
  pub comes : (t b : K) → suc number < length calls → IsSession at t → KnownAt members (suc number) b → TookNext b.run (held_place h) h.value t

module _ (shared : Shared) (old : List Member) (calls : List Question) (s0 : StoreSeat) (h0 : Held Value) where
  abbrev Starts : ℕ → K → Type 0
  Starts = Begins shared old (length calls - 1) s0 h0

  pub has_now : (members : List Member) (number : ℕ) (at : StoreSeat) (h : Held Value) → Posting shared old calls s0 h0 members number at h → (own : Member) → At number own members → (f : K) → Starts number f → (t : K) × HasDesk at (here_of shared own) h f t
  has_now members number at h inv own at_own f b = let w = inv.holder f b in (w.1, subst (λ (z : Member). HasDesk at (here_of shared z) h f w.1) (at_one members number w.0 own w.2 at_own) w.3)

  -- the member of the number posts, and hands the desk on to the member m, which comes before it
  module _ (members : List Member) (number : ℕ) (at : StoreSeat) (h : Held Value) (inv : Posting shared old calls s0 h0 members number at h) (m : ℕ) (is : number ≡ suc m) (before own : Member) (at_m : At m before members) (at_own : At number own members)
      (idle : (j : ℕ) → j + 1 < length calls → MayAskAt shared old j) (near : own.caller.node ≡ before.caller.node) (next : StoreSeat) (split : (k : K) (ks : List K) → before.seat.sessions ≡ k ∷ ks → next.sessions ≡ k ∷ []) where
    m_before : m ≢ number
    m_before e = omega (arith, e, is)

    was_m : (member : Member) → At m member old → member ≡ before
    was_m member there = at_one members m member before (inv.before m (omega (arith, is)) ∙ there) at_m

    at_old : At m before old
    at_old = sym (inv.before m (omega (arith, is))) ∙ at_m

    not_last : (m : ℕ) → number ≡ suc m → m ≢ length calls - 1
    not_last n e f = let up = inv.upto in omega (arith, e, f, up)

    asks_m : MayAsk before.seat before.caller shared
    asks_m = idle m (let up = inv.upto in omega (arith, is, up)) before at_old

    free_m : (f : K) → IsSession before.seat f → IsFree before.caller f
    free_m f known = subst (λ z. IsFree before.caller z) (one_known before.seat asks_m.0 f asks_m.1 known) asks_m.2

    on_m : (f : K) → IsSession before.seat f → IsOn shared f
    on_m f known = subst (λ z. IsOn shared z) (one_known before.seat asks_m.0 f asks_m.1 known) asks_m.4

    pub next_is : (f : K) → IsSession before.seat f → IsNext next (here_of shared own) f
    next_is f known = record {
      is = split f [] known;
      slot = before.caller.slot;
      free = subst (λ n. IsFree (record { node = n; slot = before.caller.slot }) f) (sym near) (free_m f known);
      on = on_m f known;
    }

    pub next_some : (f : K) × IsNext next (here_of shared own) f
    next_some = (asks_m.0, next_is asks_m.0 asks_m.1)

    module _ (cur : (f : K) × Starts number f) (alone : (f : K) → Starts number f → IsAlone f) (hollow done : StoreSeat) (hs : hollow.shelf ≡ before.seat.shelf) (ds : done.shelf ≡ own.seat.shelf) (members2 : List Member) (sets : members2 ≡ set (set members m (record before { seat = hollow })) number (record own { seat = done }))
        (at2 : StoreSeat) (shelf2 : at2.shelf ≡ shared.shelf.now.id) (h2 : Held Value) (op : Operation) (op_is : (q : Question) → At number q calls → op ≡ asked_op q)
        (hands : SessionHands at at2 next done (here_of shared own) h h2 op) (posts : IsPosted (here_of shared own) op h h2) (place2 : IsDesk (here_of shared own) h2) where
      in_two : (n : ℕ) (p : Member) → At n p (set (set members m (record before { seat = hollow })) number (record own { seat = done })) → At n p members2
      in_two n p a = ap (λ z. get_elem? z n) sets ∙ a

      has : (f : K) → Starts number f → (t : K) × HasDesk at (here_of shared own) h f t
      has f b = let w = inv.holder f b in (w.1, subst (λ (z : Member). HasDesk at (here_of shared z) h f w.1) (at_one members number w.0 own w.2 at_own) w.3)

      x_here : (x : DeskView) × (desk_of h.value ≡ Some x)
      x_here = let w = has cur.0 cur.1 in desk_here shared at h own cur.0 w.0 w.1 (inv.desk own at_own)

      holder2 : (f : K) → Starts m f → HoldsAt shared members2 at2 h2 m f
      holder2 f b =
          let known = b.1 (not_last m is) in
          let known_b : IsSession before.seat f = subst (λ (z : Member). IsSession z.seat f) (was_m known.0 known.1) known.2 in
          let n = next_is f known_b in
          let w = has cur.0 cur.1 in
          let p = (hands cur.0 w.0 f w.1 (alone cur.0 cur.1) n).handed in
          (record before { seat = hollow }, p.now, in_two m (record before { seat = hollow }) (set_first members m number before (record before { seat = hollow }) (record own { seat = done }) m_before at_m), record { is = p.is; free = free_m f known_b; on = on_m f known_b; took = p.took })

      posted2 : (j : ℕ) (f : K) (q : Question) → m < j → At j q calls → Starts j f → PostsAt members2 j f (asked_op q)
      posted2 j f q lt there b = ⊎_elim
          (λ above. let p = inv.posted j f q above there b in
          (p.0, (p.1.0, in_two j p.1.0 (set_neither members m number (record before { seat = hollow }) (record own { seat = done }) j (λ e. omega (arith, e, lt)) (λ e. omega (arith, e, above)) ∙ p.1.1), p.1.2), p.2, p.3))
          (λ not.
          let same : j ≡ number = omega (arith, not, lt, is) in
          let b2 = subst (λ i. Starts i f) same b in
          let w = has f b2 in
          let r = next_some in
          let p = hands f w.0 r.0 w.1 (alone f b2) r.1 in
          let e = op_is q (subst (λ i. At i q calls) same there) in
          subst (λ i. PostsAt members2 i f (asked_op q)) (sym same)
          (subst (λ o. PostsAt members2 number f o) e
          (p.asked, (record own { seat = done }, in_two number (record own { seat = done }) (set_second members m number own (record before { seat = hollow }) (record own { seat = done }) m_before at_own), p.handed.done_is), p.posted, p.posts)))
          (cases_lt number j)

      becomes : (y : DeskView) → desk_of h2.value ≡ Some y → posted own.caller.slot op x_here.0 ≡ Some y
      becomes y e = posts x_here.0 x_here.1 ∙ e

      asks2 : (y : DeskView) (j : ℕ) (f : K) → desk_of h2.value ≡ Some y → m < j → Starts j f → Asks y f
      asks2 y j f e lt b = ⊎_elim
          (λ above. post_keeps f own.caller.slot op x_here.0 y (becomes y e) (inv.asks x_here.0 j f x_here.1 above b))
          (λ not.
          let b2 = subst (λ i. Starts i f) (omega (arith, not, lt, is)) b in
          let w = has f b2 in
          post_asks f own.caller.slot op x_here.0 y (becomes y e) (author_here shared at h own f w.0 w.1 (inv.desk own at_own) x_here.0 x_here.1))
          (cases_lt number j)

      -- a member that is neither has the session that it had
      was_known : (j : ℕ) (f : K) → j ≢ m → j ≢ number → KnownAt members2 j f → KnownAt members j f
      was_known j f nm nn known = (known.0, sym (ap (λ z. get_elem? z j) sets ∙ set_neither members m number (record before { seat = hollow }) (record own { seat = done }) j nm nn) ∙ known.1, known.2)

      -- the member of the number is the session that handed the desk on
      handed_on : (f t a : K) (d : HasDesk at (here_of shared own) h f t) (alone : IsAlone f) → KnownAt members2 number a → (hands f t next_some.0 d alone next_some.1).asked ≡ a
      handed_on f t a d alone known =
          let p = hands f t next_some.0 d alone next_some.1 in
          let w = known_as members2 number a (record own { seat = done }) (in_two number (record own { seat = done }) (set_second members m number own (record before { seat = hollow }) (record own { seat = done }) m_before at_own)) known in
          one_known done p.asked a p.handed.done_is w

      next2 : (j : ℕ) (f a b : K) → m < j → suc j < length calls → Starts j f → KnownAt members2 j a → KnownAt members2 (suc j) b → TakesNext b f a
      next2 j f a b lt few starts is_a is_b = ⊎_elim
          (λ above. inv.next j f a b above few starts (was_known j a (λ e. omega (arith, e, lt)) (λ e. omega (arith, e, above)) is_a) (was_known (suc j) b (λ e. omega (arith, e, lt)) (λ e. omega (arith, e, above)) is_b))
          (λ not.
          let same : j ≡ number = omega (arith, not, lt, is) in
          let b2 = subst (λ i. Starts i f) same starts in
          let w = has f b2 in
          let up : suc number < length calls = omega (arith, same, few) in
          let is_b2 = subst (λ i. KnownAt members2 (suc i) b) same is_b in
          let after = was_known (suc number) b (λ e. omega (arith, e, is)) (λ e. omega (arith, e)) is_b2 in
          let is_a2 = subst (λ i. KnownAt members2 i a) same is_a in
          let p = hands f w.0 next_some.0 w.1 (alone f b2) next_some.1 in
          subst (TakesNext b f) (handed_on f w.0 a w.1 (alone f b2) is_a2)
          (record { place = held_place h; value = h.value; now = w.0; took = w.1.took; next = inv.comes w.0 b up w.1.is after; put = p.handed.put }))
          (cases_lt number j)

      comes2 : (t b : K) → suc m < length calls → IsSession at2 t → KnownAt members2 (suc m) b → TookNext b.run (held_place h2) h2.value t
      comes2 t b few at_t is_b =
          let w = has cur.0 cur.1 in
          let p = hands cur.0 w.0 next_some.0 w.1 (alone cur.0 cur.1) next_some.1 in
          let is_b2 = subst (λ i. KnownAt members2 i b) (sym is) is_b in
          subst (λ (z : K × K). TookNext z.0.run (held_place h2) h2.value z.1) (λ i. (handed_on cur.0 w.0 b w.1 (alone cur.0 cur.1) is_b2 i, one_known at2 p.handed.now t p.handed.is at_t i)) p.handed.next

      pub posting_on : Posting shared old calls s0 h0 members2 m at2 h2
      posting_on = record {
        spots = ap (map spot_of) sets ∙ (set_both members m number before own (record before { seat = hollow }) (record own { seat = done }) m_before at_m at_own (λ i. (before.caller, hs i)) (λ i. (own.caller, ds i)) ∙ inv.spots);
        shelf = shelf2;
        upto = let up = inv.upto in omega (arith, up, is);
        before = λ i lt. ap (λ z. get_elem? z i) sets ∙ (set_neither members m number (record before { seat = hollow }) (record own { seat = done }) i (λ e. omega (arith, e, lt)) (λ e. omega (arith, e, lt, is)) ∙ inv.before i (omega (arith, lt, is)));
        holder = holder2;
        desk = λ member there. let same = at_one members2 m member (record before { seat = hollow }) there (in_two m (record before { seat = hollow }) (set_first members m number before (record before { seat = hollow }) (record own { seat = done }) m_before at_m)) in (
          place2.0
              ∙ ap (λ n. 1 + shared.nodes + n) (near ∙ ap (λ (z : Member). z.caller.node) (sym same)),
          place2.1,
        );
        posted = posted2;
        free = λ none y e. post_leaves_free own.caller.slot op x_here.0 y (becomes y e) (inv.free none x_here.0 x_here.1);
        asks = asks2;
        next = next2;
        comes = comes2;
      }

-- ---- the first member claims

-- what the first member finds at its desk, once it has posted
pub record Claiming (member : Member) (f : K) (op : Operation) (h h3 : Held Value) (batch : BatchView) (turn : Turn) : Type 0 where
  pub x : DeskView
  pub was : desk_of h.value ≡ Some x
  pub y : DeskView
  pub is : desk_of h3.value ≡ Some y
  pub becomes : posted member.caller.slot op x ≡ Some y
  pub own : f.session ≡ first_author x + member.caller.slot
  pub claims : turn ≡ Combines
  pub batch_is : batch ≡ batch_of y

module _ (shared : Shared) (member : Member) (s s3 : StoreSeat) (h h3 : Held Value) (f t k3 t3 : K) (d : HasDesk s (here_of shared member) h f t) (place : IsDesk (here_of shared member) h) (op : Operation) (posts : IsPosted (here_of shared member) op h h3) (none : HasNoCombiner h) (d3 : HasDesk s3 (here_of shared member) h3 k3 t3)
    (place3 : IsDesk (here_of shared member) h3) (same : k3.session ≡ f.session) (batch : BatchView) (turn : Turn) (P : DeskView → Type 0) (had : IsTurnThere (here_of shared member) h3 batch turn P) where
  pub claiming : Claiming member f op h h3 batch turn
  claiming =
      let x = desk_here shared s h member f t d place in
      let y = desk_here shared s3 h3 member k3 t3 d3 place3 in
      let own = author_here shared s h member f t d place x.0 x.1 in
      let becomes : posted member.caller.slot op x.0 ≡ Some y.0 = posts x.0 x.1 ∙ y.1 in
      let z = had y.0 y.1 in
      let c = turn_claims member.caller.slot y.0 z.0 f batch turn (post_asks f member.caller.slot op x.0 y.0 becomes own) (sym same ∙ author_here shared s3 h3 member k3 t3 d3 place3 y.0 y.1) (post_leaves_free member.caller.slot op x.0 y.0 becomes (none x.0 x.1)) z.1 in
      record { x = x.0; was = x.1; y = y.0; is = y.1; becomes = becomes; own = own; claims = c.0; batch_is = c.1 }
