-- The members of a pipeline collect their answers one after the other.
use Rattle.std.proofs.Common.{◌≡◌, ◌≢◌, ℕ, zero, suc, ◌+◌, ◌<◌, ◌≤◌, List, [], ◌∷◌, length, map, set, sym, refl, ap, ◌∙◌, subst, arith, ⊎_elim, Some}
use lib.ListN.{get_elem?}
use Rattle.std.proofs.lemmas.Bool.{cases_lt}
use Rattle.atomic_table.proofs.Lists.{set_else, set_here}
use Rattle.ownlock.proofs.Export.{one_known}
use Rattle.ownlock.specs.Held.{IsFrom, held_place}
use Rattle.ownlock.specs.Seats.{At, IsSession, TookNext}
use Rattle.ownlock.specs.declared.shelf.Held.{Held}
use Rattle.combiner.specs.Desks.{BatchView, DeskView, first_author}
use Rattle.combiner.specs.declared.slots.Reply.{Reply}
use Rattle.accounts.specs.declared.sessions.Pending.{Pending}
use Rattle.accounts.proofs.Export.{at_below, at_one, at_there}
use Rattle.store_steps.specs.declared.desks.Turn.{Turn}
use Rattle.store_steps.specs.declared.desks.Turn.TheVariants.{Collects, Combines, Waits}
use Rattle.store_steps.specs.declared.pipelines.Member.{Member}
use Rattle.store_steps.specs.declared.steps.Shared.{Shared}
use Rattle.store_steps.specs.Asking.{AwaitsAnswer}
use Rattle.store_steps.specs.AtDesk.{HasAsked, IsTurn}
use Rattle.store_steps.specs.Knowing.{IsOn}
use Rattle.store_steps.specs.Lending.{desk_of}
use Rattle.store_steps.specs.Pipelines.{AnswerWaits, AscendFrom, Begins, CollectsAt, CollectsNext, HasDesk, HasHanded, HoldsAt, IsDesk, IsNext, IsTurnThere, KnownAt, MayTurnWith, SameSpots, SessionTurnsThere, WaitsAt, here_of, spot_of}
use Rattle.store_steps.specs.Requests.{HasTurned}
use Rattle.store_steps.specs.Updating.{TurnsBy}
use Rattle.store_steps.specs.Visits.{PutsBack, TakesNext}
use Rattle.store_steps.specs.declared.values.Value.{Value}
use Rattle.store_steps.specs.Standing.{IsFree, SessionKnown, StoreSeat}
use Rattle.store_steps.proofs.Gathered.{collect_keeps, turn_collects}
use Rattle.store_steps.proofs.Handing.{desk_is}
use Rattle.store_steps.proofs.Posting.{author_here, desk_here, known_as, set_size, set_both, set_first, set_neither, set_second}

abbrev K : Type 0
K = SessionKnown

-- the session t has put a place back, and is the one session of the seat
abbrev pub Backs : StoreSeat → K → K → Type 0
Backs s t f = IsSession s f × PutsBack t f

abbrev reply_in : Reply → Turn → Reply
reply_in r (Collects q) = q
reply_in r Combines = r
reply_in r Waits = r

-- the members before the number have collected, the member of the number has the desk, and those after it are as they were
pub record Collecting (shared : Shared) (old : List Member) (s0 : StoreSeat) (h0 : Held Value) (members : List Member) (number : ℕ) (at : StoreSeat) (h : Held Value) (replies : List Reply) : Type 0 where
  pub spots : SameSpots old members
  pub shelf : at.shelf ≡ shared.shelf.now.id
  pub upto : number < length old
  pub long : length replies ≡ length old
  pub later : (i : ℕ) → number < i → get_elem? members i ≡ get_elem? old i
  pub holder : (f : K) → Begins shared old 0 s0 h0 number f → HoldsAt shared members at h number f
  pub desk : (member : Member) → At number member members → IsDesk (here_of shared member) h
  pub done : (x : DeskView) (j : ℕ) (f : K) (o : Pending) → desk_of h0.value ≡ Some x → j < number → Begins shared old 0 s0 h0 j f → HasAsked f o → (reply : Reply) × At j reply replies × AnswerWaits x f reply × CollectsAt members j f o reply
  pub left : (x x0 : DeskView) (j : ℕ) (f : K) → desk_of h.value ≡ Some x → desk_of h0.value ≡ Some x0 → number ≤ j → Begins shared old 0 s0 h0 j f → (reply : Reply) × AnswerWaits x f reply × AnswerWaits x0 f reply
  -- the first member has only taken its desk, or it has put it back; and each later one that has collected took it next
  pub still : number ≡ 0 → (t : K) → IsSession s0 t → IsSession at t
  pub begun : 0 < number → (member : Member) (f t b : K) → At 0 member old → HasDesk s0 (here_of shared member) h0 f t → KnownAt members 0 b → PutsBack t b
  pub next : (j : ℕ) (f a b : K) → suc j < number → KnownAt old (suc j) f → KnownAt members j a → KnownAt members (suc j) b → TakesNext a f b
  pub comes : (j : ℕ) (t a : K) → suc j ≡ number → IsSession at t → KnownAt members j a → TookNext a.run (held_place h) h.value t

-- who has a turn, and at which desk the first member began: the first member, which has the desk, or a later one
pub turn_at : (shared : Shared) (old : List Member) (s0 : StoreSeat) (h0 : Held Value) → 0 < length old → ((member : Member) → At 0 member old → MayTurnWith (here_of shared member) s0 h0) → ((j : ℕ) → 0 < j → WaitsAt shared old j) → (number : ℕ) → number < length old
    → (f : K) × (o : Pending) × Begins shared old 0 s0 h0 number f × HasAsked f o × ((x : DeskView) × (desk_of h0.value ≡ Some x))
turn_at shared old s0 h0 some has waits number lt = by number lt
  where
    first : (x : DeskView) × (desk_of h0.value ≡ Some x)
    first = let p = at_there old 0 some in let m = has p.0 p.1 in desk_here shared s0 h0 p.0 m.1.0 m.1.1 m.1.3 m.0

    by : (number : ℕ) → number < length old → (f : K) × (o : Pending) × Begins shared old 0 s0 h0 number f × HasAsked f o × ((x : DeskView) × (desk_of h0.value ≡ Some x))
    by zero lt =
        let p = at_there old 0 lt in let m = (has p.0 p.1).1 in
        (m.0, m.2, ((λ e. (p.0, m.1, p.1, m.3)), λ n. absurd (n refl)), m.4, first)
    by (suc number) lt =
        let p = at_there old (suc number) lt in let w = waits (suc number) (omega arith) p.0 p.1 in
        (w.0, w.1, ((λ e. absurd (omega (arith, e))), λ n. (p.0, p.1, w.2)), w.4, first)

pub begins_below : (shared : Shared) (old : List Member) (s0 : StoreSeat) (h0 : Held Value) (j : ℕ) (f : K) → 0 < length old → Begins shared old 0 s0 h0 j f → j < length old
begins_below shared old s0 h0 zero f lt b = lt
begins_below shared old s0 h0 (suc j) f lt b = let k = b.1 (λ e. omega (arith, e)) in at_below old (suc j) k.0 k.1

-- the next member may have the desk
pub next_member : (shared : Shared) (own after : Member) → own.caller.node ≡ after.caller.node → (next : StoreSeat) → ((k : K) (ks : List K) → after.seat.sessions ≡ k ∷ ks → next.sessions ≡ k ∷ []) → AwaitsAnswer after.seat after.caller shared → (m : K) × IsNext next (here_of shared own) m
next_member shared own after near next split w = (w.0, record { is = split w.0 [] w.2; slot = after.caller.slot; free = subst (λ z. IsFree (record { node = z; slot = after.caller.slot }) w.0) (sym near) w.3; on = w.5 })

module _ (shared : Shared) (old : List Member) (s0 : StoreSeat) (h0 : Held Value) where
  abbrev Starts : ℕ → K → Type 0
  Starts = Begins shared old 0 s0 h0

  module _ (members : List Member) (number : ℕ) (at : StoreSeat) (h : Held Value) (replies : List Reply) (inv : Collecting shared old s0 h0 members number at h replies) (own : Member) (at_own : At number own members) (x0 : DeskView) (is0 : desk_of h0.value ≡ Some x0) (cur : (f : K) × Starts number f) where
    pub has : (f : K) → Starts number f → (t : K) × HasDesk at (here_of shared own) h f t
    has f b = let w = inv.holder f b in (w.1, subst (λ (z : Member). HasDesk at (here_of shared z) h f w.1) (at_one members number w.0 own w.2 at_own) w.3)

    pub place_here : IsFrom shared.shelf.now h
    place_here = (inv.desk own at_own).1

    pub x_here : (x : DeskView) × (desk_of h.value ≡ Some x)
    x_here = let w = has cur.0 cur.1 in desk_here shared at h own cur.0 w.0 w.1 (inv.desk own at_own)

    own_here : (f : K) → Starts number f → f.session ≡ first_author x_here.0 + own.caller.slot
    own_here f b = let w = has f b in author_here shared at h own f w.0 w.1 (inv.desk own at_own) x_here.0 x_here.1

    -- the turn of the member that has the desk
    module _ (batch : BatchView) (turn : Turn) (P : DeskView → Type 0) (had : IsTurnThere (here_of shared own) h batch turn P) where
      pub collects_now : (f : K) (b : Starts number f) → turn ≡ Collects (inv.left x_here.0 x0 number f x_here.1 is0 (omega arith) b).0
      collects_now f b =
          let y = had x_here.0 x_here.1 in
          let l = inv.left x_here.0 x0 number f x_here.1 is0 (omega arith) b in
          turn_collects own.caller.slot x_here.0 y.0 f l.0 batch turn l.1 (own_here f b) y.1

      pub collects_some : (reply : Reply) × (turn ≡ Collects reply)
      collects_some = (_, collects_now cur.0 cur.1)

      module _ (reply : Reply) (says : turn ≡ Collects reply) (replies2 : List Reply) (writes : replies2 ≡ set replies number reply) where
        reply_is : (f : K) (b : Starts number f) → reply ≡ (inv.left x_here.0 x0 number f x_here.1 is0 (omega arith) b).0
        reply_is f b = ap (reply_in reply) (sym says ∙ collects_now f b)

        written : At number reply replies2
        written = subst (λ z. At number reply z) (sym writes) (set_here replies number reply (let long = inv.long in let up = inv.upto in omega (arith, long, up)))

        -- whoever has done so, has collected
        collected_at : (members2 : List Member) (Q : K → K → Type 0) → SessionTurnsThere at (here_of shared own) h batch turn Q → ((t after : K) → Q t after → KnownAt members2 number after) → (f : K) (o : Pending) → Starts number f → HasAsked f o
            → (r : Reply) × At number r replies2 × AnswerWaits x0 f r × CollectsAt members2 number f o r
        collected_at members2 Q turns known f o b asked =
            let w = has f b in
            let t = turns f w.0 o w.1 asked in
            let l = inv.left x_here.0 x0 number f x_here.1 is0 (omega arith) b in
            (reply, written, subst (λ r. AnswerWaits x0 f r) (sym (reply_is f b)) l.2, record { after = t.after; is = known w.0 t.after t.is; batch = batch; turned = subst (λ z. HasTurned f t.after o batch z) says t.turned; turns = subst (λ z. TurnsBy f t.after batch z) says t.turns })

        -- those that collected before have done so still
        before_at : (members2 : List Member) → ((i : ℕ) → i < number → get_elem? members2 i ≡ get_elem? members i) → (x : DeskView) (j : ℕ) (f : K) (o : Pending) → desk_of h0.value ≡ Some x → j < number → Starts j f → HasAsked f o
            → (r : Reply) × At j r replies2 × AnswerWaits x f r × CollectsAt members2 j f o r
        before_at members2 same x j f o e lt b asked =
            let d = inv.done x j f o e lt b asked in
            (d.0, subst (λ z. At j d.0 z) (sym writes) (set_else replies number j reply (λ q. omega (arith, q, lt)) ∙ d.1), d.2, record { after = d.3.after; is = (d.3.is.0, same j lt ∙ d.3.is.1, d.3.is.2); batch = d.3.batch; turned = d.3.turned; turns = d.3.turns })

        -- its turn is over: the members before it are as they were, and whoever had the desk has put it back, and is its session
        module _ (members2 : List Member) (other : (j : ℕ) (f : K) → j < number → KnownAt members2 j f → KnownAt members j f)
            (put : (f t b : K) (o : Pending) → HasDesk at (here_of shared own) h f t → HasAsked f o → KnownAt members2 number b → PutsBack t b) where
          begun_then : (o : Pending) → HasAsked cur.0 o → (member : Member) (f t b : K) → At 0 member old → HasDesk s0 (here_of shared member) h0 f t → KnownAt members2 0 b → PutsBack t b
          begun_then o asked member f t b at_m d is_b = ⊎_elim
              (λ later. inv.begun later member f t b at_m d (other 0 b later is_b))
              (λ none.
              let zero_is : number ≡ 0 = omega (arith, none) in
              let w = has cur.0 cur.1 in
              let same = one_known at w.0 t w.1.is (inv.still zero_is t d.is) in
              subst (λ z. PutsBack z b) same (put cur.0 w.0 b o w.1 asked (subst (λ i. KnownAt members2 i b) (sym zero_is) is_b)))
              (cases_lt 0 number)

          next_then : ((j : ℕ) → 0 < j → WaitsAt shared old j) → (j : ℕ) (f a b : K) → suc j ≤ number → KnownAt old (suc j) f → KnownAt members2 j a → KnownAt members2 (suc j) b → TakesNext a f b
          next_then waits j f a b le is_f is_a is_b = ⊎_elim
              (λ below. inv.next j f a b below is_f (other j a (omega (arith, below)) is_a) (other (suc j) b below is_b))
              (λ not.
              let same : suc j ≡ number = omega (arith, not, le) in
              let starts = subst (λ i. Starts i f) same (λ e. absurd (omega (arith, e)), λ n. is_f) in
              let w = has f starts in
              let v = waits (suc j) (omega arith) is_f.0 is_f.1 in
              let known = subst (λ z. HasAsked z v.1) (one_known is_f.0.seat v.0 f v.2 is_f.2) v.4 in
              record {
                place = held_place h;
                value = h.value;
                now = w.0;
                took = w.1.took;
                next = inv.comes j w.0 a same w.1.is (other j a (omega (arith, same)) is_a);
                put = put f w.0 b v.1 w.1 known (subst (λ i. KnownAt members2 i b) same is_b);
              })
              (cases_lt (suc j) number)

        -- it hands the desk on to the next member
        module _ (n : ℕ) (is : n ≡ suc number) (more : n < length old) (waits : (j : ℕ) → 0 < j → WaitsAt shared old j) (up : AscendFrom shared old s0 h0) (after : Member) (at_n : At n after members) (near : own.caller.node ≡ after.caller.node) (next hollow done : StoreSeat) (split : (k : K) (ks : List K) → after.seat.sessions ≡ k ∷ ks → next.sessions ≡ k ∷ [])
            (hs : hollow.shelf ≡ after.seat.shelf) (ds : done.shelf ≡ own.seat.shelf) (members2 : List Member) (sets : members2 ≡ set (set members n (record after { seat = hollow })) number (record own { seat = done })) (at2 : StoreSeat) (shelf2 : at2.shelf ≡ shared.shelf.now.id) (h2 : Held Value)
            (hands : (m : K) → IsNext next (here_of shared own) m → SessionTurnsThere at (here_of shared own) h batch turn (HasHanded at2 done h2 m)) (comes : (y : DeskView) → P y → desk_of h2.value ≡ Some y) (place2 : IsDesk (here_of shared own) h2) where
          n_after : n ≢ number
          n_after e = omega (arith, e, is)

          at_old : At n after old
          at_old = sym (inv.later n (omega (arith, is))) ∙ at_n

          waits_n : (k : K) × (o : Pending) × IsSession after.seat k × IsFree after.caller k × HasAsked k o × IsOn shared k
          waits_n = waits n (omega (arith, is)) after at_old

          free_n : (f : K) → IsSession after.seat f → IsFree after.caller f
          free_n f known = subst (λ z. IsFree after.caller z) (one_known after.seat waits_n.0 f waits_n.2 known) waits_n.3

          on_n : (f : K) → IsSession after.seat f → IsOn shared f
          on_n f known = subst (λ z. IsOn shared z) (one_known after.seat waits_n.0 f waits_n.2 known) waits_n.5

          next_is : (f : K) → IsSession after.seat f → IsNext next (here_of shared own) f
          next_is f known = record {
            is = split f [] known;
            slot = after.caller.slot;
            free = subst (λ z. IsFree (record { node = z; slot = after.caller.slot }) f) (sym near) (free_n f known);
            on = on_n f known;
          }

          in_two : (i : ℕ) (p : Member) → At i p (set (set members n (record after { seat = hollow })) number (record own { seat = done })) → At i p members2
          in_two i p a = ap (λ z. get_elem? z i) sets ∙ a

          there_n : At n (record after { seat = hollow }) members2
          there_n = in_two n (record after { seat = hollow }) (set_first members n number after (record after { seat = hollow }) (record own { seat = done }) n_after at_n)

          y_here : (y : DeskView) × IsTurn own.caller.slot x_here.0 y batch (Collects reply) × (desk_of h2.value ≡ Some y)
          y_here = let y = had x_here.0 x_here.1 in (y.0, subst (λ z. IsTurn own.caller.slot x_here.0 y.0 batch z) says y.1, comes y.0 y.2)

          holder2 : (o : Pending) → HasAsked cur.0 o → (f : K) → Starts n f → HoldsAt shared members2 at2 h2 n f
          holder2 o asked f b =
              let known = b.1 (λ e. omega (arith, e, is)) in
              let known_n : IsSession after.seat f = subst (λ (z : Member). IsSession z.seat f) (at_one old n known.0 after known.1 at_old) known.2 in
              let m = next_is f known_n in
              let w = has cur.0 cur.1 in
              let p = (hands f m cur.0 w.0 o w.1 asked).is in
              (record after { seat = hollow }, p.now, there_n, record { is = p.is; free = free_n f known_n; on = on_n f known_n; took = p.took })

          left2 : (x z : DeskView) (j : ℕ) (f : K) → desk_of h2.value ≡ Some x → desk_of h0.value ≡ Some z → n ≤ j → Starts j f → (r : Reply) × AnswerWaits x f r × AnswerWaits z f r
          left2 x z j f e e0 lt b =
              let l = inv.left x_here.0 z j f x_here.1 e0 (omega (arith, lt, is)) b in
              let lower = up number j cur.0 f (omega (arith, lt, is)) cur.1 b in
              let same = desk_is h2.value y_here.0 x y_here.2 e in
              (l.0, subst (λ u. AnswerWaits u f l.0) same (collect_keeps own.caller.slot x_here.0 y_here.0 cur.0 f reply l.0 y_here.1 (own_here cur.0 cur.1) (λ q. omega (arith, q, lower)) l.1), l.2)

          -- a member before it has the session that it had
          was_known : (j : ℕ) (f : K) → j < number → KnownAt members2 j f → KnownAt members j f
          was_known j f lt known = (known.0, sym (ap (λ z. get_elem? z j) sets ∙ set_neither members n number (record after { seat = hollow }) (record own { seat = done }) j (λ e. omega (arith, e, lt, is)) (λ e. omega (arith, e, lt))) ∙ known.1, known.2)

          -- the member of the number is the session that handed the desk on
          handed_on : (f t b : K) (o : Pending) (d : HasDesk at (here_of shared own) h f t) (asked : HasAsked f o) → KnownAt members2 number b → (hands waits_n.0 (next_is waits_n.0 waits_n.2) f t o d asked).after ≡ b
          handed_on f t b o d asked known =
              let p = hands waits_n.0 (next_is waits_n.0 waits_n.2) f t o d asked in
              one_known done p.after b p.is.done_is (known_as members2 number b (record own { seat = done }) (in_two number (record own { seat = done }) (set_second members n number own (record after { seat = hollow }) (record own { seat = done }) n_after at_own)) known)

          put_back : (f t b : K) (o : Pending) (d : HasDesk at (here_of shared own) h f t) (asked : HasAsked f o) → KnownAt members2 number b → PutsBack t b
          put_back f t b o d asked known = subst (PutsBack t) (handed_on f t b o d asked known) (hands waits_n.0 (next_is waits_n.0 waits_n.2) f t o d asked).is.put

          comes2 : (o : Pending) → HasAsked cur.0 o → (j : ℕ) (t a : K) → suc j ≡ n → IsSession at2 t → KnownAt members2 j a → TookNext a.run (held_place h2) h2.value t
          comes2 o asked j t a same at_t is_a =
              let w = has cur.0 cur.1 in
              let p = hands waits_n.0 (next_is waits_n.0 waits_n.2) cur.0 w.0 o w.1 asked in
              let here = subst (λ i. KnownAt members2 i a) (omega (arith, same, is)) is_a in
              subst (λ (z : K × K). TookNext z.0.run (held_place h2) h2.value z.1) (λ i. (handed_on cur.0 w.0 a o w.1 asked here i, one_known at2 p.is.now t p.is.is at_t i)) p.is.next

          pub collecting_on : (o : Pending) → HasAsked cur.0 o → Collecting shared old s0 h0 members2 n at2 h2 replies2
          collecting_on o asked = record {
            spots = ap (map spot_of) sets ∙ (set_both members n number after own (record after { seat = hollow }) (record own { seat = done }) n_after at_n at_own (λ i. (after.caller, hs i)) (λ i. (own.caller, ds i)) ∙ inv.spots);
            shelf = shelf2;
            upto = more;
            long = ap length writes ∙ (set_size replies number reply ∙ inv.long);
            later = λ i lt. ap (λ z. get_elem? z i) sets ∙ (set_neither members n number (record after { seat = hollow }) (record own { seat = done }) i (λ e. omega (arith, e, lt)) (λ e. omega (arith, e, lt, is)) ∙ inv.later i (omega (arith, lt, is)));
            holder = holder2 o asked;
            desk = λ member there. let same =
                at_one members2 n member (record after { seat = hollow }) there there_n in (
                  place2.0
                      ∙ ap (λ z. 1 + shared.nodes + z) (near ∙ ap (λ (z : Member). z.caller.node) (sym same)),
                  place2.1,
                );
            done = λ x j f q e lt b a. ⊎_elim
                (λ before. before_at members2 (λ i low. ap (λ z. get_elem? z i) sets ∙ set_neither members n number (record after { seat = hollow }) (record own { seat = done }) i (λ s. omega (arith, s, low, is)) (λ s. omega (arith, s, low))) x j f q e before b a)
                (λ not.
                let same : j ≡ number = omega (arith, not, lt, is) in
                let m = next_is waits_n.0 waits_n.2 in
                subst (λ i. (r : Reply) × At i r replies2 × AnswerWaits x f r × CollectsAt members2 i f q r) (sym same)
                (subst (λ u. (r : Reply) × At number r replies2 × AnswerWaits u f r × CollectsAt members2 number f q r) (desk_is h0.value x0 x is0 e)
                (collected_at members2 (HasHanded at2 done h2 waits_n.0) (hands waits_n.0 m) (λ t k p. (record own { seat = done }, in_two number (record own { seat = done }) (set_second members n number own (record after { seat = hollow }) (record own { seat = done }) n_after at_own), p.done_is)) f q (subst (λ i. Starts i f) same b) a)))
                (cases_lt j number);
            left = left2;
            still = λ e. absurd (omega (arith, e, is));
            begun = λ _. begun_then members2 was_known put_back o asked;
            next = λ j f a b lt. next_then members2 was_known put_back waits j f a b (omega (arith, lt, is));
            comes = comes2 o asked;
          }

        -- the last member puts the desk back
        module _ (members2 : List Member) (back : StoreSeat) (bs : back.shelf ≡ own.seat.shelf) (sets : members2 ≡ set members number (record own { seat = back })) (turns : SessionTurnsThere at (here_of shared own) h batch turn (Backs back)) where
          at_last : At number (record own { seat = back }) members2
          at_last = ap (λ z. get_elem? z number) sets ∙ set_here members number (record own { seat = back }) (at_below members number own at_own)

          -- a member before it has the session that it had
          kept_known : (j : ℕ) (f : K) → j < number → KnownAt members2 j f → KnownAt members j f
          kept_known j f lt known = (known.0, sym (ap (λ z. get_elem? z j) sets ∙ set_else members number j (record own { seat = back }) (λ e. omega (arith, e, lt))) ∙ known.1, known.2)

          -- whoever had the desk has put it back, and is the session of the last member
          last_back : (f t b : K) (o : Pending) (d : HasDesk at (here_of shared own) h f t) → HasAsked f o → KnownAt members2 number b → PutsBack t b
          last_back f t b o d asked known =
              let p = turns f t o d asked in
              subst (PutsBack t) (one_known back p.after b p.is.0 (known_as members2 number b (record own { seat = back }) at_last known)) p.is.1

          pub all_next : length old ≡ suc number → (o : Pending) → HasAsked cur.0 o → ((j : ℕ) → 0 < j → WaitsAt shared old j) → CollectsNext shared old members2 s0 h0
          all_next end o asked waits = (
            begun_then members2 kept_known last_back o asked,
            λ j f a b is_f. let lt = at_below old (suc j) is_f.0 is_f.1 in next_then members2 kept_known last_back waits j f a b (omega (arith, lt, end)) is_f,
          )

          pub all_collected : (x : DeskView) (j : ℕ) (f : K) (o : Pending) → desk_of h0.value ≡ Some x → j ≤ number → Starts j f → HasAsked f o → (r : Reply) × At j r replies2 × AnswerWaits x f r × CollectsAt members2 j f o r
          all_collected x j f o e le b asked = ⊎_elim
              (λ before. before_at members2 (λ i low. ap (λ z. get_elem? z i) sets ∙ set_else members number i (record own { seat = back }) (λ s. omega (arith, s, low))) x j f o e before b asked)
              (λ not.
              let same : j ≡ number = omega (arith, not, le) in
              subst (λ i. (r : Reply) × At i r replies2 × AnswerWaits x f r × CollectsAt members2 i f o r) (sym same)
              (subst (λ u. (r : Reply) × At number r replies2 × AnswerWaits u f r × CollectsAt members2 number f o r) (desk_is h0.value x0 x is0 e)
              (collected_at members2 (Backs back) turns (λ t k p. (record own { seat = back }, at_last, p.0)) f o (subst (λ i. Starts i f) same b) asked)))
              (cases_lt j number)
