-- Each step of a shelf keeps its rule.
use Rattle.std.proofs.Common.{◌≡◌, ◌≢◌, ℕ, zero, suc, ◌+◌, ◌<◌, ◌≤◌, ◌⊎◌, List, [], ◌∷◌, length, get_or, get_or-set_other, get_or-set_same, set, sym, refl, ap, ◌∙◌, subst, ⊎_elim, inl, inr, arith, IfSome, Option, Some, None}
use mathlib.Core.Logic.{dite}
use mathlib.Core.Option as kernel
use mathlib.Core.Option.{some-injective, some-ne-none}
use native.Mathlib.Decide.{ℕ_discrete}
use lib.ListN.{get_elem?}
use lib.Seq.{set-get_or}
use Rattle.atomic_table.specs.Table.{State, Me, Allows, keeps, step, stepped}
use Rattle.atomic_table.proofs.Lists.{at_set, set_here, set_else, set_again}
use Rattle.ownlock.specs.declared.known.Known.{Known}
use Rattle.ownlock.specs.Rules.{Rules, Laws, leader}
use Rattle.ownlock.specs.Words.{IsMarked, line_word, slot_of, winner_at, word_of}
use Rattle.ownlock.specs.Runs.{Runs}
use Rattle.ownlock.specs.Seats.{At, Opened, Run, Continues, own_steps}
use Rattle.ownlock.specs.Invariant.{SessionInvariant, HasValue, HeldBySome, KnownBySome, LockInvariant, StandsThere, StepsAs, stood}
use Rattle.ownlock.proofs.Marks.{Rewords, line_below}
use Rattle.ownlock.proofs.Spread.{one_slot}
use Rattle.ownlock.proofs.Run.{continues_on}
use Rattle.ownlock.proofs.Fronts.{at_below}

module _ {A : Type 0} where
  pub at_only : (x y : A) (i : ℕ) → At i y (x ∷ []) → (i ≡ 0) × (x ≡ y)
  at_only x y zero e = (refl, some-injective x y e)
  at_only x y (suc i) e = absurd (some-ne-none y (sym e))

  pub at_one : (l : List A) (i : ℕ) (x y : A) → At i x l → At i y l → x ≡ y
  at_one l i x y e f = some-injective x y (sym e ∙ f)

-- a seat is one session at most
pub one_session : {P N V : Type 0} (m : Me (Option V) (List (Known P N V))) (k k2 : Known P N V) → StepsAs m k
    → StepsAs m k2 → k ≡ k2
one_session {P} {N} {V} m k k2 e f = ap (λ (z : Me (Option V) (List (Known P N V))). get_or z.0 0 k) (sym e ∙ f)

-- the table of a shelf, and one of its seats, as plain data
abbrev pub LockState : (P N V : Type 0) → Type 0
LockState P N V = State (Option V) (List (Known P N V))

abbrev pub LockSeat : (P N V : Type 0) → Type 0
LockSeat P N V = Me (Option V) (List (Known P N V))

-- the slots, each with its value where it is at home
abbrev pub SlotHomes : Type 0 → Type 0
SlotHomes V = List (kernel.Option (Option V))

module _ {P N V : Type 0} (R : Rules P N V) (laws : Laws R) (opened : Opened P N) where
  abbrev K : Type 0
  K = Known P N V

  -- the session holds the place
  abbrev pub HeldBy : K → ℕ → Type 0
  HeldBy k p = (a : ℕ) × (u : ℕ × V) × At a u k.held × (u.0 ≡ p)

  -- what a step of the session k at the place p owes
  pub record Goes (s : LockState P N V) (r : LockInvariant R opened s) (id p : ℕ) (k k' : K) (progress : P) (notes : List N) (words : List ℕ) (homes : SlotHomes V) (holder : ℕ → ℕ) (run : Run P N V) : Type 0 where
    pub here : At id (k ∷ []) s.views
    pub session : k'.session ≡ k.session
    pub goes_on : Continues r.run run
    pub by : (c : ℕ) → c ≢ k.session → own_steps c run ≡ own_steps c r.run
    pub leads : Runs R opened run progress notes
    pub accounts : R.Accounts progress notes
    pub extends : R.Extends r.progress progress
    pub same : p ≢ leader → R.SameHistory r.progress progress
    pub others : (q : ℕ) (y : V) → q ≢ p → R.AgreesWith q r.progress r.notes y → R.AgreesWith q progress notes y
    pub noted : (i : ℕ) (n : N) → i ≢ k.session → At i n r.notes → At i n notes
    pub counted : length notes ≡ length opened.notes
    pub homes_else : (i : ℕ) → i ≢ slot_of p → get_elem? homes i ≡ get_elem? s.homes i
    pub homes_long : length homes ≡ length s.homes
    pub words_else : Rewords opened.places p s.words words
    pub tail_here : get_or words (word_of opened.places) 0 ≡ R.completed progress
    pub words_long : length words ≡ length s.words
    pub holder_else : (q : ℕ) → q ≢ p → holder q ≡ r.holder q
    pub not_theirs : (j i : ℕ) (v : List K) (m : K) (a : ℕ) (u : ℕ × V) → j ≢ id → At j v s.views → At i m v
        → At a u m.held → u.0 ≢ p
    pub mine : SessionInvariant R progress notes run homes holder k'
    -- at the place itself: its value is there, or the session holds it; if it is marked, the session does; and if so,
    -- it is marked, or the session has
    -- won the line
    pub there_here : p < opened.places → HasValue R progress notes homes p ⊎ HeldBy k' p
    pub busy_here : p < opened.places → IsMarked opened.places words p → HeldBy k' p
    pub marked_here : p < opened.places → HeldBy k' p
        → IsMarked opened.places words p ⊎ (winner_at opened.places words p ≡ suc (holder p))
    -- of the other places it holds those that it held
    pub held_else : (a : ℕ) (u : ℕ × V) → At a u k.held → u.0 ≢ p → (b : ℕ) × At b u k'.held
    pub held_back : (a : ℕ) (u : ℕ × V) → At a u k'.held → u.0 ≢ p → (b : ℕ) × At b u k.held

  module _ (s : LockState P N V) (r : LockInvariant R opened s) (id p : ℕ) (k k' : K) (progress : P) (notes : List N) (words : List ℕ) (homes : SlotHomes V) (holder : ℕ → ℕ) (run : Run P N V) (g : Goes s r id p k k' progress notes words homes holder run) where
    abbrev after : List (List K)
    after = set s.views id (k' ∷ [])

    mine_at : At id (k' ∷ []) after
    mine_at = set_here s.views id (k' ∷ []) (at_below s.views id (k ∷ []) g.here)

    owned : r.owner k.session ≡ id
    owned = (r.each id 0 (k ∷ []) k g.here refl).1

    theirs : (j i : ℕ) (v : List K) (m : K) → j ≢ id → At j v s.views → At i m v
        → SessionInvariant R progress notes run homes holder m
    theirs j i v m other at_j at_i =
        let known = r.each j i v m at_j at_i in
        let fit = known.0 in
        let apart : m.session ≢ k.session = λ same. other (sym known.1 ∙ (ap r.owner same ∙ owned)) in
        record {
          possible = (
            (laws.extends_on _ _ _ fit.possible.0.0 g.extends, λ a u at_a lead. laws.same_on _ _ _ (fit.possible.0.1 a u at_a lead) (g.same (λ same. g.not_theirs j i v m a u other at_j at_i at_a (lead ∙ sym same)))),
            g.noted m.session m.note apart fit.possible.1,
            g.accounts,
            λ a u at_a. g.others u.0 u.1 (g.not_theirs j i v m a u other at_j at_i at_a) (fit.possible.3 a u at_a),
          );
          allowed = fit.allowed;
          apart = fit.apart;
          out = λ a u at_a. let ne = g.not_theirs j i v m a u other at_j at_i at_a in let was = fit.out a u at_a in (g.holder_else u.0 ne ∙ was.0, g.homes_else (slot_of u.0) (λ same. ne (one_slot u.0 p same)) ∙ was.1);
          goes_on = continues_on m.run r.run run fit.goes_on g.goes_on;
          own = g.by m.session apart ∙ fit.own;
          ends = fit.ends;
        }

    each_after : (j i : ℕ) (v : List K) (m : K) → At j v after → At i m v
        → SessionInvariant R progress notes run homes holder m × (r.owner m.session ≡ j)
    each_after j i v m at_j at_i = ⊎_elim
        (λ (t : (j ≡ id) × ((k' ∷ []) ≡ v)).
        let only = at_only k' m i (subst (λ (z : List K). At i m z) (sym t.1) at_i) in
        (subst (λ (z : K). SessionInvariant R progress notes run homes holder z) only.1 g.mine, ap (λ (z : K). r.owner z.session) (sym only.1) ∙ (ap r.owner g.session ∙ (owned ∙ sym t.0))))
        (λ (t : (j ≢ id) × At j v s.views). (theirs j i v m t.0 t.1 at_i, (r.each j i v m t.1 at_i).1))
        (at_set s.views id j (k' ∷ []) v at_j)

    distinct_after : (j a b : ℕ) (v : List K) (x y : K) → At j v after → At a x v → At b y v → x.session ≡ y.session
        → a ≡ b
    distinct_after j a b v x y at_j at_a at_b e = ⊎_elim
        (λ (t : (j ≡ id) × ((k' ∷ []) ≡ v)).
        let one = at_only k' x a (subst (λ (z : List K). At a x z) (sym t.1) at_a) in
        let two = at_only k' y b (subst (λ (z : List K). At b y z) (sym t.1) at_b) in
        one.0 ∙ sym two.0)
        (λ (t : (j ≢ id) × At j v s.views). r.distinct j a b v x y t.1 at_a at_b e)
        (at_set s.views id j (k' ∷ []) v at_j)

    mine_some : (q : ℕ) → HeldBy k' q → HeldBySome R q after
    mine_some q mine = (id, k' ∷ [], 0, k', mine.0, mine.1, mine_at, refl, mine.2, mine.3)

    still_held : (q : ℕ) → q ≢ p → HeldBySome R q s.views → HeldBySome R q after
    still_held q ne (j, v, i, m, a, u, at_j, at_i, at_a, is) = dite (ℕ_discrete j id)
        (λ e.
        let view = at_one s.views id (k ∷ []) v g.here (subst (λ z. At z v s.views) e at_j) in
        let only = at_only k m i (subst (λ (z : List K). At i m z) (sym view) at_i) in
        let mine = subst (λ (z : K). At a u z.held) (sym only.1) at_a in
        let kept = g.held_else a u mine (λ h. ne (sym is ∙ h)) in
        (id, k' ∷ [], 0, k', kept.0, u, mine_at, refl, kept.1, is))
        (λ other. (j, v, i, m, a, u, set_else s.views id j (k' ∷ []) other ∙ at_j, at_i, at_a, is))

    -- who holds another place held it
    was_held : (q : ℕ) → q ≢ p → HeldBySome R q after → HeldBySome R q s.views
    was_held q ne (j, v, i, m, a, u, at_j, at_i, at_a, is) = ⊎_elim
        (λ (t : (j ≡ id) × ((k' ∷ []) ≡ v)).
        let only = at_only k' m i (subst (λ (z : List K). At i m z) (sym t.1) at_i) in
        let kept = g.held_back a u (subst (λ (z : K). At a u z.held) (sym only.1) at_a) (λ h. ne (sym is ∙ h)) in
        (id, k ∷ [], 0, k, kept.0, u, g.here, refl, kept.1, is))
        (λ (t : (j ≢ id) × At j v s.views). (j, v, i, m, a, u, t.1, at_i, at_a, is))
        (at_set s.views id j (k' ∷ []) v at_j)

    -- and who holds the place itself is the session
    held_here : HeldBySome R p after → HeldBy k' p
    held_here (j, v, i, m, a, u, at_j, at_i, at_a, is) = ⊎_elim
        (λ (t : (j ≡ id) × ((k' ∷ []) ≡ v)).
        let only = at_only k' m i (subst (λ (z : List K). At i m z) (sym t.1) at_i) in
        (a, u, subst (λ (z : K). At a u z.held) (sym only.1) at_a, is))
        (λ (t : (j ≢ id) × At j v s.views). absurd (g.not_theirs j i v m a u t.0 t.1 at_i at_a is))
        (at_set s.views id j (k' ∷ []) v at_j)

    there_after : (q : ℕ) → q < opened.places → HasValue R progress notes homes q ⊎ HeldBySome R q after
    there_after q below = dite (ℕ_discrete q p)
        (λ e. subst (λ z. HasValue R progress notes homes z ⊎ HeldBySome R z after) (sym e)
        (⊎_elim (λ h. inl h) (λ h. inr (mine_some p h)) (g.there_here (subst (λ z. z < opened.places) e below))))
        (λ ne. ⊎_elim
        (λ (was : HasValue R r.progress r.notes s.homes q). inl
        (was.0, g.homes_else (slot_of q) (λ e. ne (one_slot q p e)) ∙ was.1, g.others q was.0 ne was.2))
        (λ h. inr (still_held q ne h)) (r.there q below))

    busy_after : (q : ℕ) → q < opened.places → IsMarked opened.places words q → HeldBySome R q after
    busy_after q below is = dite (ℕ_discrete q p)
        (λ e. subst (λ z. HeldBySome R z after) (sym e)
        (mine_some p
        (g.busy_here (subst (λ z. z < opened.places) e below) (subst (IsMarked opened.places words) e is))))
        (λ ne. still_held q ne (r.busy q below (sym (g.words_else.others q below ne) ∙ is)))

    abbrev Claims : ℕ → Type 0
    Claims q = IsMarked opened.places words q ⊎ (winner_at opened.places words q ≡ suc (holder q))

    marked_after : (q : ℕ) → q < opened.places → HeldBySome R q after → Claims q
    marked_after q below h = dite (ℕ_discrete q p)
        (λ e. subst Claims (sym e)
        (g.marked_here (subst (λ z. z < opened.places) e below)
        (held_here (subst (λ z. HeldBySome R z after) e h))))
        (λ ne. ⊎_elim (λ is. inl (g.words_else.others q below ne ∙ is))
        (λ is. inr (g.words_else.winners q below ∙ (is ∙ ap suc (sym (g.holder_else q ne)))))
        (r.marked q below (was_held q ne h)))

    still_known : (c : ℕ) → KnownBySome c s.views → KnownBySome c after
    still_known c (j, i, v, m, at_j, at_i, is) = dite (ℕ_discrete j id)
        (λ e.
        let view = at_one s.views id (k ∷ []) v g.here (subst (λ z. At z v s.views) e at_j) in
        let only = at_only k m i (subst (λ (z : List K). At i m z) (sym view) at_i) in
        (id, 0, k' ∷ [], k', mine_at, refl, g.session ∙ (ap (λ (z : K). z.session) only.1 ∙ is)))
        (λ other. (j, i, v, m, set_else s.views id j (k' ∷ []) other ∙ at_j, at_i, is))

    pub goes : LockInvariant R opened record { words = words; homes = homes; views = after }
    goes = record {
      progress = progress;
      notes = notes;
      run = run;
      leads = g.leads;
      owner = r.owner;
      holder = holder;
      grown = laws.extends_on _ _ _ r.grown g.extends;
      placed = g.homes_long ∙ r.placed;
      accounts = g.accounts;
      counted = g.counted;
      wide = g.words_long ∙ r.wide;
      tail = g.tail_here;
      gaps = λ q a below low high. g.homes_else (slot_of q + a) (λ e. omega (arith, e, low, high)) ∙ r.gaps q a below low high;
      there = there_after;
      busy = busy_after;
      marked = marked_after;
      each = each_after;
      distinct = distinct_after;
      all = λ c small. still_known c (r.all c small);
    }

  -- the seat that is the session k
  pub mine_of : (s : LockState P N V) (r : LockInvariant R opened s) (id : ℕ) (k : K) → At id (k ∷ []) s.views
      → SessionInvariant R r.progress r.notes r.run s.homes r.holder k
  mine_of s r id k at = (r.each id 0 (k ∷ []) k at refl).0

  -- no other session holds what is held by the session k
  pub not_of_others : (s : LockState P N V) (r : LockInvariant R opened s) (id p : ℕ) (k : K) → At id (k ∷ []) s.views
      → r.holder p ≡ k.session
      → (j i : ℕ) (v : List K) (m : K) (a : ℕ) (u : ℕ × V) → j ≢ id → At j v s.views → At i m v → At a u m.held
      → u.0 ≢ p
  not_of_others s r id p k at holds j i v m a u other at_j at_i at_a e =
      let known = r.each j i v m at_j at_i in
      let same : m.session ≡ k.session = sym (known.0.out a u at_a).0 ∙ (ap r.holder e ∙ holds) in
      other (sym known.1 ∙ (ap r.owner same ∙ (r.each id 0 (k ∷ []) k at refl).1))

  -- the word of a line, or that of the completed tail, is there
  pub word_there : (s : LockState P N V) (r : LockInvariant R opened s) (line : ℕ) → line ≤ opened.places
      → word_of line < length s.words
  word_there s r line below = let long = r.wide in omega (arith, long, below)

  pub line_there : (s : LockState P N V) (r : LockInvariant R opened s) (p : ℕ) → p < opened.places
      → line_word opened.places p < length s.words
  line_there s r p below = let low = line_below opened.places p below in word_there s r _ (omega (arith, low))

  pub word_set : (s : LockState P N V) (r : LockInvariant R opened s) (p n : ℕ) → p < opened.places
      → get_or (set s.words (line_word opened.places p) n) (line_word opened.places p) 0 ≡ n
  word_set s r p n below = get_or-set_same s.words (line_word opened.places p) n 0 (line_there s r p below)

  -- a step at a place leaves the word of the completed tail as it is
  pub tail_else : (s : LockState P N V) (r : LockInvariant R opened s) (p n : ℕ) → p < opened.places
      → get_or (set s.words (line_word opened.places p) n) (word_of opened.places) 0 ≡ R.completed r.progress
  tail_else s r p n below =
      let low = line_below opened.places p below in
      get_or-set_other s.words (line_word opened.places p) (word_of opened.places) n 0 (λ e. omega (arith, e, low))
      ∙ r.tail

  -- the table has the slots of as many places as the shelf was opened with, and so the word of a place is where that
  -- shelf has it
  pub all_places : (s : LockState P N V) (r : LockInvariant R opened s) (slots places : ℕ) → slots ≡ slot_of places
      → length s.homes ≡ slots → places ≡ opened.places
  all_places s r slots places wide long = let placed = r.placed in omega (arith, wide, long, placed)

  pub word_is : (s : LockState P N V) (r : LockInvariant R opened s) (slots places p word : ℕ) → slots ≡ slot_of places
      → length s.homes ≡ slots → word ≡ line_word places p → word ≡ line_word opened.places p
  word_is s r slots places p word wide long is = is ∙ ap (λ z. line_word z p) (all_places s r slots places wide long)

  pub slot_there : (s : LockState P N V) (r : LockInvariant R opened s) (p : ℕ) → p < opened.places
      → slot_of p < length s.homes
  slot_there s r p below = let placed = r.placed in omega (arith, below, placed)

  -- a step that changes nothing
  pub unmoved : (s : LockState P N V) (r : LockInvariant R opened s) (id w : ℕ) (v : List K) (c : List (ℕ × Option V))
      → At id v s.views → LockInvariant R opened (stepped s w (get_or s.words w 0) id c v keeps)
  unmoved s r id w v c at = subst (λ (z : List ℕ × List (List K)). LockInvariant R opened record { words = z.0; homes = s.homes; views = z.1 }) (λ i. (sym (set-get_or s.words w 0) i, sym (set_again s.views id v at) i)) r

  -- no session holds what another one holds: who holds the place of a session that is the holder's is that session
  pub held_own : (s : LockState P N V) (r : LockInvariant R opened s) (id p : ℕ) (k : K) → At id (k ∷ []) s.views
      → HeldBySome R p s.views → r.holder p ≡ k.session → HeldBy k p
  held_own s r id p k at (j, v, i, m, a, u, at_j, at_i, at_a, is) holds =
      let known = r.each j i v m at_j at_i in
      let same : m.session ≡ k.session = sym (known.0.out a u at_a).0 ∙ (ap r.holder is ∙ holds) in
      let seat : j ≡ id = sym known.1 ∙ (ap r.owner same ∙ (r.each id 0 (k ∷ []) k at refl).1) in
      let view = at_one s.views id v (k ∷ []) (subst (λ z. At z v s.views) seat at_j) at in
      let only = at_only k m i (subst (λ (z : List K). At i m z) view at_i) in
      (a, u, subst (λ (z : K). At a u z.held) (sym only.1) at_a, is)

  -- a look at any word tells in which state the seat stands
  pub stands_there : (may : Option (Opened P N)) → IfSome may (λ o. o ≡ opened) → (slots id w : ℕ) (m : LockSeat P N V)
      → Allows (LockInvariant R opened) slots id m w (λ n. n) (stood R may (step slots w 0 0 kernel.none) m)
  stands_there may is slots id w m s r long at _ = (m.0, keeps, tt, unmoved s r id w m.0 m.1 at, (refl, told may is))
    where
      told : (o : Option (Opened P N)) → IfSome o (λ o. o ≡ opened) → IfSome o (λ o. StandsThere R o m.0)
      told None is = tt
      told (Some o) is = subst (λ z. StandsThere R z m.0) (sym is) (s, r, (id, at))
