-- The first seat, and how seats are split and joined.
use Rattle.std.proofs.Common.{◌≡◌, ◌≢◌, ℕ, zero, suc, ◌+◌, ◌<◌, eqb, ◌⊎◌, List, [], ◌∷◌, ◌++◌, map, length, append-nil, get_or, set, sym, refl, ap, ◌∙◌, subst, ⊎_elim, inl, inr, arith, eq-eqb, ne_eqb, Option, Some, None}
use Rattle.std.specs.Int.{bit_at}
use Rattle.std.proofs.lemmas.Nat.Bits.{bit_at-zero}
use mathlib.Core.Logic.{dite}
use mathlib.Core.Option as kernel
use mathlib.Core.Option.{some-injective, some-ne-none}
use native.Mathlib.Decide.{ℕ_discrete}
use lib.ListN.{get_elem?}
use prog.Atomic.{either}
use Rattle.atomic_table.specs.Table.{Me, opening, Splits, Joins}
use Rattle.atomic_table.proofs.Lists.{at_set, set_here, set_else, at_longer, at_last, at_map}
use Rattle.ownlock.specs.declared.known.Known.{Known}
use Rattle.ownlock.specs.Rules.{Rules, Laws}
use Rattle.ownlock.specs.Words.{bit_of, line_word, slot_of, word_of}
use Rattle.ownlock.specs.Spreading.{spread}
use Rattle.ownlock.specs.Seats.{At, Opened, opened_with, SeatView, IsSession, own_steps, all_sessions, HoldsNone}
use Rattle.ownlock.specs.Knowledge.{AllAgree}
use Rattle.ownlock.specs.Runs.{Begins}
use Rattle.ownlock.specs.Invariant.{SessionInvariant, HeldBySome, KnownBySome, LockInvariant, first_of, others_of, out_of, emptied, StepsAs}
use Rattle.ownlock.proofs.Spread.{blanks, zeros, long_spread, at_spread, none_between}
use Rattle.ownlock.proofs.Keeps.{LockState, at_only, at_one}
use Rattle.ownlock.proofs.Fronts.{at_below}

module _ {A : Type 0} where
  pub at_snoc_last : (l : List A) (a b : A) (j : ℕ) → At j b (l ++ a ∷ []) → At j b l ⊎ ((j ≡ length l) × (a ≡ b))
  at_snoc_last [] a b zero e = inr (refl, some-injective a b e)
  at_snoc_last [] a b (suc j) e = absurd (some-ne-none b (sym e))
  at_snoc_last (x ∷ xs) a b zero e = inl e
  at_snoc_last (x ∷ xs) a b (suc j) e = ⊎_elim (λ h. inl h) (λ (h : (j ≡ length xs) × (a ≡ b)). let is = h.0 in inr (omega arith, h.1)) (at_snoc_last xs a b j e)

  pub at_append : (l m : List A) (j : ℕ) (b : A) → At j b (l ++ m) → ((j < length l) × At j b l) ⊎ ((i : ℕ) × (j ≡ length l + i) × At i b m)
  at_append [] m j b e = inr (j, omega arith, e)
  at_append (x ∷ xs) m zero b e = inl (omega arith, e)
  at_append (x ∷ xs) m (suc j) b e = ⊎_elim (λ (h : (j < length xs) × At j b xs). let is = h.0 in inl (omega arith, h.1)) (λ (h : (i : ℕ) × (j ≡ length xs + i) × At i b m). let is = h.1 in inr (h.0, omega arith, h.2)) (at_append xs m j b e)

  pub at_behind : (l m : List A) (i : ℕ) (b : A) → At i b m → (j : ℕ) × At j b (l ++ m)
  at_behind [] m i b e = (i, e)
  at_behind (x ∷ xs) m i b e = let t = at_behind xs m i b e in (suc t.0, t.1)

-- a seat is one session at most
pub one_known : {P N V : Type 0} (s : SeatView P N V) (k m : Known P N V) → IsSession s k → IsSession s m → k ≡ m
one_known s k m e f = ap (λ l. get_or l 0 k) (sym e ∙ f)

module _ {P N V : Type 0} where
  -- sessions that hold no place have no slot out
  pub none_out : (v : List (Known P N V)) → HoldsNone v → out_of v ≡ []
  none_out [] idle = refl
  none_out (k ∷ ks) idle = ap (λ l. map emptied l ++ out_of ks) (idle 0 k refl) ∙ none_out ks (λ i m at. idle (suc i) m at)

  -- the slots that are out with one session
  pub one_out : (k : Known P N V) → out_of (k ∷ []) ≡ map emptied k.held
  one_out k = append-nil (map emptied k.held)

  -- a seat whose one session is k steps as k
  pub steps_as : (m : Me (Option V) (List (Known P N V))) (v : List (Known P N V)) (k : Known P N V) → m.0 ≡ v → v ≡ k ∷ [] → m.1 ≡ out_of m.0 → StepsAs m k
  steps_as m v k same is out = let first = same ∙ is in let second = out ∙ (ap out_of first ∙ one_out k) in λ i. (first i, second i)

  pub none_joined : (v w : List (Known P N V)) → HoldsNone v → HoldsNone w → HoldsNone (v ++ w)
  none_joined [] w a b = b
  none_joined (k ∷ ks) w a b = both (none_joined ks w (λ i m at. a (suc i) m at) b)
    where
      both : HoldsNone (ks ++ w) → HoldsNone (k ∷ (ks ++ w))
      both more zero m at = a 0 m at
      both more (suc i) m at = more i m at

  -- what is out with an idle seat, before and after it is split, joined or made
  nothing : (m : Me (Option V) (List (Known P N V))) → m.1 ≡ [] → HoldsNone m.0 → m.1 ≡ out_of m.0
  nothing m none idle = none ∙ sym (none_out m.0 idle)

  pub others_idle : (m n : Me (Option V) (List (Known P N V))) → HoldsNone m.0 → m.1 ≡ out_of m.0 → n ≡ (others_of m.0, m.1) → n.1 ≡ out_of n.0
  others_idle m n idle out is = nothing n (ap (λ z. z.1) is ∙ (out ∙ none_out m.0 idle)) (subst (λ v. HoldsNone v) (sym (ap (λ z. z.0) is)) (rest_idle m.0 idle))
    where
      rest_idle : (v : List (Known P N V)) → HoldsNone v → HoldsNone (others_of v)
      rest_idle [] idle = idle
      rest_idle (k ∷ ks) idle = λ i m at. idle (suc i) m at

  pub first_idle : (m n : Me (Option V) (List (Known P N V))) → HoldsNone m.0 → n ≡ (first_of m.0, []) → n.1 ≡ out_of n.0
  first_idle m n idle is = nothing n (ap (λ z. z.1) is) (subst (λ v. HoldsNone v) (sym (ap (λ z. z.0) is)) (one_idle m.0 idle))
    where
      one_idle : (v : List (Known P N V)) → HoldsNone v → HoldsNone (first_of v)
      one_idle [] idle i m at = absurd (some-ne-none m (sym at))
      one_idle (k ∷ ks) idle zero m at = idle 0 m at
      one_idle (k ∷ ks) idle (suc i) m at = absurd (some-ne-none m (sym at))

  pub out_joined : (v w : List (Known P N V)) → HoldsNone w → out_of (v ++ w) ≡ out_of v
  out_joined [] w idle = none_out w idle
  out_joined (k ∷ ks) w idle = ap (λ l. map emptied k.held ++ l) (out_joined ks w idle)

  pub joined_idle : (m w n : Me (Option V) (List (Known P N V))) → HoldsNone w.0 → m.1 ≡ out_of m.0 → n ≡ (m.0 ++ w.0, m.1) → n.1 ≡ out_of n.0
  joined_idle m w n idle out is = ap (λ z. z.1) is ∙ (out ∙ (sym (out_joined m.0 w.0 idle) ∙ sym (ap (λ z. out_of z.0) is)))

  -- what is out with a seat once the sessions behind the first, which hold nothing, have left it; and with these
  pub left_alone : (m n : Me (Option V) (List (Known P N V))) → HoldsNone (others_of m.0) → m.1 ≡ out_of m.0 → n ≡ (first_of m.0, m.1) → n.1 ≡ out_of n.0
  left_alone m n idle out is = ap (λ z. z.1) is ∙ (out ∙ (first_out m.0 idle ∙ sym (ap (λ z. out_of z.0) is)))
    where
      first_out : (v : List (Known P N V)) → HoldsNone (others_of v) → out_of v ≡ out_of (first_of v)
      first_out [] idle = refl
      first_out (k ∷ ks) idle = ap (λ l. map emptied k.held ++ l) (none_out ks idle)

  pub rest_out : (m n : Me (Option V) (List (Known P N V))) → HoldsNone (others_of m.0) → n ≡ (others_of m.0, []) → n.1 ≡ out_of n.0
  rest_out m n idle is = nothing n (ap (λ z. z.1) is) (subst (λ v. HoldsNone v) (sym (ap (λ z. z.0) is)) idle)

  pub none_fresh : (progress : P) (i : ℕ) (ns : List N) → out_of (all_sessions {V = V} progress i ns) ≡ []
  none_fresh progress i [] = refl
  none_fresh progress i (n ∷ ns) = none_fresh progress (suc i) ns

  pub fresh_idle : (n : Me (Option V) (List (Known P N V))) (progress : P) (ns : List N) → n ≡ (all_sessions progress 0 ns, []) → n.1 ≡ out_of n.0
  fresh_idle n progress ns is = ap (λ z. z.1) is ∙ (sym (none_fresh progress 0 ns) ∙ ap (λ z. out_of z.0) (sym is))

module _ {P N V : Type 0} (R : Rules P N V) (laws : Laws R) where
  abbrev K : Type 0
  K = Known P N V

  all_sessions_at : (progress : P) (n : ℕ) (ns : List N) (i : ℕ) (k : K) → At i k (all_sessions progress n ns) → (k.session ≡ n + i) × (k.progress ≡ progress) × (k.held ≡ []) × At i k.note ns × (k.steps ≡ []) × (k.run ≡ [])
  all_sessions_at progress n [] i k e = absurd (some-ne-none k (sym e))
  all_sessions_at progress n (x ∷ xs) zero k e =
      let is : record { session = n; progress = progress; note = x; held = []; steps = []; run = [] } ≡ k = some-injective _ k e in
      let number : n ≡ k.session = ap (λ (z : K). z.session) is in
      (omega arith, sym (ap (λ (z : K). z.progress) is), sym (ap (λ (z : K). z.held) is), ap (λ (z : K). kernel.some z.note) is, sym (ap (λ (z : K). z.steps) is), sym (ap (λ (z : K). z.run) is))
  all_sessions_at progress n (x ∷ xs) (suc i) k e = let t = all_sessions_at progress (suc n) xs i k e in let number = t.0 in (omega arith, t.1, t.2, t.3, t.4, t.5)

  all_sessions_there : (progress : P) (n : ℕ) (ns : List N) (c : ℕ) → c < length ns → (k : K) × At c k (all_sessions progress n ns) × (k.session ≡ n + c)
  all_sessions_there progress n [] c small = absurd (omega (arith, small))
  all_sessions_there progress n (x ∷ xs) zero small = (record { session = n; progress = progress; note = x; held = []; steps = []; run = [] }, refl, omega arith)
  all_sessions_there progress n (x ∷ xs) (suc c) small = let t = all_sessions_there progress (suc n) xs c (omega (arith, small)) in let number = t.2 in (t.0, t.1, omega (arith, number))

  -- the shelf at the start
  pub opens : (progress : P) (notes : List N) (values : List (Option V)) (words : List ℕ) → words ≡ blanks (word_of (length values + 1)) → R.completed progress ≡ 0 → R.Accounts progress notes → AllAgree R progress notes values → (places : ℕ) → length values ≡ places
      → LockInvariant R (opened_with progress places notes) (opening words (spread values) (all_sessions progress 0 notes))
  opens progress notes values words blank none whole agree places count = record {
    progress = progress;
    notes = notes;
    run = [];
    leads = Begins;
    grown = laws.extends_self progress;
    placed = length_map (spread values) ∙ (long_spread values ∙ ap slot_of count);
    owner = λ _. 0;
    holder = λ _. 0;
    accounts = whole;
    counted = refl;
    wide = ap length blank ∙ omega (arith, length_replicate (word_of (length values + 1)), count);
    tail = zero_at (word_of places) ∙ sym none;
    gaps = λ p a below low high. at_map kernel.some (spread values) (slot_of p + a) None (none_between values p a (omega (arith, below, count)) low high);
    there = λ p below. let t = agree p (omega (arith, below, count)) in inl (t.0, at_map kernel.some (spread values) (slot_of p) (Some t.0) (at_spread values p (Some t.0) t.1), t.2);
    busy = λ p below is. let none = ap (λ z. bit_at z (bit_of places p)) (zero_at (line_word places p)) ∙ bit_at-zero (bit_of places p) in absurd (omega (arith, is, none));
    marked = λ p below h. absurd (nobody p h);
    each = holds_of;
    distinct = apart;
    all = λ c small. let t = all_sessions_there progress 0 notes c small in let number = t.2 in (0, c, all_sessions progress 0 notes, t.0, refl, t.1, omega (arith, number));
  }
    where
      zero_at : (p : ℕ) → get_or words p 0 ≡ 0
      zero_at p = ap (λ l. get_or l p 0) blank ∙ zeros (word_of (length values + 1)) p

      length_replicate : (n : ℕ) → length (blanks n) ≡ n
      length_replicate zero = refl
      length_replicate (suc n) = let h = length_replicate n in omega arith

      length_map : (l : List (Option V)) → length (map kernel.some l) ≡ length l
      length_map [] = refl
      length_map (x ∷ xs) = let h = length_map xs in omega arith

      none_held : (k : K) → k.held ≡ [] → (a : ℕ) (u : ℕ × V) → At a u k.held → ⊥
      none_held k e a u h = some-ne-none u (sym h ∙ ap (λ l. get_elem? l a) e)

      nobody : (p : ℕ) → HeldBySome R p (all_sessions progress 0 notes ∷ []) → ⊥
      nobody p (j, v, i, k, a, u, at_j, at_i, at_a, is) =
          let only = at_only (all_sessions progress 0 notes) v j at_j in
          none_held k (all_sessions_at progress 0 notes i k (subst (λ z. At i k z) (sym only.1) at_i)).2 a u at_a

      holds_of : (j i : ℕ) (v : List K) (k : K) → At j v (all_sessions progress 0 notes ∷ []) → At i k v → SessionInvariant R progress notes [] (map kernel.some (spread values)) (λ _. 0) k × (0 ≡ j)
      holds_of j i v k at_j at_i =
          let only = at_only (all_sessions progress 0 notes) v j at_j in
          let t = all_sessions_at progress 0 notes i k (subst (λ z. At i k z) (sym only.1) at_i) in
          let number = t.0 in (
            record {
              possible = (
                (subst (λ z. R.Extends z progress) (sym t.1) (laws.extends_self progress), λ a u h _. absurd (none_held k t.2 a u h)),
                subst (λ z. At z k.note notes) (omega arith) t.3,
                whole,
                λ a u h. absurd (none_held k t.2 a u h),
              );
              allowed = subst (λ l. R.Allows k.progress k.session (map (λ u. u.0) l)) (sym t.2) (laws.allows_none k.progress k.session);
              apart = λ a b u w h _ _. absurd (none_held k t.2 a u h);
              out = λ a u h. absurd (none_held k t.2 a u h);
              goes_on = ([], sym t.5);
              own = sym t.4;
              ends = record { seen = ap (own_steps k.session) t.5 ∙ sym t.4; last = inl (t.5, t.4) };
            },
            sym only.0,
          )

      apart : (j a b : ℕ) (v : List K) (k m : K) → At j v (all_sessions progress 0 notes ∷ []) → At a k v → At b m v → k.session ≡ m.session → a ≡ b
      apart j a b v k m at_j at_a at_b e =
          let only = at_only (all_sessions progress 0 notes) v j at_j in
          let one = (all_sessions_at progress 0 notes a k (subst (λ z. At a k z) (sym only.1) at_a)).0 in
          let two = (all_sessions_at progress 0 notes b m (subst (λ z. At b m z) (sym only.1) at_b)).0 in
          omega (arith, one, two, e)

  module _ (opened : Opened P N) where
    -- some seat has the session m, as it is
    abbrev IsSeated : K → List (List K) → Type 0
    IsSeated m views = (j i : ℕ) × (v : List K) × At j v views × At i m v

    -- the rule is kept where only the seats change: each session is in some seat still, and was in one, and whose session each is, and no two are the
    -- same
    seated : (s : LockState P N V) (r : LockInvariant R opened s) (views : List (List K)) (owner : ℕ → ℕ) → ((j i : ℕ) (v : List K) (m : K) → At j v s.views → At i m v → IsSeated m views)
        → ((j i : ℕ) (v : List K) (m : K) → At j v views → At i m v → IsSeated m s.views)
        → ((j i : ℕ) (v : List K) (k : K) → At j v views → At i k v → SessionInvariant R r.progress r.notes r.run s.homes r.holder k × (owner k.session ≡ j))
        → ((j a b : ℕ) (v : List K) (k m : K) → At j v views → At a k v → At b m v → k.session ≡ m.session → a ≡ b)
        → LockInvariant R opened record { words = s.words; homes = s.homes; views = views }
    seated s r views owner there was each distinct = record {
      progress = r.progress;
      notes = r.notes;
      run = r.run;
      leads = r.leads;
      owner = owner;
      holder = r.holder;
      grown = r.grown;
      placed = r.placed;
      accounts = r.accounts;
      counted = r.counted;
      wide = r.wide;
      tail = r.tail;
      gaps = r.gaps;
      there = λ p below. ⊎_elim (λ h. inl h) (λ h. inr (still_held p h)) (r.there p below);
      busy = λ p below is. still_held p (r.busy p below is);
      marked = λ p below h. r.marked p below (was_held p h);
      each = each;
      distinct = distinct;
      all = λ c small. still_known c (r.all c small);
    }
      where
        still_held : (p : ℕ) → HeldBySome R p s.views → HeldBySome R p views
        still_held p (j, v, i, m, a, u, at_j, at_i, at_a, is) = let t = there j i v m at_j at_i in (t.0, t.2, t.1, m, a, u, t.3, t.4, at_a, is)

        was_held : (p : ℕ) → HeldBySome R p views → HeldBySome R p s.views
        was_held p (j, v, i, m, a, u, at_j, at_i, at_a, is) = let t = was j i v m at_j at_i in (t.0, t.2, t.1, m, a, u, t.3, t.4, at_a, is)

        still_known : (c : ℕ) → KnownBySome c s.views → KnownBySome c views
        still_known c (j, i, v, m, at_j, at_i, is) = let t = there j i v m at_j at_i in (t.0, t.1, t.2, m, t.3, t.4, is)

    -- the first session of a seat goes to a new seat
    pub splits : (id : ℕ) (k : K) (ks : List K) → Splits (LockInvariant R opened) id (k ∷ ks) (others_of (k ∷ ks)) (first_of (k ∷ ks))
    splits id k ks s r at = seated s r (left ++ (k ∷ []) ∷ []) owner there was each distinct
      where
        left : List (List K)
        left = set s.views id ks

        owner : ℕ → ℕ
        owner q = either (eqb q k.session) (length left) (r.owner q)

        owner_else : (q : ℕ) → q ≢ k.session → owner q ≡ r.owner q
        owner_else q ne = ap (λ b. either b (length left) (r.owner q)) (ne_eqb q k.session ne)

        first_owned : r.owner k.session ≡ id
        first_owned = (r.each id 0 (k ∷ ks) k at refl).1

        ks_at : At id ks left
        ks_at = set_here s.views id ks (at_below s.views id (k ∷ ks) at)

        new_at : At (length left) (k ∷ []) (left ++ (k ∷ []) ∷ [])
        new_at = at_last left (k ∷ []) (length left) refl

        each_left : (j i : ℕ) (v : List K) (m : K) → At j v left → At i m v → SessionInvariant R r.progress r.notes r.run s.homes r.holder m × (owner m.session ≡ j)
        each_left j i v m at_j at_i = ⊎_elim
            (λ (t : (j ≡ id) × (ks ≡ v)).
            let mine : At (suc i) m (k ∷ ks) = subst (λ z. At i m z) (sym t.1) at_i in
            let known = r.each id (suc i) (k ∷ ks) m at mine in
            (known.0, owner_else m.session (λ e. let no = r.distinct id (suc i) 0 (k ∷ ks) m k at mine refl e in absurd (omega (arith, no))) ∙ (known.1 ∙ sym t.0)))
            (λ (t : (j ≢ id) × At j v s.views).
            let known = r.each j i v m t.1 at_i in
            (known.0, owner_else m.session (λ e. t.0 (sym known.1 ∙ (ap r.owner e ∙ first_owned))) ∙ known.1))
            (at_set s.views id j ks v at_j)

        each : (j i : ℕ) (v : List K) (m : K) → At j v (left ++ (k ∷ []) ∷ []) → At i m v → SessionInvariant R r.progress r.notes r.run s.homes r.holder m × (owner m.session ≡ j)
        each j i v m at_j at_i = ⊎_elim
            (λ h. each_left j i v m h at_i)
            (λ (t : (j ≡ length left) × ((k ∷ []) ≡ v)).
            let only = at_only k m i (subst (λ z. At i m z) (sym t.1) at_i) in (
              subst (λ z. SessionInvariant R r.progress r.notes r.run s.homes r.holder z) only.1 (r.each id 0 (k ∷ ks) k at refl).0,
              ap (λ (z : K). owner z.session) (sym only.1) ∙ (ap (λ b. either b (length left) (r.owner k.session)) (eq-eqb k.session k.session refl) ∙ sym t.0),
            ))
            (at_snoc_last left (k ∷ []) v j at_j)

        distinct_left : (j a b : ℕ) (v : List K) (x y : K) → At j v left → At a x v → At b y v → x.session ≡ y.session → a ≡ b
        distinct_left j a b v x y at_j at_a at_b e = ⊎_elim
            (λ (t : (j ≡ id) × (ks ≡ v)).
            let one : suc a ≡ suc b = r.distinct id (suc a) (suc b) (k ∷ ks) x y at (subst (λ z. At a x z) (sym t.1) at_a) (subst (λ z. At b y z) (sym t.1) at_b) e in
            omega (arith, one))
            (λ (t : (j ≢ id) × At j v s.views). r.distinct j a b v x y t.1 at_a at_b e)
            (at_set s.views id j ks v at_j)

        distinct : (j a b : ℕ) (v : List K) (x y : K) → At j v (left ++ (k ∷ []) ∷ []) → At a x v → At b y v → x.session ≡ y.session → a ≡ b
        distinct j a b v x y at_j at_a at_b e = ⊎_elim
            (λ h. distinct_left j a b v x y h at_a at_b e)
            (λ (t : (j ≡ length left) × ((k ∷ []) ≡ v)).
            let one = at_only k x a (subst (λ z. At a x z) (sym t.1) at_a) in
            let two = at_only k y b (subst (λ z. At b y z) (sym t.1) at_b) in
            one.0 ∙ sym two.0)
            (at_snoc_last left (k ∷ []) v j at_j)

        of_seat : (i : ℕ) (m : K) → At i m (k ∷ ks) → IsSeated m (left ++ (k ∷ []) ∷ [])
        of_seat zero m at_i = (length left, 0, k ∷ [], new_at, at_i)
        of_seat (suc i) m at_i = (id, i, ks, at_longer left ((k ∷ []) ∷ []) id ks ks_at, at_i)

        was : (j i : ℕ) (v : List K) (m : K) → At j v (left ++ (k ∷ []) ∷ []) → At i m v → IsSeated m s.views
        was j i v m at_j at_i = ⊎_elim
            (λ h. ⊎_elim
            (λ (t : (j ≡ id) × (ks ≡ v)). (id, suc i, k ∷ ks, at, subst (λ z. At i m z) (sym t.1) at_i))
            (λ (t : (j ≢ id) × At j v s.views). (j, i, v, t.1, at_i))
            (at_set s.views id j ks v h))
            (λ (t : (j ≡ length left) × ((k ∷ []) ≡ v)). let only = at_only k m i (subst (λ z. At i m z) (sym t.1) at_i) in (id, 0, k ∷ ks, at, ap kernel.some only.1))
            (at_snoc_last left (k ∷ []) v j at_j)

        there : (j i : ℕ) (v : List K) (m : K) → At j v s.views → At i m v → IsSeated m (left ++ (k ∷ []) ∷ [])
        there j i v m at_j at_i = dite (ℕ_discrete j id)
            (λ e. of_seat i m (subst (λ z. At i m z) (at_one s.views id v (k ∷ ks) (subst (λ z. At z v s.views) e at_j) at) at_i))
            (λ ne. (j, i, v, at_longer left ((k ∷ []) ∷ []) j v (set_else s.views id j ks ne ∙ at_j), at_i))

    -- the sessions behind the first of a seat go to a new seat
    pub splits_off : (id : ℕ) (k : K) (ks : List K) → Splits (LockInvariant R opened) id (k ∷ ks) (first_of (k ∷ ks)) (others_of (k ∷ ks))
    splits_off id k ks s r at = seated s r (left ++ ks ∷ []) owner there was each distinct
      where
        left : List (List K)
        left = set s.views id (k ∷ [])

        moved : ℕ → ℕ
        moved q = either (eqb (r.owner q) id) (length left) (r.owner q)

        owner : ℕ → ℕ
        owner q = either (eqb q k.session) (r.owner q) (moved q)

        owner_first : owner k.session ≡ r.owner k.session
        owner_first = ap (λ b. either b (r.owner k.session) (moved k.session)) (eq-eqb k.session k.session refl)

        owner_moved : (q : ℕ) → q ≢ k.session → r.owner q ≡ id → owner q ≡ length left
        owner_moved q ne e = ap (λ b. either b (r.owner q) (moved q)) (ne_eqb q k.session ne) ∙ ap (λ b. either b (length left) (r.owner q)) (eq-eqb (r.owner q) id e)

        owner_else : (q : ℕ) → r.owner q ≢ id → owner q ≡ r.owner q
        owner_else q ne = dite (ℕ_discrete q k.session)
            (λ e. ap (λ b. either b (r.owner q) (moved q)) (eq-eqb q k.session e))
            (λ other. ap (λ b. either b (r.owner q) (moved q)) (ne_eqb q k.session other) ∙ ap (λ b. either b (length left) (r.owner q)) (ne_eqb (r.owner q) id ne))

        first_owned : r.owner k.session ≡ id
        first_owned = (r.each id 0 (k ∷ ks) k at refl).1

        first_at : At id (k ∷ []) left
        first_at = set_here s.views id (k ∷ []) (at_below s.views id (k ∷ ks) at)

        new_at : At (length left) ks (left ++ ks ∷ [])
        new_at = at_last left ks (length left) refl

        each_left : (j i : ℕ) (v : List K) (m : K) → At j v left → At i m v → SessionInvariant R r.progress r.notes r.run s.homes r.holder m × (owner m.session ≡ j)
        each_left j i v m at_j at_i = ⊎_elim
            (λ (t : (j ≡ id) × ((k ∷ []) ≡ v)).
            let only = at_only k m i (subst (λ z. At i m z) (sym t.1) at_i) in
            (subst (λ z. SessionInvariant R r.progress r.notes r.run s.homes r.holder z) only.1 (r.each id 0 (k ∷ ks) k at refl).0, ap (λ (z : K). owner z.session) (sym only.1) ∙ (owner_first ∙ (first_owned ∙ sym t.0))))
            (λ (t : (j ≢ id) × At j v s.views).
            let known = r.each j i v m t.1 at_i in
            (known.0, owner_else m.session (λ e. t.0 (sym known.1 ∙ e)) ∙ known.1))
            (at_set s.views id j (k ∷ []) v at_j)

        each : (j i : ℕ) (v : List K) (m : K) → At j v (left ++ ks ∷ []) → At i m v → SessionInvariant R r.progress r.notes r.run s.homes r.holder m × (owner m.session ≡ j)
        each j i v m at_j at_i = ⊎_elim
            (λ h. each_left j i v m h at_i)
            (λ (t : (j ≡ length left) × (ks ≡ v)).
            let mine : At (suc i) m (k ∷ ks) = subst (λ z. At i m z) (sym t.1) at_i in
            let known = r.each id (suc i) (k ∷ ks) m at mine in
            (known.0, owner_moved m.session (λ e. let no = r.distinct id (suc i) 0 (k ∷ ks) m k at mine refl e in absurd (omega (arith, no))) known.1 ∙ sym t.0))
            (at_snoc_last left ks v j at_j)

        distinct : (j a b : ℕ) (v : List K) (x y : K) → At j v (left ++ ks ∷ []) → At a x v → At b y v → x.session ≡ y.session → a ≡ b
        distinct j a b v x y at_j at_a at_b e = ⊎_elim
            (λ h. ⊎_elim
            (λ (t : (j ≡ id) × ((k ∷ []) ≡ v)).
            let one = at_only k x a (subst (λ z. At a x z) (sym t.1) at_a) in
            let two = at_only k y b (subst (λ z. At b y z) (sym t.1) at_b) in
            one.0 ∙ sym two.0)
            (λ (t : (j ≢ id) × At j v s.views). r.distinct j a b v x y t.1 at_a at_b e)
            (at_set s.views id j (k ∷ []) v h))
            (λ (t : (j ≡ length left) × (ks ≡ v)).
            let one : suc a ≡ suc b = r.distinct id (suc a) (suc b) (k ∷ ks) x y at (subst (λ z. At a x z) (sym t.1) at_a) (subst (λ z. At b y z) (sym t.1) at_b) e in
            omega (arith, one))
            (at_snoc_last left ks v j at_j)

        of_seat : (i : ℕ) (m : K) → At i m (k ∷ ks) → IsSeated m (left ++ ks ∷ [])
        of_seat zero m at_i = (id, 0, k ∷ [], at_longer left (ks ∷ []) id (k ∷ []) first_at, at_i)
        of_seat (suc i) m at_i = (length left, i, ks, new_at, at_i)

        was : (j i : ℕ) (v : List K) (m : K) → At j v (left ++ ks ∷ []) → At i m v → IsSeated m s.views
        was j i v m at_j at_i = ⊎_elim
            (λ h. ⊎_elim
            (λ (t : (j ≡ id) × ((k ∷ []) ≡ v)). let only = at_only k m i (subst (λ z. At i m z) (sym t.1) at_i) in (id, 0, k ∷ ks, at, ap kernel.some only.1))
            (λ (t : (j ≢ id) × At j v s.views). (j, i, v, t.1, at_i))
            (at_set s.views id j (k ∷ []) v h))
            (λ (t : (j ≡ length left) × (ks ≡ v)). (id, suc i, k ∷ ks, at, subst (λ z. At i m z) (sym t.1) at_i))
            (at_snoc_last left ks v j at_j)

        there : (j i : ℕ) (v : List K) (m : K) → At j v s.views → At i m v → IsSeated m (left ++ ks ∷ [])
        there j i v m at_j at_i = dite (ℕ_discrete j id)
            (λ e. of_seat i m (subst (λ z. At i m z) (at_one s.views id v (k ∷ ks) (subst (λ z. At z v s.views) e at_j) at) at_i))
            (λ ne. (j, i, v, at_longer left (ks ∷ []) j v (set_else s.views id j (k ∷ []) ne ∙ at_j), at_i))

    -- a seat takes in the sessions of another
    pub joins : (id : ℕ) (v : List K) (other : ℕ) (w : List K) → Joins (LockInvariant R opened) id v other w (v ++ w) []
    joins id v other w s r at apart there = seated s r last owner moved was each distinct
      where
        mid : List (List K)
        mid = set s.views id (v ++ w)

        last : List (List K)
        last = set mid other []

        owner : ℕ → ℕ
        owner q = either (eqb (r.owner q) other) id (r.owner q)

        owner_else : (q : ℕ) → r.owner q ≢ other → owner q ≡ r.owner q
        owner_else q ne = ap (λ b. either b id (r.owner q)) (ne_eqb (r.owner q) other ne)

        owner_here : (q : ℕ) → r.owner q ≡ other → owner q ≡ id
        owner_here q e = ap (λ b. either b id (r.owner q)) (eq-eqb (r.owner q) other e)

        w_at : At other w s.views
        w_at = sym (set_else s.views id other (v ++ w) apart) ∙ there

        both_at : At id (v ++ w) last
        both_at = set_else mid other id [] (λ e. apart (sym e)) ∙ set_here s.views id (v ++ w) (at_below s.views id v at)

        each_both : (i : ℕ) (m : K) → At i m (v ++ w) → SessionInvariant R r.progress r.notes r.run s.homes r.holder m × (owner m.session ≡ id)
        each_both i m at_i = ⊎_elim
            (λ (t : (i < length v) × At i m v). let known = r.each id i v m at t.1 in (known.0, owner_else m.session (λ e. apart (sym e ∙ known.1)) ∙ known.1))
            (λ (t : (b : ℕ) × (i ≡ length v + b) × At b m w). let known = r.each other t.0 w m w_at t.2 in (known.0, owner_here m.session known.1))
            (at_append v w i m at_i)

        each_mid : (j i : ℕ) (x : List K) (m : K) → j ≢ other → At j x mid → At i m x → SessionInvariant R r.progress r.notes r.run s.homes r.holder m × (owner m.session ≡ j)
        each_mid j i x m ne at_j at_i = ⊎_elim
            (λ (t : (j ≡ id) × ((v ++ w) ≡ x)). let known = each_both i m (subst (λ z. At i m z) (sym t.1) at_i) in (known.0, known.1 ∙ sym t.0))
            (λ (t : (j ≢ id) × At j x s.views). let known = r.each j i x m t.1 at_i in (known.0, owner_else m.session (λ e. ne (sym known.1 ∙ e)) ∙ known.1))
            (at_set s.views id j (v ++ w) x at_j)

        each : (j i : ℕ) (x : List K) (m : K) → At j x last → At i m x → SessionInvariant R r.progress r.notes r.run s.homes r.holder m × (owner m.session ≡ j)
        each j i x m at_j at_i = ⊎_elim
            (λ (t : (j ≡ other) × ([] ≡ x)). let none : At i m [] = subst (λ z. At i m z) (sym t.1) at_i in absurd (some-ne-none m (sym none)))
            (λ (t : (j ≢ other) × At j x mid). each_mid j i x m t.0 t.1 at_i)
            (at_set mid other j [] x at_j)

        crossed : (a b : ℕ) (x y : K) → At a x v → At b y w → x.session ≡ y.session → ⊥
        crossed a b x y at_a at_b e = apart (sym (r.each other b w y w_at at_b).1 ∙ (ap r.owner (sym e) ∙ (r.each id a v x at at_a).1))

        distinct_both : (a b : ℕ) (x y : K) → At a x (v ++ w) → At b y (v ++ w) → x.session ≡ y.session → a ≡ b
        distinct_both a b x y at_a at_b e = ⊎_elim
            (λ (t : (a < length v) × At a x v). ⊎_elim
            (λ (u : (b < length v) × At b y v). r.distinct id a b v x y at t.1 u.1 e)
            (λ (u : (c : ℕ) × (b ≡ length v + c) × At c y w). absurd (crossed a u.0 x y t.1 u.2 e))
            (at_append v w b y at_b))
            (λ (t : (c : ℕ) × (a ≡ length v + c) × At c x w). ⊎_elim
            (λ (u : (b < length v) × At b y v). absurd (crossed b t.0 y x u.1 t.2 (sym e)))
            (λ (u : (c : ℕ) × (b ≡ length v + c) × At c y w).
            let one = t.1 in let two = u.1 in let same = r.distinct other t.0 u.0 w x y w_at t.2 u.2 e in omega (arith, one, two, same))
            (at_append v w b y at_b))
            (at_append v w a x at_a)

        distinct : (j a b : ℕ) (z : List K) (x y : K) → At j z last → At a x z → At b y z → x.session ≡ y.session → a ≡ b
        distinct j a b z x y at_j at_a at_b e = ⊎_elim
            (λ (t : (j ≡ other) × ([] ≡ z)). let none : At a x [] = subst (λ l. At a x l) (sym t.1) at_a in absurd (some-ne-none x (sym none)))
            (λ (t : (j ≢ other) × At j z mid). ⊎_elim
            (λ (u : (j ≡ id) × ((v ++ w) ≡ z)). distinct_both a b x y (subst (λ l. At a x l) (sym u.1) at_a) (subst (λ l. At b y l) (sym u.1) at_b) e)
            (λ (u : (j ≢ id) × At j z s.views). r.distinct j a b z x y u.1 at_a at_b e)
            (at_set s.views id j (v ++ w) z t.1))
            (at_set mid other j [] z at_j)

        was_both : (i : ℕ) (m : K) → At i m (v ++ w) → IsSeated m s.views
        was_both i m at_i = ⊎_elim
            (λ (t : (i < length v) × At i m v). (id, i, v, at, t.1))
            (λ (t : (b : ℕ) × (i ≡ length v + b) × At b m w). (other, t.0, w, w_at, t.2))
            (at_append v w i m at_i)

        was : (j i : ℕ) (z : List K) (m : K) → At j z last → At i m z → IsSeated m s.views
        was j i z m at_j at_i = ⊎_elim
            (λ (t : (j ≡ other) × ([] ≡ z)). let none : At i m [] = subst (λ l. At i m l) (sym t.1) at_i in absurd (some-ne-none m (sym none)))
            (λ (t : (j ≢ other) × At j z mid). ⊎_elim
            (λ (u : (j ≡ id) × ((v ++ w) ≡ z)). was_both i m (subst (λ l. At i m l) (sym u.1) at_i))
            (λ (u : (j ≢ id) × At j z s.views). (j, i, z, u.1, at_i))
            (at_set s.views id j (v ++ w) z t.1))
            (at_set mid other j [] z at_j)

        moved : (j i : ℕ) (z : List K) (m : K) → At j z s.views → At i m z → IsSeated m last
        moved j i z m at_j at_i = dite (ℕ_discrete j id)
            (λ e. (id, i, v ++ w, both_at, at_longer v w i m (subst (λ l. At i m l) (at_one s.views id z v (subst (λ q. At q z s.views) e at_j) at) at_i)))
            (λ ne. dite (ℕ_discrete j other)
            (λ e. let t = at_behind v w i m (subst (λ l. At i m l) (at_one s.views other z w (subst (λ q. At q z s.views) e at_j) w_at) at_i) in (id, t.0, v ++ w, both_at, t.1))
            (λ far. (j, i, z, set_else mid other j [] far ∙ (set_else s.views id j (v ++ w) ne ∙ at_j), at_i)))
