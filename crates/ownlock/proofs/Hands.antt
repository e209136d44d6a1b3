-- A place that one session of a seat puts back and the next one takes at once keeps the invariant.
use Rattle.std.proofs.Common.{◌≡◌, ◌≢◌, ℕ, zero, suc, ◌^◌, ◌<◌, ◌⊎◌, eqb, List, [], ◌∷◌, ◌++◌, map, length, get_or, set, sym, refl, ap, ◌∙◌, subst, ⊎_elim, inl, inr, arith, length-set, eq-eqb, ne_eqb, Option, Some, None, bit_or}
use Rattle.std.specs.Int.{bit_at}
use Rattle.std.proofs.lemmas.Bool.{cases_lt}
use mathlib.Core.Logic.{dite}
use mathlib.Core.Option as kernel
use mathlib.Core.Option.{some-injective, some-ne-none}
use native.Mathlib.Decide.{ℕ_discrete}
use lib.ListN.{get_elem?}
use prog.Atomic.{either}
use Rattle.std.proofs.lemmas.Option.{same_Some}
use Rattle.atomic_table.specs.Table.{Act, keeps, step, stepped, Allows, Valid, carried_after}
use Rattle.atomic_table.proofs.Lists.{at_set, set_here, set_else, at_longer}
use Rattle.ownlock.specs.declared.known.Known.{Known}
use Rattle.ownlock.specs.declared.known.SharedStep.{SharedStep}
use Rattle.ownlock.specs.declared.known.ShelfStep.TheVariants.{Took, Put}
use Rattle.ownlock.specs.Rules.{Rules, Laws, Move, IsAmong}
use Rattle.ownlock.specs.Words.{IsMarked, bit_of, line_word, slot_of, winner_at}
use Rattle.ownlock.specs.Runs.{Puts, Takes}
use Rattle.ownlock.specs.Seats.{At, Opened, Run, Continues, own_steps, HoldsNone, place_of, putting, taking, taken_by}
use Rattle.ownlock.specs.Knowledge.{HeldAgree, Possible, MayPut, MayHandOn}
use Rattle.ownlock.specs.Invariant.{SessionInvariant, HasValue, HeldBySome, KnownBySome, LockInvariant, StepsOn, handed_marked, handed_on}
use Rattle.ownlock.proofs.Keeps.{LockState, LockSeat, all_places, at_one, line_there, tail_else, unmoved, word_is, word_set}
use Rattle.ownlock.proofs.Marks.{Remarks, Rewords, bit_below, looked, reworded, set_bit, set_remarks}
use Rattle.ownlock.proofs.Spread.{one_slot}
use Rattle.ownlock.proofs.Run.{continues_self, continues_more, own_here, own_else}
use Rattle.ownlock.proofs.Seats.{at_snoc_last, at_behind}
use Rattle.ownlock.proofs.Without.{was_held, not_held, apart_without, part_of}
use Rattle.ownlock.proofs.Fronts.{at_below}

module _ {P N V : Type 0} (R : Rules P N V) (laws : Laws R) (opened : Opened P N) where
  abbrev K : Type 0
  K = Known P N V

  none_at : (z : K) → z.held ≡ [] → (a : ℕ) (u : ℕ × V) → At a u z.held → ⊥
  none_at z none a u e = some-ne-none u (sym (subst (λ (l : List (ℕ × V)). At a u l) none e))

  module _ (s : LockState P N V) (r : LockInvariant R opened s) (id p : ℕ) (k m : K) (ms : List K) (at : At id (k ∷ m ∷ ms) s.views) (below : p < opened.places)
      (x y : V) (alone : k.held ≡ (p, x) ∷ []) (idle : HoldsNone (m ∷ ms)) (grown : P → P) (noting : N → N)
      (may : (progress : P) (notes : List N) → Possible R k progress notes → R.Moves p k.session x progress k.note (grown progress) (noting k.note) × R.AgreesWith p (grown progress) (set notes k.session (noting k.note)) y)
      (allowed : R.Allows m.progress m.session (p ∷ [])) where
    abbrev olds : List K
    olds = k ∷ m ∷ ms

    abbrev progress_after : P
    progress_after = grown r.progress

    abbrev note_after : N
    note_after = noting k.note

    abbrev notes_after : List N
    notes_after = set r.notes k.session note_after

    abbrev giver : K
    giver = putting k p y progress_after note_after r.run

    abbrev put_entry : SharedStep P N V
    put_entry = taken_by k (Put p y) progress_after note_after

    abbrev took_entry : SharedStep P N V
    took_entry = taken_by m (Took p y) progress_after m.note

    abbrev run_after : Run P N V
    run_after = took_entry ∷ put_entry ∷ r.run

    abbrev taker : K
    taker = taking m p y progress_after (put_entry ∷ r.run)

    abbrev news : List K
    news = taker ∷ (ms ++ giver ∷ [])

    abbrev holder_after : ℕ → ℕ
    holder_after q = either (eqb q p) m.session (r.holder q)

    holder_else : (q : ℕ) → q ≢ p → holder_after q ≡ r.holder q
    holder_else q ne = ap (λ b. either b m.session (r.holder q)) (ne_eqb q p ne)

    was : SessionInvariant R r.progress r.notes r.run s.homes r.holder k
    was = (r.each id 0 olds k at refl).0

    owned : r.owner k.session ≡ id
    owned = (r.each id 0 olds k at refl).1

    next : SessionInvariant R r.progress r.notes r.run s.homes r.holder m
    next = (r.each id 1 olds m at refl).0

    top : At 0 (p, x) k.held
    top = ap (λ (l : List (ℕ × V)). get_elem? l 0) alone

    apart_here : (i : ℕ) (z : K) → At (suc i) z olds → z.session ≢ k.session
    apart_here i z e f = let no : suc i ≡ 0 = r.distinct id (suc i) 0 olds z k at e refl f in omega (arith, no)

    -- the steps of a session that is none of the two, and of these
    own_idle : (c : ℕ) → c ≢ k.session → c ≢ m.session → own_steps c run_after ≡ own_steps c r.run
    own_idle c ne other = own_else c took_entry (put_entry ∷ r.run) (λ same. other (sym same)) ∙ own_else c put_entry r.run (λ same. ne (sym same))

    next_apart : m.session ≢ k.session
    next_apart = apart_here 0 m refl

    put_own : own_steps k.session (put_entry ∷ r.run) ≡ Put p y ∷ k.steps
    put_own = own_here k.session put_entry r.run refl ∙ ap (λ es. Put p y ∷ es) was.own

    next_own : own_steps m.session (put_entry ∷ r.run) ≡ m.steps
    next_own = own_else m.session put_entry r.run (λ same. next_apart (sym same)) ∙ next.own

    took_own : own_steps m.session run_after ≡ Took p y ∷ m.steps
    took_own = own_here m.session took_entry (put_entry ∷ r.run) refl ∙ ap (λ es. Took p y ∷ es) next_own

    goes_on_after : (known : Run P N V) → Continues known r.run → Continues known run_after
    goes_on_after known h = continues_more known (put_entry ∷ r.run) took_entry (continues_more known r.run put_entry h)

    abbrev move : Move R
    move = record { place = p; session = k.session; value = x; progress = r.progress; new_progress = progress_after; note = k.note; new_note = note_after; allowed = (may r.progress r.notes was.possible).0 }

    among : IsAmong move r.notes
    among = record { accounts = r.accounts; own = was.possible.1; agrees = was.possible.3 0 (p, x) top }

    give_others : (q : ℕ) (z : V) → q ≢ p → R.AgreesWith q r.progress r.notes z → R.AgreesWith q progress_after notes_after z
    give_others = laws.moves_others move r.notes among

    give_accounts : R.Accounts progress_after notes_after
    give_accounts = laws.moves_account move r.notes among

    grows : R.Extends r.progress progress_after
    grows = laws.moves_extend move

    noted : (i : ℕ) (n : N) → i ≢ k.session → At i n r.notes → At i n notes_after
    noted i n ne h = set_else r.notes k.session i note_after ne ∙ h

    -- a session of the seat that holds nothing
    idle_fits : (z : K) → z.held ≡ [] → z.session ≢ k.session → z.session ≢ m.session → SessionInvariant R r.progress r.notes r.run s.homes r.holder z → SessionInvariant R progress_after notes_after run_after s.homes holder_after z
    idle_fits z none ne other fit = record {
      possible = (
        (laws.extends_on z.progress r.progress progress_after fit.possible.0.0 grows, λ a u e _. absurd (none_at z none a u e)),
        noted z.session z.note ne fit.possible.1,
        give_accounts,
        λ a u e. absurd (none_at z none a u e),
      );
      allowed = fit.allowed;
      apart = fit.apart;
      out = λ a u e. absurd (none_at z none a u e);
      goes_on = goes_on_after z.run fit.goes_on;
      own = own_idle z.session ne other ∙ fit.own;
      ends = fit.ends;
    }

    next_none : m.held ≡ []
    next_none = idle 0 m refl

    taker_agrees : HeldAgree R progress_after notes_after taker.held
    taker_agrees zero u e = subst (λ (z : ℕ × V). R.AgreesWith z.0 progress_after notes_after z.1) (some-injective (p, y) u e) (may r.progress r.notes was.possible).1
    taker_agrees (suc a) u e = absurd (none_at m next_none a u e)

    taker_possible : Possible R taker progress_after notes_after
    taker_possible = (
      (laws.extends_self progress_after, λ a u _ _. laws.same_self progress_after),
      noted m.session m.note (apart_here 0 m refl) next.possible.1,
      give_accounts,
      taker_agrees,
    )

    taker_apart : (a b : ℕ) (u w : ℕ × V) → At a u taker.held → At b w taker.held → u.0 ≡ w.0 → a ≡ b
    taker_apart zero zero u w e f is = refl
    taker_apart zero (suc b) u w e f is = absurd (none_at m next_none b w f)
    taker_apart (suc a) b u w e f is = absurd (none_at m next_none a u e)

    taker_out : (a : ℕ) (u : ℕ × V) → At a u taker.held → (holder_after u.0 ≡ m.session) × At (slot_of u.0) kernel.none s.homes
    taker_out zero u e = subst (λ q. (holder_after q ≡ m.session) × At (slot_of q) kernel.none s.homes) (ap (λ (z : ℕ × V). z.0) (some-injective (p, y) u e))
        (ap (λ b. either b m.session (r.holder p)) (eq-eqb p p refl), (was.out 0 (p, x) top).1)
    taker_out (suc a) u e = absurd (none_at m next_none a u e)

    taker_fits : SessionInvariant R progress_after notes_after run_after s.homes holder_after taker
    taker_fits = record {
      possible = taker_possible;
      allowed = laws.allows_on m.progress progress_after m.session (map place_of taker.held) (laws.extends_on m.progress r.progress progress_after next.possible.0.0 grows)
          (subst (λ (l : List (ℕ × V)). R.Allows m.progress m.session (p ∷ map place_of l)) (sym next_none) allowed);
      apart = taker_apart;
      out = taker_out;
      goes_on = continues_self run_after;
      own = took_own;
      ends = record { seen = took_own; last = inr (put_entry ∷ r.run, took_entry, refl, refl, refl, refl) };
    }

    giver_none : (b : ℕ) (u : ℕ × V) → At b u giver.held → ⊥
    giver_none b u e = let back = was_held p k.held b u e in only back.0 (subst (λ (l : List (ℕ × V)). At back.0 u l) alone back.1)
      where
        only : (c : ℕ) → At c u ((p, x) ∷ []) → ⊥
        only zero f = not_held p k.held was.apart b u e (sym (ap (λ (z : ℕ × V). z.0) (some-injective (p, x) u f)))
        only (suc c) f = some-ne-none u (sym f)

    giver_fits : SessionInvariant R progress_after notes_after run_after s.homes holder_after giver
    giver_fits = record {
      possible = (
        (laws.extends_self progress_after, λ a u _ _. laws.same_self progress_after),
        set_here r.notes k.session note_after (at_below r.notes k.session k.note was.possible.1),
        give_accounts,
        λ b u e. absurd (giver_none b u e),
      );
      allowed = laws.allows_on k.progress progress_after k.session (map place_of giver.held) (laws.extends_on k.progress r.progress progress_after was.possible.0.0 grows)
          (laws.allows_part k.progress k.session (map place_of giver.held) (map place_of k.held) (part_of p k.held) was.allowed);
      apart = apart_without p k.held was.apart;
      out = λ b u e. absurd (giver_none b u e);
      goes_on = continues_more (put_entry ∷ r.run) (put_entry ∷ r.run) took_entry (continues_self (put_entry ∷ r.run));
      own = own_else k.session took_entry (put_entry ∷ r.run) next_apart ∙ put_own;
      ends = record { seen = put_own; last = inr (r.run, put_entry, refl, refl, refl, refl) };
    }

    abbrev after : List (List K)
    after = set s.views id news

    news_at : At id news after
    news_at = set_here s.views id news (at_below s.views id olds at)

    not_theirs : (j i : ℕ) (v : List K) (z : K) (a : ℕ) (u : ℕ × V) → j ≢ id → At j v s.views → At i z v → At a u z.held → u.0 ≢ p
    not_theirs j i v z a u other at_j at_i at_a e =
        let known = r.each j i v z at_j at_i in
        let same : z.session ≡ k.session = sym (known.0.out a u at_a).0 ∙ (ap r.holder e ∙ (was.out 0 (p, x) top).0) in
        other (sym known.1 ∙ (ap r.owner same ∙ owned))

    theirs : (j i : ℕ) (v : List K) (z : K) → j ≢ id → At j v s.views → At i z v → SessionInvariant R progress_after notes_after run_after s.homes holder_after z
    theirs j i v z other at_j at_i =
        let known = r.each j i v z at_j at_i in
        let fit = known.0 in
        let apart : z.session ≢ k.session = λ e. other (sym known.1 ∙ (ap r.owner e ∙ owned)) in
        let apart_next : z.session ≢ m.session = λ e. other (sym known.1 ∙ (ap r.owner e ∙ (r.each id 1 olds m at refl).1)) in
        record {
          possible = (
            (laws.extends_on z.progress r.progress progress_after fit.possible.0.0 grows, λ a u at_a lead. laws.same_on z.progress r.progress progress_after (fit.possible.0.1 a u at_a lead) (laws.moves_same move (λ e. not_theirs j i v z a u other at_j at_i at_a (lead ∙ sym e)))),
            noted z.session z.note apart fit.possible.1,
            give_accounts,
            λ a u at_a. give_others u.0 u.1 (not_theirs j i v z a u other at_j at_i at_a) (fit.possible.3 a u at_a),
          );
          allowed = fit.allowed;
          apart = fit.apart;
          out = λ a u at_a. let was = fit.out a u at_a in (holder_else u.0 (not_theirs j i v z a u other at_j at_i at_a) ∙ was.0, was.1);
          goes_on = goes_on_after z.run fit.goes_on;
          own = own_idle z.session apart apart_next ∙ fit.own;
          ends = fit.ends;
        }

    behind_fits : (i : ℕ) (z : K) → At i z (ms ++ giver ∷ []) → SessionInvariant R progress_after notes_after run_after s.homes holder_after z × (r.owner z.session ≡ id)
    behind_fits i z e = ⊎_elim
        (λ (h : At i z ms). let known = r.each id (suc (suc i)) olds z at h in (idle_fits z (idle (suc i) z h) (apart_here (suc i) z h) (λ f. let no = r.distinct id (suc (suc i)) 1 olds z m at h refl f in absurd (omega (arith, no))) known.0, known.1))
        (λ (h : (i ≡ length ms) × (giver ≡ z)). (subst (λ (z : K). SessionInvariant R progress_after notes_after run_after s.homes holder_after z) h.1 giver_fits, ap (λ (z : K). r.owner z.session) (sym h.1) ∙ owned))
        (at_snoc_last ms giver z i e)

    news_fit : (i : ℕ) (z : K) → At i z news → SessionInvariant R progress_after notes_after run_after s.homes holder_after z × (r.owner z.session ≡ id)
    news_fit zero z e = let is = some-injective taker z e in
        (subst (λ (z : K). SessionInvariant R progress_after notes_after run_after s.homes holder_after z) is taker_fits, ap (λ (z : K). r.owner z.session) (sym is) ∙ (r.each id 1 olds m at refl).1)
    news_fit (suc i) z e = behind_fits i z e

    each_after : (j i : ℕ) (v : List K) (z : K) → At j v after → At i z v → SessionInvariant R progress_after notes_after run_after s.homes holder_after z × (r.owner z.session ≡ j)
    each_after j i v z at_j at_i = ⊎_elim
        (λ (t : (j ≡ id) × (news ≡ v)). let fit = news_fit i z (subst (λ (l : List K). At i z l) (sym t.1) at_i) in (fit.0, fit.1 ∙ sym t.0))
        (λ (t : (j ≢ id) × At j v s.views). (theirs j i v z t.0 t.1 at_i, (r.each j i v z t.1 at_i).1))
        (at_set s.views id j news v at_j)

    -- where a session stood before
    abbrev Came : ℕ → ℕ → Type 0
    Came a c = ((a ≡ 0) × (c ≡ 1)) ⊎ (((0 < a) × (c ≡ suc a) × (a < suc (length ms))) ⊎ ((a ≡ suc (length ms)) × (c ≡ 0)))

    came : (a : ℕ) (z : K) → At a z news → (c : ℕ) × (old : K) × At c old olds × (old.session ≡ z.session) × Came a c
    came zero z e = (1, m, refl, ap (λ (z : K). z.session) (some-injective taker z e), inl (refl, refl))
    came (suc a) z e = ⊎_elim
        (λ (h : At a z ms). let small = at_below ms a z h in (suc (suc a), z, h, refl, inr (inl (omega arith, refl, omega (arith, small)))))
        (λ (h : (a ≡ length ms) × (giver ≡ z)). let is = h.0 in (0, k, refl, ap (λ (z : K). z.session) h.1, inr (inr (omega (arith, is), refl))))
        (at_snoc_last ms giver z a e)

    one_came : (a b c d : ℕ) → Came a c → Came b d → c ≡ d → a ≡ b
    one_came a b c d s t e = ⊎_elim
        (λ (s : (a ≡ 0) × (c ≡ 1)). ⊎_elim (λ (t : (b ≡ 0) × (d ≡ 1)). s.0 ∙ sym t.0)
        (⊎_elim (λ (t : (0 < b) × (d ≡ suc b) × (b < suc (length ms))). let p = s.1 in let q = t.1 in let w = t.0 in absurd (omega (arith, p, q, w, e))) (λ (t : (b ≡ suc (length ms)) × (d ≡ 0)). let p = s.1 in let q = t.1 in absurd (omega (arith, p, q, e)))) t)
        (⊎_elim
        (λ (s : (0 < a) × (c ≡ suc a) × (a < suc (length ms))). ⊎_elim (λ (t : (b ≡ 0) × (d ≡ 1)). let p = s.1 in let w = s.0 in let q = t.1 in absurd (omega (arith, p, q, w, e)))
        (⊎_elim (λ (t : (0 < b) × (d ≡ suc b) × (b < suc (length ms))). let p = s.1 in let q = t.1 in omega (arith, p, q, e)) (λ (t : (b ≡ suc (length ms)) × (d ≡ 0)). let p = s.1 in let q = t.1 in absurd (omega (arith, p, q, e)))) t)
        (λ (s : (a ≡ suc (length ms)) × (c ≡ 0)). ⊎_elim (λ (t : (b ≡ 0) × (d ≡ 1)). let p = s.1 in let q = t.1 in absurd (omega (arith, p, q, e)))
        (⊎_elim (λ (t : (0 < b) × (d ≡ suc b) × (b < suc (length ms))). let p = s.1 in let q = t.1 in absurd (omega (arith, p, q, e))) (λ (t : (b ≡ suc (length ms)) × (d ≡ 0)). s.0 ∙ sym t.0)) t))
        s

    news_distinct : (a b : ℕ) (z w : K) → At a z news → At b w news → z.session ≡ w.session → a ≡ b
    news_distinct a b z w e f is =
        let one = came a z e in
        let two = came b w f in
        one_came a b one.0 two.0 one.4 two.4 (r.distinct id one.0 two.0 olds one.1 two.1 at one.2 two.2 (one.3 ∙ (is ∙ sym two.3)))

    distinct_after : (j a b : ℕ) (v : List K) (z w : K) → At j v after → At a z v → At b w v → z.session ≡ w.session → a ≡ b
    distinct_after j a b v z w at_j at_a at_b e = ⊎_elim
        (λ (t : (j ≡ id) × (news ≡ v)). news_distinct a b z w (subst (λ (l : List K). At a z l) (sym t.1) at_a) (subst (λ (l : List K). At b w l) (sym t.1) at_b) e)
        (λ (t : (j ≢ id) × At j v s.views). r.distinct j a b v z w t.1 at_a at_b e)
        (at_set s.views id j news v at_j)

    of_olds : (q i : ℕ) (z : K) (a : ℕ) (u : ℕ × V) → q ≢ p → At i z olds → At a u z.held → u.0 ≡ q → ⊥
    of_olds q zero z a u ne at_i at_a is = first a (subst (λ (l : List (ℕ × V)). At a u l) alone (subst (λ (z : K). At a u z.held) (sym (some-injective k z at_i)) at_a))
      where
        first : (a : ℕ) → At a u ((p, x) ∷ []) → ⊥
        first zero e = ne (sym is ∙ sym (ap (λ (z : ℕ × V). z.0) (some-injective (p, x) u e)))
        first (suc a) e = some-ne-none u (sym e)
    of_olds q (suc i) z a u ne at_i at_a is = none_at z (idle i z at_i) a u at_a

    mine_after : HeldBySome R p after
    mine_after = (id, news, 0, taker, 0, (p, y), news_at, refl, refl, refl)

    others_after : (q : ℕ) → q ≢ p → HeldBySome R q s.views → HeldBySome R q after
    others_after q ne (j, v, i, z, a, u, at_j, at_i, at_a, same) = dite (ℕ_discrete j id)
        (λ e. absurd (of_olds q i z a u ne (subst (λ (l : List K). At i z l) (at_one s.views id v olds (subst (λ n. At n v s.views) e at_j) at) at_i) at_a same))
        (λ other. (j, v, i, z, a, u, set_else s.views id j news other ∙ at_j, at_i, at_a, same))

    -- of the seat no session holds another place
    none_news : (q i : ℕ) (z : K) (a : ℕ) (u : ℕ × V) → q ≢ p → At i z news → At a u z.held → u.0 ≡ q → ⊥
    none_news q zero z a u ne at_i at_a is = taken a (subst (λ (z : K). At a u z.held) (sym (some-injective taker z at_i)) at_a)
      where
        taken : (a : ℕ) → At a u taker.held → ⊥
        taken zero e = ne (sym is ∙ sym (ap (λ (z : ℕ × V). z.0) (some-injective (p, y) u e)))
        taken (suc a) e = none_at m next_none a u e
    none_news q (suc i) z a u ne at_i at_a is = ⊎_elim
        (λ (h : At i z ms). none_at z (idle (suc i) z h) a u at_a)
        (λ (h : (i ≡ length ms) × (giver ≡ z)). giver_none a u (subst (λ (z : K). At a u z.held) (sym h.1) at_a))
        (at_snoc_last ms giver z i at_i)

    others_before : (q : ℕ) → q ≢ p → HeldBySome R q after → HeldBySome R q s.views
    others_before q ne (j, v, i, z, a, u, at_j, at_i, at_a, same) = ⊎_elim
        (λ (t : (j ≡ id) × (news ≡ v)). absurd (none_news q i z a u ne (subst (λ (l : List K). At i z l) (sym t.1) at_i) at_a same))
        (λ (t : (j ≢ id) × At j v s.views). (j, v, i, z, a, u, t.1, at_i, at_a, same))
        (at_set s.views id j news v at_j)

    there_after : (q : ℕ) → q < opened.places → HasValue R progress_after notes_after s.homes q ⊎ HeldBySome R q after
    there_after q here = dite (ℕ_discrete q p)
        (λ e. inr (subst (λ z. HeldBySome R z after) (sym e) mine_after))
        (λ ne. ⊎_elim (λ (t : HasValue R r.progress r.notes s.homes q). inl (t.0, t.1, give_others q t.0 ne t.2)) (λ h. inr (others_after q ne h)) (r.there q here))

    of_news : (c i : ℕ) (z : K) → At i z olds → z.session ≡ c → KnownBySome c after
    of_news c zero z at_i is = let t = at_behind ms (giver ∷ []) 0 giver refl in (id, suc t.0, news, giver, news_at, t.1, ap (λ (z : K). z.session) (some-injective k z at_i) ∙ is)
    of_news c (suc zero) z at_i is = (id, 0, news, taker, news_at, refl, ap (λ (z : K). z.session) (some-injective m z at_i) ∙ is)
    of_news c (suc (suc i)) z at_i is = (id, suc i, news, z, news_at, at_longer ms (giver ∷ []) i z at_i, is)

    known_after : (c : ℕ) → KnownBySome c s.views → KnownBySome c after
    known_after c (j, i, v, z, at_j, at_i, is) = dite (ℕ_discrete j id)
        (λ e. of_news c i z (subst (λ (l : List K). At i z l) (at_one s.views id v olds (subst (λ n. At n v s.views) e at_j) at) at_i) is)
        (λ other. (j, i, v, z, set_else s.views id j news other ∙ at_j, at_i, is))

    -- the word of its line becomes n, by which the place is marked
    module _ (n : ℕ) (remarks : Remarks (bit_of opened.places p) (get_or s.words (line_word opened.places p) 0) n) (marks : bit_at n (bit_of opened.places p) ≡ 1) where
      abbrev words_after : List ℕ
      words_after = set s.words (line_word opened.places p) n

      reworded_here : Rewords opened.places p s.words words_after
      reworded_here = reworded opened.places p s.words n below (line_there R laws opened s r p below) remarks

      busy_after : (q : ℕ) → q < opened.places → IsMarked opened.places words_after q → HeldBySome R q after
      busy_after q here is = dite (ℕ_discrete q p)
          (λ e. subst (λ z. HeldBySome R z after) (sym e) mine_after)
          (λ ne. others_after q ne (r.busy q here (sym (reworded_here.others q here ne) ∙ is)))

      marked_after : (q : ℕ) → q < opened.places → HeldBySome R q after → IsMarked opened.places words_after q ⊎ (winner_at opened.places words_after q ≡ suc (holder_after q))
      marked_after q here h = dite (ℕ_discrete q p)
          (λ e. inl (subst (IsMarked opened.places words_after) (sym e) (ap (λ z. bit_at z (bit_of opened.places p)) (word_set R laws opened s r p n below) ∙ marks)))
          (λ ne. ⊎_elim (λ is. inl (reworded_here.others q here ne ∙ is)) (λ is. inr (reworded_here.winners q here ∙ (is ∙ ap suc (sym (holder_else q ne)))))
          (r.marked q here (others_before q ne h)))

      hands_over : LockInvariant R opened record { words = words_after; homes = s.homes; views = after }
      hands_over = record {
        progress = progress_after;
        notes = notes_after;
        run = run_after;
        leads = Takes (put_entry ∷ r.run) progress_after notes_after m.session p y m.note (Puts r.run r.notes move y r.leads among (may r.progress r.notes was.possible).1) (noted m.session m.note next_apart next.possible.1)
            (may r.progress r.notes was.possible).1;
        owner = r.owner;
        holder = holder_after;
        grown = laws.extends_on _ _ _ r.grown grows;
        placed = r.placed;
        accounts = give_accounts;
        counted = length-set r.notes k.session note_after ∙ r.counted;
        wide = length-set s.words (line_word opened.places p) n ∙ r.wide;
        tail = tail_else R laws opened s r p n below ∙ sym (laws.moves_completed move);
        gaps = r.gaps;
        there = there_after;
        busy = busy_after;
        marked = marked_after;
        each = each_after;
        distinct = distinct_after;
        all = λ c small. known_after c (r.all c small);
      }

  abbrev seat_of : List K → List (ℕ × Option V) → LockSeat P N V
  seat_of v c = (v, c)

  -- the sessions k and m, in state s, of which k puts the value y back to the place p, and m takes it
  module _ (s : LockState P N V) (r : LockInvariant R opened s) (id p : ℕ) (k m : K) (ms : List K) (at : At id (k ∷ m ∷ ms) s.views) (inside : p < opened.places) (y : V) (grown : P → P) (noting : N → N) (may : MayPut R grown noting k p y) (hand : MayHandOn R p k m ms) where
    moves : (progress : P) (notes : List N) → Possible R k progress notes → R.Moves p k.session hand.0 progress k.note (grown progress) (noting k.note) × R.AgreesWith p (grown progress) (set notes k.session (noting k.note)) y
    moves = subst (λ z. (progress : P) (notes : List N) → Possible R k progress notes → R.Moves p k.session z progress k.note (grown progress) (noting k.note) × R.AgreesWith p (grown progress) (set notes k.session (noting k.note)) y)
        (taken_as may.1 may.0 (subst (λ (l : List (ℕ × V)). At may.1 (p, may.0) l) hand.1 may.2)) may.3
      where
        taken_as : (b : ℕ) (z : V) → At {A = ℕ × V} b (p, z) ((p, hand.0) ∷ []) → z ≡ hand.0
        taken_as zero z e = sym (ap (λ (u : ℕ × V). u.1) (some-injective (p, hand.0) (p, z) e))
        taken_as (suc b) z e = absurd (some-ne-none (p, z) (sym e))

    abbrev word_here : ℕ
    word_here = get_or s.words (line_word opened.places p) 0

    abbrev out_here : List (ℕ × Option V)
    out_here = (slot_of p, Some y) ∷ []

    -- what the step does, where it makes n of the word
    abbrev Leaves : ℕ → (LockSeat P N V → Type 0) → Type 0
    Leaves n Told = (w : List K) × (a : Act (Option V)) × Valid s.homes out_here a
        × LockInvariant R opened (stepped s (line_word opened.places p) n id out_here w a) × Told (w, carried_after out_here a)

    told : (k2 m2 : K) (ms2 : List K) (p2 : ℕ) (y2 : V) → seat_of (k ∷ m ∷ ms) out_here ≡ seat_of (k2 ∷ m2 ∷ ms2) ((slot_of p2, Some y2) ∷ [])
        → StepsOn R grown noting k2 m2 ms2 p2 y2 (seat_of (news s r id p k m ms at inside hand.0 y hand.1 hand.2 grown noting moves hand.3) out_here)
    told k2 m2 ms2 p2 y2 sits = subst
        (λ (z : ℕ × K × K × List K × V). StepsOn R grown noting z.1 z.2 z.3 z.0 z.4 (seat_of (news s r id p k m ms at inside hand.0 y hand.1 hand.2 grown noting moves hand.3) out_here))
        (λ i. (same_place y y2 p p2 [] [] (ap (λ v. v.1) sits) i, ap (λ v. get_or v.0 0 k) sits i, ap (λ v. get_or (tail_of v.0) 0 m) sits i, ap (λ v. tail_of (tail_of v.0)) sits i, same_value y y2 p p2 [] [] (ap (λ v. v.1) sits) i)) (
          r.progress,
          (r.notes, (r.each id 0 (k ∷ m ∷ ms) k at refl).0.possible),
          (
            r.run,
            ((r.each id 0 (k ∷ m ∷ ms) k at refl).0.goes_on, (r.each id 0 (k ∷ m ∷ ms) k at refl).0.own),
            (continues_more m.run r.run _ (r.each id 1 (k ∷ m ∷ ms) m at refl).0.goes_on, next_own s r id p k m ms at inside hand.0 y hand.1 hand.2 grown noting moves hand.3),
            (notes_after s r id p k m ms at inside hand.0 y hand.1 hand.2 grown noting moves hand.3, taker_possible s r id p k m ms at inside hand.0 y hand.1 hand.2 grown noting moves hand.3),
            (
              laws.extends_on m.progress r.progress (grown r.progress) (r.each id 1 (k ∷ m ∷ ms) m at refl).0.possible.0.0 (grows s r id p k m ms at inside hand.0 y hand.1 hand.2 grown noting moves hand.3),
              λ a u e _. absurd (none_at m (hand.2 0 m refl) a u e),
            ),
            refl,
          ),
        )
      where
        tail_of : List K → List K
        tail_of [] = []
        tail_of (z ∷ zs) = zs

        same_value : (y z : V) (p q : ℕ) (c d : List (ℕ × Option V)) → ((slot_of p, Some y) ∷ c) ≡ ((slot_of q, Some z) ∷ d) → y ≡ z
        same_value y z p q c d e = same_Some y z (ap (λ (l : List (ℕ × Option V)). (get_or l 0 (slot_of p, Some y)).1) e)

        same_place : (y z : V) (p q : ℕ) (c d : List (ℕ × Option V)) → ((slot_of p, Some y) ∷ c) ≡ ((slot_of q, Some z) ∷ d) → p ≡ q
        same_place y z p q c d e = one_slot p q (ap (λ (l : List (ℕ × Option V)). (get_or l 0 (0, None)).0) e)

    hands_by : (n : ℕ) → Remarks (bit_of opened.places p) word_here n → bit_at n (bit_of opened.places p) ≡ 1
        → LockInvariant R opened (stepped s (line_word opened.places p) n id out_here (news s r id p k m ms at inside hand.0 y hand.1 hand.2 grown noting moves hand.3) keeps)
    hands_by n remarks marks = hands_over s r id p k m ms at inside hand.0 y hand.1 hand.2 grown noting moves hand.3 n remarks marks

    -- where nobody has won the line, the place is marked, for it is held
    is_marked : word_here < 256 → bit_at word_here (bit_of opened.places p) ≡ 1
    is_marked low = ⊎_elim (λ is. is) (λ is. absurd (omega (arith, is, low)))
        (r.marked p inside (id, k ∷ m ∷ ms, 0, k, 0, (p, hand.0), at, refl, ap (λ (l : List (ℕ × V)). get_elem? l 0) hand.1, refl))

    hands_marked_in : Leaves word_here (λ after. handed_marked R grown noting (step 0 0 0 0 kernel.none) (seat_of (k ∷ m ∷ ms) out_here) word_here after)
    hands_marked_in = ⊎_elim
        (λ (low : word_here < 256). (
          news s r id p k m ms at inside hand.0 y hand.1 hand.2 grown noting moves hand.3,
          keeps,
          tt,
          hands_by word_here (looked (bit_of opened.places p) word_here) (is_marked low),
          λ k2 m2 ms2 p2 y2 sits. ((λ high. absurd (omega (arith, low, high))), (λ _. told k2 m2 ms2 p2 y2 sits)),
        ))
        (λ high. (
          k ∷ m ∷ ms,
          keeps,
          tt,
          unmoved R laws opened s r id (line_word opened.places p) (k ∷ m ∷ ms) out_here at,
          λ k2 m2 ms2 p2 y2 sits. ((λ _. refl), (λ low. absurd (omega (arith, low, high)))),
        ))
        (cases_lt word_here 256)

    hands_in : Leaves (bit_or word_here (2 ^ bit_of opened.places p)) (λ after. handed_on R grown noting (step 0 0 0 0 kernel.none) (seat_of (k ∷ m ∷ ms) out_here) word_here after)
    hands_in =
        let b = bit_of opened.places p in
        let few = bit_below opened.places p in
        (news s r id p k m ms at inside hand.0 y hand.1 hand.2 grown noting moves hand.3, keeps, tt, hands_by (bit_or word_here (2 ^ b)) (set_remarks word_here b few) (set_bit word_here b few), told)

  -- the value y of the place p is handed on, where its place is marked
  pub hands_marked : (slots places id p word : ℕ) (m0 : LockSeat P N V) (k m : K) (ms : List K) (y : V) (grown : P → P) (noting : N → N) → slots ≡ slot_of places → p < places → word ≡ line_word places p → m0 ≡ (k ∷ m ∷ ms, (slot_of p, Some y) ∷ [])
      → MayPut R grown noting k p y → MayHandOn R p k m ms → Allows (LockInvariant R opened) slots id m0 word (λ n. n) (handed_marked R grown noting (step slots word 0 0 kernel.none) m0)
  hands_marked slots places id p word m0 k m ms y grown noting wide few is sits may hand s r long at _ =
      let same = all_places R laws opened s r slots places wide long in
      let here = word_is R laws opened s r slots places p word wide long is in
      subst (λ (z : ℕ × LockSeat P N V). (w : List K) × (a : Act (Option V)) × Valid s.homes z.1.1 a × LockInvariant R opened (stepped s z.0 (get_or s.words z.0 0) id z.1.1 w a)
      × handed_marked R grown noting (step slots word 0 0 kernel.none) z.1 (get_or s.words z.0 0) (w, carried_after z.1.1 a)) (λ i. (sym here i, sym sits i))
      (hands_marked_in s r id p k m ms (subst (λ (z : LockSeat P N V). At id z.0 s.views) sits at) (subst (λ z. p < z) same few) y grown noting may hand)

  -- and where it is marked by the same step
  pub hands : (slots places id p word mark : ℕ) (m0 : LockSeat P N V) (k m : K) (ms : List K) (y : V) (grown : P → P) (noting : N → N) → slots ≡ slot_of places → p < places → word ≡ line_word places p → mark ≡ 2 ^ bit_of places p → m0 ≡ (k ∷ m ∷ ms, (slot_of p, Some y) ∷ [])
      → MayPut R grown noting k p y → MayHandOn R p k m ms → Allows (LockInvariant R opened) slots id m0 word (λ n. bit_or n mark) (handed_on R grown noting (step slots word mark 0 kernel.none) m0)
  hands slots places id p word mark m0 k m ms y grown noting wide few is mark_is sits may hand s r long at _ =
      let same = all_places R laws opened s r slots places wide long in
      let here = word_is R laws opened s r slots places p word wide long is in
      let mark_here = mark_is ∙ ap (λ z. 2 ^ bit_of z p) same in
      subst (λ (z : ℕ × ℕ × LockSeat P N V). (w : List K) × (a : Act (Option V)) × Valid s.homes z.2.1 a × LockInvariant R opened (stepped s z.0 (bit_or (get_or s.words z.0 0) z.1) id z.2.1 w a)
      × handed_on R grown noting (step slots word mark 0 kernel.none) z.2 (get_or s.words z.0 0) (w, carried_after z.2.1 a)) (λ i. (sym here i, sym mark_here i, sym sits i))
      (hands_in s r id p k m ms (subst (λ (z : LockSeat P N V). At id z.0 s.views) sits at) (subst (λ z. p < z) same few) y grown noting may hand)
