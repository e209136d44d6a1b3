-- A try keeps the invariant, and what it tells.
use Rattle.std.proofs.Common.{◌≡◌, ◌≢◌, ℕ, zero, suc, ◌+◌, ◌^◌, ◌<◌, ◌⊎◌, eqb, List, [], ◌∷◌, map, get_or, set, sym, refl, ap, ◌∙◌, ⊎_elim, inl, inr, subst, arith, length-set, eq-eqb, ne_eqb, Option, Some, None}
use Rattle.std.specs.Int.{bit_at}
use mathlib.Core.Logic.{dite}
use native.Mathlib.Decide.{ℕ_discrete}
use mathlib.Core.Option as kernel
use mathlib.Core.Option.{some-injective, some-ne-none}
use lib.ListN.{get_elem?}
use Rattle.std.specs.Option.{unwrap_or}
use prog.Atomic.{either}
use Rattle.atomic_table.specs.Table.{Me, Act, keeps, takes, step, stepped, Allows, Valid, carried_after, rest}
use Rattle.atomic_table.proofs.Lists.{set_here, set_else, exchanged}
use Rattle.ownlock.specs.declared.known.Known.{Known}
use Rattle.ownlock.specs.declared.known.SharedStep.{SharedStep}
use Rattle.ownlock.specs.declared.known.ShelfStep.TheVariants.{Took}
use Rattle.ownlock.specs.Rules.{Rules, Laws}
use Rattle.ownlock.specs.Words.{IsFree, bit_of, line_word, slot_of, winner_in, won_by}
use Rattle.ownlock.specs.Runs.{Takes}
use Rattle.ownlock.specs.Seats.{At, Opened, own_steps, place_of, holding, taken_by}
use Rattle.ownlock.specs.Knowledge.{HeldAgree, Possible, Acquired, MayTake}
use Rattle.ownlock.specs.Invariant.{emptied, SessionInvariant, HasValue, HeldBySome, LockInvariant, StepsAs, StepsOut, tried, tried_won}
use Rattle.ownlock.proofs.Spread.{one_slot}
use Rattle.ownlock.proofs.Run.{continues_self, continues_more, own_here, own_else}
use Rattle.ownlock.proofs.Keeps.{LockState, LockSeat, one_session, Goes, all_places, goes, held_own, line_there, mine_of, tail_else, slot_there, unmoved, word_is, word_set}
use Rattle.ownlock.proofs.Marks.{Remarks, bit_below, free_bit, looked, reworded, sum_bit, sum_remarks, won_bit, won_winner}

module _ {P N V : Type 0} (R : Rules P N V) (laws : Laws R) (opened : Opened P N) where
  abbrev K : Type 0
  K = Known P N V

  module _ (s : LockState P N V) (r : LockInvariant R opened s) (id p : ℕ) (k : K) (at : At id (k ∷ []) s.views) (below : p < opened.places) (may : MayTake R p k)
      (x : V) (home : At (slot_of p) (kernel.some (Some x)) s.homes) (agrees : R.AgreesWith p r.progress r.notes x) where
    abbrev entry : SharedStep P N V
    entry = taken_by k (Took p x) r.progress k.note

    abbrev taker : K
    taker = holding k r.progress p x (entry ∷ r.run)

    abbrev now_holds : ℕ → ℕ
    now_holds q = either (eqb q p) k.session (r.holder q)

    holds_else : (q : ℕ) → q ≢ p → now_holds q ≡ r.holder q
    holds_else q ne = ap (λ b. either b k.session (r.holder q)) (ne_eqb q p ne)

    not_out : get_elem? s.homes (slot_of p) ≡ kernel.some kernel.none → ⊥
    not_out e = some-ne-none (Some x) (some-injective _ _ (sym home ∙ e))

    take_agrees : HeldAgree R r.progress r.notes taker.held
    take_agrees zero u e = subst (λ (z : ℕ × V). R.AgreesWith z.0 r.progress r.notes z.1) (some-injective (p, x) u e) agrees
    take_agrees (suc a) u e = (mine_of R laws opened s r id k at).possible.3 a u e

    take_apart : (a b : ℕ) (u w : ℕ × V) → At a u taker.held → At b w taker.held → u.0 ≡ w.0 → a ≡ b
    take_apart zero zero u w e f is = refl
    take_apart zero (suc b) u w e f is = absurd (may.0 b w f (sym is ∙ sym (ap (λ (z : ℕ × V). z.0) (some-injective (p, x) u e))))
    take_apart (suc a) zero u w e f is = absurd (may.0 a u e (is ∙ sym (ap (λ (z : ℕ × V). z.0) (some-injective (p, x) w f))))
    take_apart (suc a) (suc b) u w e f is = ap suc ((mine_of R laws opened s r id k at).apart a b u w e f is)

    take_out : (a : ℕ) (u : ℕ × V) → At a u taker.held → (now_holds u.0 ≡ k.session) × At (slot_of u.0) kernel.none (set s.homes (slot_of p) kernel.none)
    take_out zero u e = subst (λ q. (now_holds q ≡ k.session) × At (slot_of q) kernel.none (set s.homes (slot_of p) kernel.none)) (ap (λ (z : ℕ × V). z.0) (some-injective (p, x) u e))
        (ap (λ b. either b k.session (r.holder p)) (eq-eqb p p refl), set_here s.homes (slot_of p) kernel.none (slot_there R laws opened s r p below))
    take_out (suc a) u e = let ne = may.0 a u e in let was = (mine_of R laws opened s r id k at).out a u e in (holds_else u.0 ne ∙ was.0, set_else s.homes (slot_of p) (slot_of u.0) kernel.none (λ f. ne (one_slot u.0 p f)) ∙ was.1)

    after_take : Possible R taker r.progress r.notes
    after_take = ((laws.extends_self r.progress, λ a u _ _. laws.same_self r.progress), (mine_of R laws opened s r id k at).possible.1, r.accounts, take_agrees)

    now_took : own_steps k.session (entry ∷ r.run) ≡ Took p x ∷ k.steps
    now_took = own_here k.session entry r.run refl ∙ ap (λ es. Took p x ∷ es) (mine_of R laws opened s r id k at).own

    own_holder : now_holds p ≡ k.session
    own_holder = ap (λ b. either b k.session (r.holder p)) (eq-eqb p p refl)

    taker_held : (a : ℕ) (u : ℕ × V) → At a u taker.held → u.0 ≢ p → (b : ℕ) × At b u k.held
    taker_held zero u e ne = absurd (ne (sym (ap (λ (z : ℕ × V). z.0) (some-injective (p, x) u e))))
    taker_held (suc a) u e ne = (a, e)

    take_fits : SessionInvariant R r.progress r.notes (entry ∷ r.run) (set s.homes (slot_of p) kernel.none) now_holds taker
    take_fits = record { possible = after_take; allowed = laws.allows_on k.progress r.progress k.session (map place_of taker.held) (mine_of R laws opened s r id k at).possible.0.0 may.1; apart = take_apart; out = take_out; goes_on = continues_self (entry ∷ r.run); own = now_took; ends = record { seen = now_took; last = inr (r.run, entry, refl, refl, refl, refl) } }

    abbrev at_line : ℕ
    at_line = line_word opened.places p

    -- the word of its line becomes n, by which the place is marked, or its session has won the line
    takes_it : (n : ℕ) → Remarks (bit_of opened.places p) (get_or s.words at_line 0) n
        → (bit_at n (bit_of opened.places p) ≡ 1) ⊎ (winner_in n ≡ suc k.session)
        → Goes R laws opened s r id p k taker r.progress r.notes (set s.words at_line n)
        (set s.homes (slot_of p) kernel.none) now_holds (entry ∷ r.run)
    takes_it n remarks claimed = record {
      here = at;
      session = refl;
      goes_on = continues_more r.run r.run entry (continues_self r.run);
      by = λ c ne. own_else c entry r.run (λ same. ne (sym same));
      leads = Takes r.run r.progress r.notes k.session p x k.note r.leads (mine_of R laws opened s r id k at).possible.1 agrees;
      accounts = r.accounts;
      extends = laws.extends_self r.progress;
      same = λ _. laws.same_self r.progress;
      others = λ q y _ h. h;
      noted = λ i n _ h. h;
      counted = r.counted;
      homes_else = λ i ne. set_else s.homes (slot_of p) i kernel.none ne;
      homes_long = length-set s.homes (slot_of p) kernel.none;
      words_else = reworded opened.places p s.words n below (line_there R laws opened s r p below) remarks;
      tail_here = tail_else R laws opened s r p n below;
      words_long = length-set s.words at_line n;
      holder_else = holds_else;
      not_theirs = λ j i v m a u other at_j at_i at_a e. not_out (subst (λ z. At (slot_of z) kernel.none s.homes) e ((r.each j i v m at_j at_i).0.out a u at_a).1);
      mine = take_fits;
      there_here = λ _. inr (0, (p, x), refl, refl);
      busy_here = λ _ _. (0, (p, x), refl, refl);
      marked_here = λ _ _. ⊎_elim
          (λ is. inl (ap (λ z. bit_at z (bit_of opened.places p)) (word_set R laws opened s r p n below) ∙ is))
          (λ is. inr (ap winner_in (word_set R laws opened s r p n below) ∙ (is ∙ ap suc (sym own_holder)))) claimed;
      held_else = λ a u e _. (suc a, e);
      held_back = taker_held;
    }

    takes_stand : (n : ℕ) → Remarks (bit_of opened.places p) (get_or s.words at_line 0) n
        → (bit_at n (bit_of opened.places p) ≡ 1) ⊎ (winner_in n ≡ suc k.session)
        → LockInvariant R opened (stepped s at_line n id (map emptied k.held) (taker ∷ []) (takes (slot_of p) (Some x)))
    takes_stand n remarks claimed =
        goes R laws opened s r id p k taker r.progress r.notes (set s.words at_line n)
        (set s.homes (slot_of p) kernel.none) now_holds (entry ∷ r.run) (takes_it n remarks claimed)

    -- what the session has then
    acquired : Acquired R p k taker x
    acquired = (
      r.progress,
      refl,
      (mine_of R laws opened s r id k at).possible.0,
      (r.notes, after_take),
      (r.run, ((mine_of R laws opened s r id k at).goes_on, (mine_of R laws opened s r id k at).own), refl),
    )

  abbrev me : K → List (ℕ × Option V) → LockSeat P N V
  me k c = (k ∷ [], c)

  -- the session k, in state s, may take the place p
  module _ (s : LockState P N V) (r : LockInvariant R opened s) (id p : ℕ) (k : K) (at : At id (k ∷ []) s.views)
      (inside : p < opened.places) (may : MayTake R p k) where
    abbrev at_word : ℕ
    at_word = line_word opened.places p

    -- what the step does, where it makes n of the word
    abbrev Leaves : ℕ → (LockSeat P N V → Type 0) → Type 0
    Leaves n Told = (w : List K) × (a : Act (Option V)) × Valid s.homes (map emptied k.held) a
        × LockInvariant R opened (stepped s at_word n id (map emptied k.held) w a)
        × Told (w, carried_after (map emptied k.held) a)

    -- a place that is neither marked nor won by the session is there
    home : (HeldBySome R p s.views → ⊥) → HasValue R r.progress r.notes s.homes p
    home nobody = ⊎_elim (λ h. h) (λ h. absurd (nobody h)) (r.there p inside)

    takes_in : (n : ℕ) → Remarks (bit_of opened.places p) (get_or s.words at_word 0) n
        → (bit_at n (bit_of opened.places p) ≡ 1) ⊎ (winner_in n ≡ suc k.session)
        → (HeldBySome R p s.views → ⊥) → Leaves n (λ after. StepsOut R p k (me k (map emptied k.held)) after)
    takes_in n remarks claimed nobody =
        let t = home nobody in (
          taker s r id p k at inside may t.0 t.1 t.2 ∷ [],
          takes (slot_of p) (Some t.0),
          t.1,
          takes_stand s r id p k at inside may t.0 t.1 t.2 n remarks claimed,
          (taker s r id p k at inside may t.0 t.1 t.2, t.0, acquired s r id p k at inside may t.0 t.1 t.2, refl),
        )

    -- a place whose word says that it is free is held by nobody
    free_nobody : IsFree (get_or s.words at_word 0) (2 ^ bit_of opened.places p) → HeldBySome R p s.views → ⊥
    free_nobody free h =
        let none = free_bit (get_or s.words at_word 0) (bit_of opened.places p) free in
        let low = free.1 in
        ⊎_elim (λ is. absurd (omega (arith, is, none))) (λ is. absurd (omega (arith, is, low))) (r.marked p inside h)

    -- and so is one, by a word that the session has won, that the session doesn't hold
    won_nobody : get_or s.words at_word 0 ≡ won_by k.session → HeldBySome R p s.views → ⊥
    won_nobody is h = ⊎_elim
        (λ marked. let none = ap (λ z. bit_at z (bit_of opened.places p)) is
        ∙ won_bit k.session (bit_of opened.places p) (bit_below opened.places p) in absurd
        (omega (arith, marked, none)))
        (λ winner.
        let number = ap winner_in is ∙ won_winner k.session in
        let mine = held_own R laws opened s r id p k at h (omega (arith, winner, number)) in
        may.0 mine.0 mine.1 mine.2 mine.3)
        (r.marked p inside h)

    tries_in : (old new : ℕ) → new ≡ old + 2 ^ bit_of opened.places p → IsFree old (2 ^ bit_of opened.places p)
        → Leaves (either (eqb (get_or s.words at_word 0) old) new (get_or s.words at_word 0))
        (λ after. tried R p (step 0 0 old new kernel.none) (me k (map emptied k.held)) (get_or s.words at_word 0)
        after)
    tries_in old new sum free =
        exchanged (get_or s.words at_word 0) old new
        (λ n. Leaves n
        (λ after. tried R p (step 0 0 old new kernel.none) (me k (map emptied k.held)) (get_or s.words at_word 0)
        after))
        (λ hit.
        let b = bit_of opened.places p in
        let few = bit_below opened.places p in
        let here = subst (λ z. IsFree z (2 ^ b)) (sym hit) free in
        let marks =
        subst (λ (z : ℕ × ℕ). Remarks b z.0 z.1) (λ i. (sym hit i, sym sum i)) (sum_remarks old b few free) in
        let t = takes_in new marks (inl (ap (λ z. bit_at z b) sum ∙ sum_bit old b few free)) (free_nobody here) in (
          t.0,
          t.1,
          t.2,
          t.3,
          λ k2 sits. (
            (λ ne. absurd (ne hit)),
            (λ _. subst
                (λ z. StepsOut R p z (me k (map emptied k.held)) (t.0, carried_after (map emptied k.held) t.1))
                (one_session (me k (map emptied k.held)) k k2 refl sits) t.4),
          ),
        ))
        (λ miss. (
          k ∷ [],
          keeps,
          tt,
          unmoved R laws opened s r id at_word (k ∷ []) (map emptied k.held) at,
          λ k2 sits.
              ((λ _. refl), (λ hit. absurd (miss hit))),
        ))

    looks_in : Leaves (get_or s.words at_word 0)
        (λ after. tried_won R p (step 0 0 0 0 kernel.none) (me k (map emptied k.held)) (get_or s.words at_word 0) after)
    looks_in = dite (ℕ_discrete (get_or s.words at_word 0) (won_by k.session))
        (λ hit.
        let t = takes_in (get_or s.words at_word 0) (looked (bit_of opened.places p) (get_or s.words at_word 0))
        (inr (ap winner_in hit ∙ won_winner k.session)) (won_nobody hit) in (
          t.0,
          t.1,
          t.2,
          t.3,
          λ k2 sits. (
            (λ ne. absurd
                (ne (hit ∙ ap (λ (z : K). won_by z.session) (one_session (me k (map emptied k.held)) k k2 refl sits)))),
            (λ _. subst (λ z. StepsOut R p z (me k (map emptied k.held)) (t.0, carried_after (map emptied k.held) t.1))
                (one_session (me k (map emptied k.held)) k k2 refl sits) t.4),
          ),
        ))
        (λ miss. (
          k ∷ [],
          keeps,
          tt,
          unmoved R laws opened s r id at_word (k ∷ []) (map emptied k.held) at,
          λ k2 sits. (
            (λ _. refl),
            (λ hit. absurd
                (miss (hit
                ∙ sym (ap (λ (z : K). won_by z.session)
                (one_session (me k (map emptied k.held)) k k2 refl sits))))),
          ),
        ))

  -- a try at the place p, by this word, by which it is free
  pub tries : (slots places id p word old new mark : ℕ) (m : LockSeat P N V) (k : K) → slots ≡ slot_of places
      → p < places → word ≡ line_word places p → mark ≡ 2 ^ bit_of places p → new ≡ old + mark → IsFree old mark
      → StepsAs m k → MayTake R p k
      → Allows (LockInvariant R opened) slots id m word (λ n. either (eqb n old) new n)
      (tried R p (step slots word old new kernel.none) m)
  tries slots places id p word old new mark m k wide few is mark_is sum free sits may s r long at _ =
      let same = all_places R laws opened s r slots places wide long in
      let here = word_is R laws opened s r slots places p word wide long is in
      let mark_here = mark_is ∙ ap (λ z. 2 ^ bit_of z p) same in
      subst (λ (z : ℕ × LockSeat P N V). (w : List K) × (a : Act (Option V)) × Valid s.homes z.1.1 a
      × LockInvariant R opened
      (stepped s z.0 (either (eqb (get_or s.words z.0 0) old) new (get_or s.words z.0 0)) id z.1.1 w a)
      × tried R p (step slots word old new kernel.none) z.1 (get_or s.words z.0 0) (w, carried_after z.1.1 a))
      (λ i. (sym here i, sym sits i))
      (tries_in s r id p k (subst (λ (z : LockSeat P N V). At id z.0 s.views) sits at) (subst (λ z. p < z) same few)
      may old new (sum ∙ ap (λ z. old + z) mark_here) (subst (λ z. IsFree old z) mark_here free))

  -- a look at the place p, whose line its session may have won
  pub looks : (slots places id p word : ℕ) (m : LockSeat P N V) (k : K) → slots ≡ slot_of places → p < places
      → word ≡ line_word places p → StepsAs m k → MayTake R p k
      → Allows (LockInvariant R opened) slots id m word (λ n. n) (tried_won R p (step slots word 0 0 kernel.none) m)
  looks slots places id p word m k wide few is sits may s r long at _ =
      let same = all_places R laws opened s r slots places wide long in
      let here = word_is R laws opened s r slots places p word wide long is in
      subst (λ (z : ℕ × LockSeat P N V). (w : List K) × (a : Act (Option V)) × Valid s.homes z.1.1 a
      × LockInvariant R opened (stepped s z.0 (get_or s.words z.0 0) id z.1.1 w a)
      × tried_won R p (step slots word 0 0 kernel.none) z.1 (get_or s.words z.0 0) (w, carried_after z.1.1 a))
      (λ i. (sym here i, sym sits i))
      (looks_in s r id p k (subst (λ (z : LockSeat P N V). At id z.0 s.views) sits at) (subst (λ z. p < z) same few)
      may)

module _ {P N V : Type 0} (R : Rules P N V) where
  -- what the seat has, once the value is out of its slot
  pub taken_out : (m m1 m2 : Me (Option V) (List (Known P N V))) (k w : Known P N V) (p slot : ℕ) (x v : V) (found : Option V) → slot ≡ slot_of p → StepsAs m k → Acquired R p k w x → m1 ≡ (w ∷ [], (slot_of p, Some x) ∷ m.1) → m1.1 ≡ (slot, found) ∷ rest m1.1 → m2 ≡ (m1.0, (slot, None) ∷ rest m1.1) → found ≡ Some v
      → (after : Known P N V) × Acquired R p k after v × StepsAs m2 after
  taken_out m m1 m2 k w p slot x v found place sits won is1 top is2 out =
      let same : x ≡ v = ap (λ (l : List (ℕ × Option V)). unwrap_or (get_or l 0 (slot, found)).1 x) (sym (ap (λ (z : Me (Option V) (List (Known P N V))). z.1) is1) ∙ top) ∙ ap (λ o. unwrap_or o x) out in
      let held : map emptied w.held ≡ (slot_of p, None) ∷ m.1 = ap (λ (z : Known P N V). map emptied z.held) won.1 ∙ ap (λ (z : Me (Option V) (List (Known P N V))). (slot_of p, None) ∷ z.1) (sym sits) in
      let view : m1.0 ≡ w ∷ [] = ap (λ (z : Me (Option V) (List (Known P N V))). z.0) is1 in
      let left : (slot_of p, None) ∷ rest m1.1 ≡ map emptied w.held = ap (λ (z : Me (Option V) (List (Known P N V))). (slot_of p, None) ∷ rest z.1) is1 ∙ sym held in
      let out_of_place : m2 ≡ (m1.0, (slot_of p, None) ∷ rest m1.1) = is2 ∙ ap (λ q. (m1.0, (q, None) ∷ rest m1.1)) place in
      (w, subst (λ z. Acquired R p k w z) same won, out_of_place ∙ (λ i. (view i, left i)))

  -- the slot of the place is the first of those that are out
  pub slot_out : (m m1 : Me (Option V) (List (Known P N V))) (w : Known P N V) (p slot : ℕ) (x : V) → slot ≡ slot_of p → m1 ≡ (w ∷ [], (slot_of p, Some x) ∷ m.1) → m1.1 ≡ (slot, Some x) ∷ rest m1.1
  slot_out m m1 w p slot x place is = ap (λ z. z.1) is ∙ (ap (λ q. (q, Some x) ∷ m.1) (sym place) ∙ ap (λ (z : Me (Option V) (List (Known P N V))). (slot, Some x) ∷ rest z.1) (sym is))

  -- what was in the slot is what the try found
  pub was_there : (m m1 : Me (Option V) (List (Known P N V))) (w : Known P N V) (p slot : ℕ) (x : V) (found : Option V) → m1 ≡ (w ∷ [], (slot_of p, Some x) ∷ m.1) → m1.1 ≡ (slot, found) ∷ rest m1.1 → found ≡ Some x
  was_there m m1 w p slot x found is top = ap (λ (l : List (ℕ × Option V)). (get_or l 0 (slot, found)).1) (sym top ∙ ap (λ (z : Me (Option V) (List (Known P N V))). z.1) is)
