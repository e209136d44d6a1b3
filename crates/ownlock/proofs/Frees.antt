-- A put keeps the invariant: first the look that brings its slot to the front, then the step that leaves the place.
use Rattle.std.proofs.Common.{◌≡◌, ◌≢◌, ℕ, ◌-◌, ◌^◌, ◌<◌, zero, suc, List, [], ◌∷◌, map, get_or, set, sym, refl, ap, ◌∙◌, inl, inr, subst, arith, length-set, Option, Some, None, bit_and, eqb}
use Rattle.std.specs.Int.{bit_at}
use mathlib.Core.Logic.{dite}
use native.Mathlib.Decide.{ℕ_discrete}
use mathlib.Core.Option as kernel
use mathlib.Core.Option.{some-injective}
use prog.Atomic.{either}
use Rattle.std.proofs.lemmas.Nat.Bits.{bit_at-zero}
use lib.ListN.{get_elem?}
use lib.Seq.{set-get_or}
use Rattle.std.proofs.lemmas.Option.{same_Some}
use Rattle.atomic_table.specs.Table.{Act, Me, gives, keeps, step, stepped, Allows, Valid, carried_after, homes_after, rest}
use Rattle.atomic_table.proofs.Lists.{set_here, set_else, set_again, exchanged}
use Rattle.ownlock.specs.declared.known.Known.{Known}
use Rattle.ownlock.specs.declared.known.SharedStep.{SharedStep}
use Rattle.ownlock.specs.declared.known.ShelfStep.TheVariants.{Took, Put}
use Rattle.ownlock.specs.Rules.{Rules, Laws, Move, IsAmong}
use Rattle.ownlock.specs.Words.{bit_of, line_word, slot_of, won_by}
use Rattle.ownlock.specs.Runs.{Puts, Takes}
use Rattle.ownlock.specs.Seats.{At, Opened, Run, OthersStepped, own_steps, place_of, without, left_with, settled_with, taken_by, TookLast}
use Rattle.ownlock.specs.Knowledge.{HeldAgree, Possible, MayPut}
use Rattle.ownlock.specs.Invariant.{emptied, SessionInvariant, LockInvariant, StepsAs, StepsLeft, fronted, freed, freed_alone, freed_won, settled}
use Rattle.ownlock.proofs.Spread.{one_slot}
use Rattle.ownlock.proofs.Run.{continues_self, continues_more, own_here, own_else}
use Rattle.ownlock.proofs.Keeps.{LockState, LockSeat, SlotHomes, one_session, Goes, all_places, goes, line_there, mine_of, not_of_others, tail_else, slot_there, unmoved, word_is, word_set}
use Rattle.ownlock.proofs.Marks.{Remarks, alone_remarks, bit_below, clear_bit, clear_remarks, looked, reworded, won_bit}
use Rattle.ownlock.proofs.Without.{was_held, without_same, still_held, not_held, apart_without, part_of}
use Rattle.ownlock.proofs.Fronts.{bring, brings, at_below}

module _ {P N V : Type 0} (R : Rules P N V) (laws : Laws R) (opened : Opened P N) where
  abbrev K : Type 0
  K = Known P N V

  abbrev me : K → List (ℕ × Option V) → LockSeat P N V
  me k c = (k ∷ [], c)

  module _ (s : LockState P N V) (r : LockInvariant R opened s) (id p : ℕ) (k : K) (at : At id (k ∷ []) s.views) (below : p < opened.places)
      (x y : V) (a : ℕ) (top : At a (p, x) k.held) (grown : P → P) (noting : N → N)
      (may : (progress : P) (notes : List N) → Possible R k progress notes → R.Moves p k.session x progress k.note (grown progress) (noting k.note) × R.AgreesWith p (grown progress) (set notes k.session (noting k.note)) y) where
    abbrev progress_after : P
    progress_after = grown r.progress

    abbrev note_after : N
    note_after = noting k.note

    abbrev notes_after : List N
    notes_after = set r.notes k.session note_after

    abbrev entry : SharedStep P N V
    entry = taken_by k (Put p y) progress_after note_after

    abbrev giver : K
    giver = left_with k p y progress_after note_after (entry ∷ r.run)

    was : SessionInvariant R r.progress r.notes r.run s.homes r.holder k
    was = mine_of R laws opened s r id k at

    abbrev move : Move R
    move = record { place = p; session = k.session; value = x; progress = r.progress; new_progress = progress_after; note = k.note; new_note = note_after; allowed = (may r.progress r.notes was.possible).0 }

    among : IsAmong move r.notes
    among = record { accounts = r.accounts; own = was.possible.1; agrees = was.possible.3 a (p, x) top }

    other : (b : ℕ) (u : ℕ × V) → At b u giver.held → u.0 ≢ p
    other = not_held p k.held was.apart

    give_others : (q : ℕ) (z : V) → q ≢ p → R.AgreesWith q r.progress r.notes z → R.AgreesWith q progress_after notes_after z
    give_others = laws.moves_others move r.notes among

    give_accounts : R.Accounts progress_after notes_after
    give_accounts = laws.moves_account move r.notes among

    give_extends : R.Extends k.progress progress_after
    give_extends = laws.extends_on k.progress r.progress progress_after was.possible.0.0 (laws.moves_extend move)

    give_allowed : R.Allows progress_after k.session (map place_of giver.held)
    give_allowed = laws.allows_on k.progress progress_after k.session (map place_of giver.held) give_extends
        (laws.allows_part k.progress k.session (map place_of giver.held) (map place_of k.held) (part_of p k.held) was.allowed)

    abbrev homes_given : SlotHomes V
    homes_given = set s.homes (slot_of p) (kernel.some (Some y))

    give_fits : SessionInvariant R progress_after notes_after (entry ∷ r.run) homes_given r.holder giver
    give_fits = record {
      possible = (
        (laws.extends_self progress_after, λ a u _ _. laws.same_self progress_after),
        set_here r.notes k.session note_after (at_below r.notes k.session k.note was.possible.1),
        give_accounts,
        λ b u e. let back = was_held p k.held b u e in give_others u.0 u.1 (other b u e) (was.possible.3 back.0 u back.1),
      );
      allowed = give_allowed;
      apart = apart_without p k.held was.apart;
      out = λ b u e. let back = was_held p k.held b u e in let h = was.out back.0 u back.1 in (h.0, set_else s.homes (slot_of p) (slot_of u.0) (kernel.some (Some y)) (λ f. other b u e (one_slot u.0 p f)) ∙ h.1);
      goes_on = continues_self (entry ∷ r.run);
      own = own_here k.session entry r.run refl ∙ ap (λ es. Put p y ∷ es) was.own;
      ends = record { seen = own_here k.session entry r.run refl ∙ ap (λ es. Put p y ∷ es) was.own; last = inr (r.run, entry, refl, refl, refl, refl) };
    }

    -- the word of its line becomes n, in which the place has no mark
    gives_it : (n : ℕ) → Remarks (bit_of opened.places p) (get_or s.words (line_word opened.places p) 0) n
        → bit_at n (bit_of opened.places p) ≡ 0
        → Goes R laws opened s r id p k giver progress_after notes_after (set s.words (line_word opened.places p) n)
        homes_given r.holder (entry ∷ r.run)
    gives_it n remarks none = record {
      here = at;
      session = refl;
      goes_on = continues_more r.run r.run entry (continues_self r.run);
      by = λ c ne. own_else c entry r.run (λ same. ne (sym same));
      leads = Puts r.run r.notes move y r.leads among (may r.progress r.notes was.possible).1;
      accounts = give_accounts;
      extends = laws.moves_extend move;
      same = laws.moves_same move;
      others = give_others;
      noted = λ i n ne h. set_else r.notes k.session i note_after ne ∙ h;
      counted = length-set r.notes k.session note_after ∙ r.counted;
      homes_else = λ i ne. set_else s.homes (slot_of p) i (kernel.some (Some y)) ne;
      homes_long = length-set s.homes (slot_of p) (kernel.some (Some y));
      words_else = reworded opened.places p s.words n below (line_there R laws opened s r p below) remarks;
      tail_here = tail_else R laws opened s r p n below ∙ sym (laws.moves_completed move);
      words_long = length-set s.words (line_word opened.places p) n;
      holder_else = λ q _. refl;
      not_theirs = not_of_others R laws opened s r id p k at (was.out a (p, x) top).0;
      mine = give_fits;
      there_here = λ _. inl (y, set_here s.homes (slot_of p) (kernel.some (Some y)) (slot_there R laws opened s r p below), (may r.progress r.notes was.possible).1);
      busy_here = λ _ is. let here = sym (ap (λ z. bit_at z (bit_of opened.places p)) (word_set R laws opened s r p n below)) ∙ is in absurd (omega (arith, here, none));
      marked_here = λ _ mine. absurd (other mine.0 mine.1 mine.2 mine.3);
      held_else = still_held p k.held;
      held_back = λ b u e _. was_held p k.held b u e;
    }

    gives_stand : (n : ℕ) → Remarks (bit_of opened.places p) (get_or s.words (line_word opened.places p) 0) n
        → bit_at n (bit_of opened.places p) ≡ 0 → (c : List (ℕ × Option V))
        → LockInvariant R opened
        (stepped s (line_word opened.places p) n id ((slot_of p, Some y) ∷ c) (giver ∷ []) gives)
    gives_stand n remarks none c = goes R laws opened s r id p k giver progress_after notes_after (set s.words (line_word opened.places p) n) homes_given r.holder (entry ∷ r.run) (gives_it n remarks none)

    -- the same, but the place is taken again at once
    abbrev again : K
    again = settled_with k p y progress_after note_after r.run

    abbrev entry_again : SharedStep P N V
    entry_again = taken_by giver (Took p y) progress_after note_after

    abbrev run_again : Run P N V
    run_again = entry_again ∷ entry ∷ r.run

    again_own : own_steps k.session run_again ≡ Took p y ∷ Put p y ∷ k.steps
    again_own = own_here k.session entry_again (entry ∷ r.run) refl ∙ ap (λ es. Took p y ∷ es) (own_here k.session entry r.run refl ∙ ap (λ es. Put p y ∷ es) was.own)

    again_agrees : HeldAgree R progress_after notes_after again.held
    again_agrees zero u e = subst (λ (z : ℕ × V). R.AgreesWith z.0 progress_after notes_after z.1) (some-injective (p, y) u e) (may r.progress r.notes was.possible).1
    again_agrees (suc b) u e = let back = was_held p k.held b u e in give_others u.0 u.1 (other b u e) (was.possible.3 back.0 u back.1)

    again_possible : Possible R again progress_after notes_after
    again_possible = (
      (laws.extends_self progress_after, λ a u _ _. laws.same_self progress_after),
      set_here r.notes k.session note_after (at_below r.notes k.session k.note was.possible.1),
      give_accounts,
      again_agrees,
    )

    again_apart : (b c : ℕ) (u w : ℕ × V) → At b u again.held → At c w again.held → u.0 ≡ w.0 → b ≡ c
    again_apart zero zero u w e f is = refl
    again_apart zero (suc c) u w e f is = absurd (other c w f (sym is ∙ sym (ap (λ (z : ℕ × V). z.0) (some-injective (p, y) u e))))
    again_apart (suc b) zero u w e f is = absurd (other b u e (is ∙ sym (ap (λ (z : ℕ × V). z.0) (some-injective (p, y) w f))))
    again_apart (suc b) (suc c) u w e f is = ap suc (apart_without p k.held was.apart b c u w e f is)

    again_out : (b : ℕ) (u : ℕ × V) → At b u again.held → (r.holder u.0 ≡ k.session) × At (slot_of u.0) kernel.none s.homes
    again_out zero u e = subst (λ q. (r.holder q ≡ k.session) × At (slot_of q) kernel.none s.homes) (ap (λ (z : ℕ × V). z.0) (some-injective (p, y) u e)) (was.out a (p, x) top)
    again_out (suc b) u e = let back = was_held p k.held b u e in was.out back.0 u back.1

    again_back : (b : ℕ) (u : ℕ × V) → At b u again.held → u.0 ≢ p → (c : ℕ) × At c u k.held
    again_back zero u e ne = absurd (ne (sym (ap (λ (z : ℕ × V). z.0) (some-injective (p, y) u e))))
    again_back (suc b) u e ne = was_held p k.held b u e

    module _ (us : List (ℕ × V)) (first : k.held ≡ (p, x) ∷ us) where
      again_places : map place_of again.held ≡ map place_of k.held
      again_places = ap (λ l. p ∷ map place_of l) (ap (without p) first ∙ without_same p (p, x) us refl) ∙ sym (ap (map place_of) first)

      again_fits : SessionInvariant R progress_after notes_after run_again s.homes r.holder again
      again_fits = record {
        possible = again_possible;
        allowed = laws.allows_on k.progress progress_after k.session (map place_of again.held) give_extends (subst (λ l. R.Allows k.progress k.session l) (sym again_places) was.allowed);
        apart = again_apart;
        out = again_out;
        goes_on = continues_self run_again;
        own = again_own;
        ends = record { seen = again_own; last = inr (entry ∷ r.run, entry_again, refl, refl, refl, refl) };
      }

      settles_it : Goes R laws opened s r id p k again progress_after notes_after s.words s.homes r.holder run_again
      settles_it = record {
        here = at;
        session = refl;
        goes_on = continues_more r.run (entry ∷ r.run) entry_again (continues_more r.run r.run entry (continues_self r.run));
        by = λ c ne. own_else c entry_again (entry ∷ r.run) (λ same. ne (sym same)) ∙ own_else c entry r.run (λ same. ne (sym same));
        leads = Takes (entry ∷ r.run) progress_after notes_after k.session p y note_after (Puts r.run r.notes move y r.leads among (may r.progress r.notes was.possible).1) again_possible.1
            (may r.progress r.notes was.possible).1;
        accounts = give_accounts;
        extends = laws.moves_extend move;
        same = laws.moves_same move;
        others = give_others;
        noted = λ i n ne h. set_else r.notes k.session i note_after ne ∙ h;
        counted = length-set r.notes k.session note_after ∙ r.counted;
        homes_else = λ i ne. refl;
        homes_long = refl;
        words_else = record { others = λ q _ _. refl; winners = λ q _. refl };
        tail_here = r.tail ∙ sym (laws.moves_completed move);
        words_long = refl;
        holder_else = λ q _. refl;
        not_theirs = not_of_others R laws opened s r id p k at (was.out a (p, x) top).0;
        mine = again_fits;
        there_here = λ _. inr (0, (p, y), refl, refl);
        busy_here = λ _ _. (0, (p, y), refl, refl);
        marked_here = λ low _. r.marked p low (id, k ∷ [], 0, k, a, (p, x), at, refl, top, refl);
        held_else = λ b u e ne. let t = still_held p k.held b u e ne in (suc t.0, t.1);
        held_back = again_back;
      }

      settles_stand : (word : ℕ) (c : List (ℕ × Option V))
          → LockInvariant R opened (stepped s word (get_or s.words word 0) id c (again ∷ []) keeps)
      settles_stand word c = subst (λ (l : List ℕ). LockInvariant R opened record { words = l; homes = s.homes; views = set s.views id (again ∷ []) }) (sym (set-get_or s.words word 0))
          (goes R laws opened s r id p k again progress_after notes_after s.words s.homes r.holder run_again settles_it)

  only_one : (k k2 : K) → (k ∷ []) ≡ (k2 ∷ []) → k ≡ k2
  only_one k k2 e = ap (λ l. get_or l 0 k) e

  -- the value in the first slot that is out
  one_out : (y z : V) (p q : ℕ) (c d : List (ℕ × Option V)) → ((slot_of p, Some y) ∷ c) ≡ ((slot_of q, Some z) ∷ d) → y ≡ z
  one_out y z p q c d e = same_Some y z (ap (λ (l : List (ℕ × Option V)). (get_or l 0 (slot_of p, Some y)).1) e)

  -- the place of the first slot that is out
  place_out : (y z : V) (p q : ℕ) (c d : List (ℕ × Option V)) → ((slot_of p, Some y) ∷ c) ≡ ((slot_of q, Some z) ∷ d)
      → p ≡ q
  place_out y z p q c d e = one_slot p q (ap (λ (l : List (ℕ × Option V)). (get_or l 0 (0, None)).0) e)

  -- the session k, in state s, puts the value y back to the place p, of which it had taken x
  module _ (s : LockState P N V) (r : LockInvariant R opened s) (id p : ℕ) (k : K) (at : At id (k ∷ []) s.views) (inside : p < opened.places) (y : V) (c : List (ℕ × Option V)) (grown : P → P) (noting : N → N) (m : MayPut R grown noting k p y) where
    abbrev left : K
    left = giver s r id p k at inside m.0 y m.1 m.2 grown noting m.3

    -- what the step does, where it makes n of the word
    abbrev Leaves : ℕ → (LockSeat P N V → Type 0) → Type 0
    Leaves n Told = (w : List K) × (a : Act (Option V)) × Valid s.homes ((slot_of p, Some y) ∷ c) a
        × LockInvariant R opened (stepped s (line_word opened.places p) n id ((slot_of p, Some y) ∷ c) w a)
        × Told (w, carried_after ((slot_of p, Some y) ∷ c) a)

    told : (k2 : K) (p2 : ℕ) (y2 : V) (c2 : List (ℕ × Option V)) → me k ((slot_of p, Some y) ∷ c) ≡ me k2 ((slot_of p2, Some y2) ∷ c2) → StepsLeft R grown noting k2 p2 y2 c2 (me left c)
    told k2 p2 y2 c2 sits = subst
        (λ (z : ℕ × K × V × List (ℕ × Option V)). StepsLeft R grown noting z.1 z.0 z.2 z.3 (me left c))
        (λ i. (
          place_out y y2 p p2 c c2 (ap (λ m. m.1) sits) i,
          only_one k k2 (ap (λ m. m.0) sits) i,
          one_out y y2 p p2
              c c2 (ap (λ m. m.1) sits) i,
          ap (λ m. rest m.1) sits i,
        ))
        (r.progress, (r.notes, (mine_of R laws opened s r id k at).possible), (entry s r id p k at inside m.0 y m.1 m.2 grown noting m.3 ∷ r.run, (r.run, ((mine_of R laws opened s r id k at).goes_on, (mine_of R laws opened s r id k at).own), refl), refl))

    frees_in : get_or s.words (line_word opened.places p) 0 < 18446744073709551616 → Leaves (bit_and (get_or s.words (line_word opened.places p) 0) (18446744073709551615 - 2 ^ bit_of opened.places p)) (λ after. freed R grown noting (step 0 0 0 0 kernel.none) (me k ((slot_of p, Some y) ∷ c)) 0 after)
    frees_in low =
        let b = bit_of opened.places p in
        let few = bit_below opened.places p in
        let n : ℕ = get_or s.words (line_word opened.places p) 0 in (
          left ∷ [],
          gives,
          tt,
          gives_stand s r id p k at inside m.0 y m.1 m.2 grown noting m.3 (bit_and n (18446744073709551615 - 2 ^ b))
              (clear_remarks n b few low) (clear_bit n b few) c,
          told,
        )

    frees_alone_in : (mark : ℕ) → mark ≡ 2 ^ bit_of opened.places p
        → Leaves
        (either (eqb (get_or s.words (line_word opened.places p) 0) mark) 0
        (get_or s.words (line_word opened.places p) 0))
        (λ after. freed_alone R grown noting (step 0 0 mark 0 kernel.none) (me k ((slot_of p, Some y) ∷ c))
        (get_or s.words (line_word opened.places p) 0) after)
    frees_alone_in mark is =
        exchanged (get_or s.words (line_word opened.places p) 0) mark 0
        (λ n. Leaves n (λ after. freed_alone R grown noting (step 0 0 mark 0 kernel.none)
        (me k ((slot_of p, Some y) ∷ c)) (get_or s.words (line_word opened.places p) 0) after))
        (λ hit.
        let b = bit_of opened.places p in
        let few = bit_below opened.places p in
        let marks = subst (λ z. Remarks b z 0) (sym (hit ∙ is)) (alone_remarks b few) in (
          left ∷ [],
          gives,
          tt,
          gives_stand s r id p k at inside m.0 y m.1 m.2 grown noting m.3 0 marks (bit_at-zero b) c,
          λ k2 p2 y2 c2 sits. ((λ ne. absurd (ne hit)), (λ _. told k2 p2 y2 c2 sits)),
        ))
        (λ miss. (
          k ∷ [],
          keeps,
          tt,
          unmoved R laws opened s r id (line_word opened.places p) (k ∷ []) ((slot_of p, Some y) ∷ c) at,
          λ k2 p2 y2 c2 sits. ((λ _. refl), (λ hit. absurd (miss hit))),
        ))

    frees_won_in : Leaves (get_or s.words (line_word opened.places p) 0) (λ after. freed_won R grown noting (step 0 0 0 0 kernel.none) (me k ((slot_of p, Some y) ∷ c)) (get_or s.words (line_word opened.places p) 0) after)
    frees_won_in = dite (ℕ_discrete (get_or s.words (line_word opened.places p) 0) (won_by k.session))
        (λ hit.
        let b = bit_of opened.places p in
        let none = ap (λ z. bit_at z b) hit ∙ won_bit k.session b (bit_below opened.places p) in (
          left ∷ [],
          gives,
          tt,
          gives_stand s r id p k at inside m.0 y m.1 m.2 grown noting m.3 (get_or s.words (line_word opened.places p) 0) (looked b (get_or s.words (line_word opened.places p) 0)) none c,
          λ k2 p2 y2 c2 sits. ((λ ne. absurd (ne (hit ∙ ap (λ (z : K). won_by z.session) (only_one k k2 (ap (λ m. m.0) sits))))), (λ _. told k2 p2 y2 c2 sits)),
        ))
        (λ miss. (
          k ∷ [],
          keeps,
          tt,
          unmoved R laws opened s r id (line_word opened.places p) (k ∷ []) ((slot_of p, Some y) ∷ c) at,
          λ k2 p2 y2 c2 sits. ((λ _. refl), (λ hit. absurd (miss (hit ∙ ap (λ (z : K). won_by z.session) (sym (only_one k k2 (ap (λ m. m.0) sits))))))),
        ))

  -- the mark of the place p is taken away, and the value y is at home
  pub frees : (slots places id p word mask : ℕ) (m : LockSeat P N V) (k : K) (y : V) (c : List (ℕ × Option V)) (grown : P → P) (noting : N → N) → slots ≡ slot_of places → p < places → word ≡ line_word places p → mask ≡ 18446744073709551615 - 2 ^ bit_of places p
      → m ≡ (k ∷ [], (slot_of p, Some y) ∷ c) → MayPut R grown noting k p y → Allows (LockInvariant R opened) slots id m word (λ n. bit_and n mask) (freed R grown noting (step slots word mask 0 kernel.none) m)
  frees slots places id p word mask m k y c grown noting wide few is mask_is sits may s r long at low =
      let same = all_places R laws opened s r slots places wide long in
      let here = word_is R laws opened s r slots places p word wide long is in
      let mask_here = mask_is ∙ ap (λ z. 18446744073709551615 - 2 ^ bit_of z p) same in
      subst (λ (z : ℕ × ℕ × LockSeat P N V). (w : List K) × (a : Act (Option V)) × Valid s.homes z.2.1 a
      × LockInvariant R opened (stepped s z.0 (bit_and (get_or s.words z.0 0) z.1) id z.2.1 w a)
      × freed R grown noting (step slots word mask 0 kernel.none) z.2 (get_or s.words z.0 0)
      (w, carried_after z.2.1 a)) (λ i. (sym here i, sym mask_here i, sym sits i))
      (frees_in s r id p k (subst (λ (z : LockSeat P N V). At id z.0 s.views) sits at) (subst (λ z. p < z) same few) y
      c grown noting may (subst (λ z. get_or s.words z 0 < 18446744073709551616) here low))

  -- the same, where its mark is all that the word has
  pub frees_alone : (slots places id p word mark : ℕ) (m : LockSeat P N V) (k : K) (y : V) (c : List (ℕ × Option V))
      (grown : P → P) (noting : N → N) → slots ≡ slot_of places → p < places → word ≡ line_word places p
      → mark ≡ 2 ^ bit_of places p → m ≡ (k ∷ [], (slot_of p, Some y) ∷ c) → MayPut R grown noting k p y
      → Allows (LockInvariant R opened) slots id m word (λ n. either (eqb n mark) 0 n)
      (freed_alone R grown noting (step slots word mark 0 kernel.none) m)
  frees_alone slots places id p word mark m k y c grown noting wide few is mark_is sits may s r long at _ =
      let same = all_places R laws opened s r slots places wide long in
      let here = word_is R laws opened s r slots places p word wide long is in
      subst (λ (z : ℕ × LockSeat P N V). (w : List K) × (a : Act (Option V)) × Valid s.homes z.1.1 a
      × LockInvariant R opened
      (stepped s z.0 (either (eqb (get_or s.words z.0 0) mark) 0 (get_or s.words z.0 0)) id z.1.1 w a)
      × freed_alone R grown noting (step slots word mark 0 kernel.none) z.1 (get_or s.words z.0 0)
      (w, carried_after z.1.1 a)) (λ i. (sym here i, sym sits i))
      (frees_alone_in s r id p k (subst (λ (z : LockSeat P N V). At id z.0 s.views) sits at)
      (subst (λ z. p < z) same few) y c grown noting may mark (mark_is ∙ ap (λ z. 2 ^ bit_of z p) same))

  -- a look where the session has won the line
  pub frees_won : (slots places id p word : ℕ) (m : LockSeat P N V) (k : K) (y : V) (c : List (ℕ × Option V))
      (grown : P → P) (noting : N → N) → slots ≡ slot_of places → p < places → word ≡ line_word places p
      → m ≡ (k ∷ [], (slot_of p, Some y) ∷ c) → MayPut R grown noting k p y → Allows (LockInvariant R opened) slots id m word (λ n. n) (freed_won R grown noting (step slots word 0 0 kernel.none) m)
  frees_won slots places id p word m k y c grown noting wide few is sits may s r long at low =
      let same = all_places R laws opened s r slots places wide long in
      let here = word_is R laws opened s r slots places p word wide long is in
      subst (λ (z : ℕ × LockSeat P N V). (w : List K) × (a : Act (Option V)) × Valid s.homes z.1.1 a
      × LockInvariant R opened (stepped s z.0 (get_or s.words z.0 0) id z.1.1 w a)
      × freed_won R grown noting (step slots word 0 0 kernel.none) z.1 (get_or s.words z.0 0)
      (w, carried_after z.1.1 a)) (λ i. (sym here i, sym sits i))
      (frees_won_in s r id p k (subst (λ (z : LockSeat P N V). At id z.0 s.views) sits at)
      (subst (λ z. p < z) same few) y c grown noting may)

  settles_at : (slots places id p word : ℕ) (k : K) (y : V) (c : List (ℕ × Option V)) (grown : P → P) (noting : N → N)
      → slots ≡ slot_of places → p < places → MayPut R grown noting k p y → TookLast p k
      → Allows (LockInvariant R opened) slots id (me k ((slot_of p, Some y) ∷ c)) word (λ n. n)
      (settled R grown noting (step slots word 0 0 kernel.none) (me k ((slot_of p, Some y) ∷ c)))
  settles_at slots places id p word k y c grown noting wide few may (x, us, first) s r long at _ = (
    again s r id p k at inside x y 0 top grown noting moves ∷ [],
    keeps,
    tt,
    settles_stand s r id p k at inside x y 0 top grown noting moves us first word ((slot_of p, Some y) ∷ c),
    λ k2 p2 y2 c2 sits. subst
        (λ (z : ℕ × K × V × List (ℕ × Option V)). (progress : P) × ((notes : List N) × Possible R z.1 progress notes) × ((run : Run P N V) × OthersStepped z.1 run
        × ((notes : List N) × Possible R (settled_with z.1 z.0 z.2 (grown progress) (noting z.1.note) run) (grown progress) notes)
        × (me (settled_with k p y (grown r.progress) (noting k.note) r.run) ((slot_of p, Some y) ∷ c) ≡ me (settled_with z.1 z.0 z.2 (grown progress) (noting z.1.note) run) ((slot_of z.0, Some z.2) ∷ z.3))))
        (λ i. (
          place_out y y2 p p2 c c2 (ap (λ m. m.1) sits) i,
          only_one k k2 (ap (λ m. m.0) sits) i,
          one_out y y2 p p2
              c c2 (ap (λ m. m.1) sits) i,
          ap (λ m. rest m.1) sits i,
        )) (
          r.progress,
          (r.notes, (mine_of R laws opened s r id k at).possible),
          (
            r.run,
            ((mine_of R laws opened s r id k at).goes_on, (mine_of R laws opened s r id k at).own),
            (notes_after s r id p k at inside x y 0 top grown noting moves, again_possible s r id p k at inside x y 0 top grown noting moves),
            refl,
          ),
        ),
  )
    where
      inside : p < opened.places
      inside = subst (λ z. p < z) (all_places R laws opened s r slots places wide long) few

      top : At 0 (p, x) k.held
      top = ap (λ (l : List (ℕ × V)). get_elem? l 0) first

      taken_as : (b : ℕ) (z : V) → At b (p, z) k.held → z ≡ x
      taken_as b z e = let apart = (mine_of R laws opened s r id k at).apart b 0 (p, z) (p, x) e top refl in
          ap (λ (u : ℕ × V). u.1) (some-injective (p, z) (p, x) (sym (subst (λ i. At i (p, z) k.held) apart e) ∙ top))

      moves : (progress : P) (notes : List N) → Possible R k progress notes → R.Moves p k.session x progress k.note (grown progress) (noting k.note) × R.AgreesWith p (grown progress) (set notes k.session (noting k.note)) y
      moves = subst (λ z. (progress : P) (notes : List N) → Possible R k progress notes → R.Moves p k.session z progress k.note (grown progress) (noting k.note) × R.AgreesWith p (grown progress) (set notes k.session (noting k.note)) y)
          (taken_as may.1 may.0 may.2) may.3

  -- the value y of the place p, which was taken last, is put back and taken again
  pub settles : (slots places id p word : ℕ) (m : LockSeat P N V) (k : K) (y : V) (c : List (ℕ × Option V))
      (grown : P → P) (noting : N → N) → slots ≡ slot_of places → p < places → m ≡ (k ∷ [], (slot_of p, Some y) ∷ c)
      → MayPut R grown noting k p y → TookLast p k → Allows (LockInvariant R opened) slots id m word (λ n. n) (settled R grown noting (step slots word 0 0 kernel.none) m)
  settles slots places id p word m k y c grown noting wide few is may last =
      subst (λ (z : LockSeat P N V). Allows (LockInvariant R opened) slots id z word (λ n. n) (settled R grown noting (step slots word 0 0 kernel.none) z)) (sym is) (settles_at slots places id p word k y c grown noting wide few may last)

  -- a look at any word brings the slot of a held place to the front
  fronts_at : (slots id p word : ℕ) (k : K) (x : V) (a : ℕ) → At a (p, x) k.held
      → Allows (LockInvariant R opened) slots id (k ∷ [], map emptied k.held) word (λ n. n)
      (fronted R p (step slots word 0 0 kernel.none) (k ∷ [], map emptied k.held))
  fronts_at slots id p word k x a top s r long at _ = (
    k ∷ [],
    bring p k.held,
    moved.0,
    subst (λ (z : List ℕ × SlotHomes V × List (List K)). LockInvariant R opened record { words = z.0; homes = z.1; views = z.2 })
        (λ i. (sym (set-get_or s.words word 0) i, sym moved.1 i, sym (set_again s.views id (k ∷ []) at) i)) r,
    λ k2 sits. subst (λ (z : K). me k (carried_after (map emptied k.held) (bring p k.held)) ≡ me z ((slot_of p, None) ∷ map emptied (without p z.held)))
        (one_session (k ∷ [], map emptied k.held) k k2 refl sits) (λ i. (k ∷ [], moved.2 i)),
  )
    where
      fit : SessionInvariant R r.progress r.notes r.run s.homes r.holder k
      fit = mine_of R laws opened s r id k at

      moved : Valid s.homes (map emptied k.held) (bring p k.held) × (homes_after s.homes (map emptied k.held) (bring p k.held) ≡ s.homes) × (carried_after (map emptied k.held) (bring p k.held) ≡ (slot_of p, None) ∷ map emptied (without p k.held))
      moved = brings p k.held a x top fit.apart s.homes (λ b u e. (fit.out b u e).1)

  pub fronts : (slots id p word : ℕ) (m : LockSeat P N V) (k : K) (x : V) (a : ℕ) → StepsAs m k → At a (p, x) k.held
      → Allows (LockInvariant R opened) slots id m word (λ n. n) (fronted R p (step slots word 0 0 kernel.none) m)
  fronts slots id p word m k x a sits top =
      subst (λ (z : LockSeat P N V). Allows (LockInvariant R opened) slots id z word (λ n. n)
      (fronted R p (step slots word 0 0 kernel.none) z)) (sym sits) (fronts_at slots id p word k x a top)

module _ {P N V : Type 0} where
  -- the slot of the place is the first of those that are out, and it is empty
  pub put_out : (m : Me (Option V) (List (Known P N V))) (k : Known P N V) (p slot : ℕ) → slot ≡ slot_of p → m ≡ (k ∷ [], (slot_of p, None) ∷ map emptied (without p k.held)) → m.1 ≡ (slot, None) ∷ rest m.1
  put_out m k p slot is left = ap (λ v. v.1) left ∙ (ap (λ q. (q, None) ∷ map emptied (without p k.held)) (sym is) ∙ ap (λ v. (slot, None) ∷ rest v.1) (sym left))

  pub none_left : (m : Me (Option V) (List (Known P N V))) (k : Known P N V) (p slot : ℕ) (found : Option V) → m ≡ (k ∷ [], (slot_of p, None) ∷ map emptied (without p k.held)) → m.1 ≡ (slot, found) ∷ rest m.1 → found ≡ None
  none_left m k p slot found left is = ap (λ (l : List (ℕ × Option V)). (get_or l 0 (slot, found)).1) (sym is ∙ ap (λ v. v.1) left)

  -- what the seat has, once the value is in its slot
  pub put_in : (m n : Me (Option V) (List (Known P N V))) (k : Known P N V) (p slot : ℕ) (y : V) → slot ≡ slot_of p → m ≡ (k ∷ [], (slot_of p, None) ∷ map emptied (without p k.held)) → n ≡ (m.0, (slot, Some y) ∷ rest m.1)
      → n ≡ (k ∷ [], (slot_of p, Some y) ∷ map emptied (without p k.held))
  put_in m n k p slot y is left done = done ∙ (ap (λ q. (m.0, (q, Some y) ∷ rest m.1)) is ∙ ap (λ v. (v.0, (slot_of p, Some y) ∷ rest v.1)) left)

  -- what the seat has, once the value is out of its slot again
  pub taken_again : (m1 m2 : Me (Option V) (List (Known P N V))) (w : Known P N V) (p slot : ℕ) (y : V) (c : List (ℕ × Option V)) (found : Option V) → slot ≡ slot_of p → m1 ≡ (w ∷ [], (slot_of p, Some y) ∷ c) → map emptied w.held ≡ (slot_of p, None) ∷ c
      → m1.1 ≡ (slot, found) ∷ rest m1.1 → m2 ≡ (m1.0, (slot, None) ∷ rest m1.1) → (found ≡ Some y) × StepsAs m2 w
  taken_again m1 m2 w p slot y c found place is held top done = (
    sym (ap (λ (l : List (ℕ × Option V)). (get_or l 0 (slot, found)).1) (sym (ap (λ (z : Me (Option V) (List (Known P N V))). z.1) is) ∙ top)),
    done ∙ (ap (λ q. (m1.0, (q, None) ∷ rest m1.1)) place ∙ (ap (λ (v : Me (Option V) (List (Known P N V))). (v.0, (slot_of p, None) ∷ rest v.1)) is ∙ ap (λ l. (w ∷ [], l)) (sym held))),
  )

  -- the slot of the place is the first of those that are out, and has the value
  pub full_out : (m1 : Me (Option V) (List (Known P N V))) (w : Known P N V) (p slot : ℕ) (y : V) (c : List (ℕ × Option V)) → slot ≡ slot_of p → m1 ≡ (w ∷ [], (slot_of p, Some y) ∷ c) → m1.1 ≡ (slot, Some y) ∷ rest m1.1
  full_out m1 w p slot y c place is = ap (λ z. z.1) is ∙ (ap (λ q. (q, Some y) ∷ c) (sym place) ∙ ap (λ (z : Me (Option V) (List (Known P N V))). (slot, Some y) ∷ rest z.1) (sym is))
