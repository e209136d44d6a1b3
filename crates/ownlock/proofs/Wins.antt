-- A line that is won, or let go: nothing changes but its word.
use Rattle.std.proofs.Common.{◌≡◌, ◌≢◌, ℕ, suc, ◌<◌, ◌⊎◌, eqb, List, [], ◌∷◌, get_or, set, sym, refl, ap, ◌∙◌, subst, ⊎_elim, inl, inr, arith, length-set, get_or-set_other, Option}
use Rattle.std.specs.Int.{bit_at}
use mathlib.Core.Logic.{dite}
use mathlib.Core.Option as kernel
use mathlib.Core.Option.{some-ne-none}
use native.Mathlib.Decide.{ℕ_discrete}
use prog.Atomic.{either}
use Rattle.atomic_table.specs.Table.{Act, Allows, Valid, carried_after, keeps, step, stepped}
use Rattle.atomic_table.proofs.Lists.{exchanged, set_again}
use Rattle.ownlock.specs.declared.known.Known.{Known}
use Rattle.ownlock.specs.Rules.{Rules, Laws}
use Rattle.ownlock.specs.Words.{IsMarked, bit_of, line_of, line_word, slot_of, winner_at, winner_in, won_by, word_of}
use Rattle.ownlock.specs.Seats.{At, Opened}
use Rattle.ownlock.specs.Invariant.{HeldBySome, LockInvariant, StepsAs, kept}
use Rattle.std.proofs.lemmas.Nat.Bits.{bit_at-zero}
use Rattle.ownlock.proofs.Keeps.{LockState, LockSeat, all_places, held_own, tail_else, unmoved, word_is, word_set}
use Rattle.ownlock.proofs.Marks.{bit_below, won_bit, won_winner}

module _ {P N V : Type 0} (R : Rules P N V) (laws : Laws R) (opened : Opened P N) where
  abbrev K : Type 0
  K = Known P N V

  -- the word of a line goes from one at which no place of it is held to one by which none is marked
  module _ (s : LockState P N V) (r : LockInvariant R opened s) (id p : ℕ) (v : List K) (at : At id v s.views)
      (inside : p < opened.places)
      (n : ℕ) (unmarked : (b : ℕ) → b < 3 → bit_at n b ≡ 0)
      (nobody : (q : ℕ) → q < opened.places → line_of opened.places q ≡ line_of opened.places p
      → HeldBySome R q s.views → ⊥) where
    abbrev words : List ℕ
    words = set s.words (line_word opened.places p) n

    here : (q : ℕ) → line_of opened.places q ≡ line_of opened.places p → get_or words (line_word opened.places q) 0 ≡ n
    here q e = ap (λ z. get_or words (word_of z) 0) e ∙ word_set R laws opened s r p n inside

    elsewhere : (q : ℕ) → line_of opened.places q ≢ line_of opened.places p
        → get_or words (line_word opened.places q) 0 ≡ get_or s.words (line_word opened.places q) 0
    elsewhere q ne =
        get_or-set_other s.words (line_word opened.places p) (line_word opened.places q) n 0
        (λ e. ne (omega (arith, e)))

    busy : (q : ℕ) → q < opened.places → IsMarked opened.places words q → HeldBySome R q s.views
    busy q small is = dite (ℕ_discrete (line_of opened.places q) (line_of opened.places p))
        (λ e. let mark = sym (ap (λ z. bit_at z (bit_of opened.places q)) (here q e))
        ∙ is in let none =
        unmarked (bit_of opened.places q) (bit_below opened.places q) in absurd (omega (arith, mark, none)))
        (λ ne. r.busy q small (sym (ap (λ z. bit_at z (bit_of opened.places q)) (elsewhere q ne)) ∙ is))

    marked : (q : ℕ) → q < opened.places → HeldBySome R q s.views
        → IsMarked opened.places words q ⊎ (winner_at opened.places words q ≡ suc (r.holder q))
    marked q small h = dite (ℕ_discrete (line_of opened.places q) (line_of opened.places p))
        (λ e. absurd (nobody q small e h))
        (λ ne. ⊎_elim (λ is. inl (ap (λ z. bit_at z (bit_of opened.places q)) (elsewhere q ne) ∙ is))
        (λ is. inr (ap winner_in (elsewhere q ne) ∙ is)) (r.marked q small h))

    pub stays : (c : List (ℕ × Option V))
        → LockInvariant R opened (stepped s (line_word opened.places p) n id c v keeps)
    stays c =
        subst (λ (z : List (List K)). LockInvariant R opened record { words = words; homes = s.homes; views = z })
        (sym (set_again s.views id v at)) (record {
          progress = r.progress;
          notes = r.notes;
          run = r.run;
          leads = r.leads;
          grown = r.grown;
          placed = r.placed;
          owner = r.owner;
          holder = r.holder;
          accounts = r.accounts;
          counted = r.counted;
          wide = length-set s.words (line_word opened.places p) n ∙ r.wide;
          tail = tail_else R laws opened s r p n inside;
          gaps = r.gaps;
          there = r.there;
          busy = busy;
          marked = marked;
          each = r.each;
          distinct = r.distinct;
          all = r.all;
        })

  -- what a step that keeps all does
  abbrev Stays : (s : LockState P N V) (id word n : ℕ) (m : LockSeat P N V) → Type 0
  Stays s id word n m = (w : List K) × (a : Act (Option V)) × Valid s.homes m.1 a
      × LockInvariant R opened (stepped s word n id m.1 w a) × ((w, carried_after m.1 a) ≡ m)

  -- a line by whose word nothing is held is won
  pub wins : (slots places id p word session won : ℕ) (m : LockSeat P N V) → slots ≡ slot_of places → p < places
      → word ≡ line_word places p → won ≡ won_by session
      → Allows (LockInvariant R opened) slots id m word (λ n. either (eqb n 0) won n)
      (kept R (step slots word 0 won kernel.none) m)
  wins slots places id p word session won m wide few is won_is s r long at _ =
      let same = all_places R laws opened s r slots places wide long in
      let here = word_is R laws opened s r slots places p word wide long is in
      let inside = subst (λ z. p < z) same few in
      subst (λ z. Stays s id z (either (eqb (get_or s.words z 0) 0) won (get_or s.words z 0)) m) (sym here)
      (exchanged (get_or s.words (line_word opened.places p) 0) 0 won (λ n. Stays s id (line_word opened.places p) n m)
      (λ hit. (
        m.0,
        keeps,
        tt,
        stays s r id p m.0 at inside won (λ b small. ap (λ z. bit_at z b) won_is ∙ won_bit session b small)
            (λ q small e h. none_held s r p hit q small e h) m.1,
        refl,
      ))
      (λ miss. (m.0, keeps, tt, unmoved R laws opened s r id (line_word opened.places p) m.0 m.1 at, refl)))
    where
      none_held : (s : LockState P N V) (r : LockInvariant R opened s) (p : ℕ)
          → get_or s.words (line_word opened.places p) 0 ≡ 0 → (q : ℕ) → q < opened.places
          → line_of opened.places q ≡ line_of opened.places p → HeldBySome R q s.views → ⊥
      none_held s r p hit q small e h =
          let zero_here = ap (λ z. get_or s.words (word_of z) 0) e ∙ hit in
          ⊎_elim
          (λ is. let no = sym (ap (λ z. bit_at z (bit_of opened.places q)) zero_here)
          ∙ is in let none = won_none (bit_of opened.places q) in absurd (omega (arith, no, none)))
          (λ is. let no = sym (ap winner_in zero_here) ∙ is in absurd (omega (arith, no))) (r.marked q small h)
        where
          won_none : (b : ℕ) → bit_at 0 b ≡ 0
          won_none b = bit_at-zero b

  -- a line that the session has won, and where it holds nothing, is let go
  pub goes_free : (slots places id p word won : ℕ) (m : LockSeat P N V) (k : K) → slots ≡ slot_of places → p < places
      → word ≡ line_word places p → won ≡ won_by k.session → StepsAs m k → k.held ≡ []
      → Allows (LockInvariant R opened) slots id m word (λ n. either (eqb n won) 0 n)
      (kept R (step slots word won 0 kernel.none) m)
  goes_free slots places id p word won m k wide few is won_is sits none s r long at _ =
      let same = all_places R laws opened s r slots places wide long in
      let here = word_is R laws opened s r slots places p word wide long is in
      let inside = subst (λ z. p < z) same few in
      let mine = subst (λ (z : LockSeat P N V). At id z.0 s.views) sits at in
      subst (λ z. Stays s id z (either (eqb (get_or s.words z 0) won) 0 (get_or s.words z 0)) m) (sym here)
      (exchanged (get_or s.words (line_word opened.places p) 0) won 0 (λ n. Stays s id (line_word opened.places p) n m)
      (λ hit. (
        m.0,
        keeps,
        tt,
        stays s r id p m.0 at inside 0 (λ b small. bit_at-zero b)
            (λ q small e h. not_mine s r mine (hit ∙ won_is) q small e h) m.1,
        refl,
      ))
      (λ miss. (m.0, keeps, tt, unmoved R laws opened s r id (line_word opened.places p) m.0 m.1 at, refl)))
    where
      not_mine : (s : LockState P N V) (r : LockInvariant R opened s) → At id (k ∷ []) s.views
          → get_or s.words (line_word opened.places p) 0 ≡ won_by k.session → (q : ℕ) → q < opened.places
          → line_of opened.places q ≡ line_of opened.places p → HeldBySome R q s.views → ⊥
      not_mine s r mine hit q small e h =
          let won_here = ap (λ z. get_or s.words (word_of z) 0) e ∙ hit in
          ⊎_elim
          (λ is. let mark = sym (ap (λ z. bit_at z (bit_of opened.places q)) won_here)
          ∙ is in let no =
          won_bit k.session (bit_of opened.places q) (bit_below opened.places q) in absurd
          (omega (arith, mark, no)))
          (λ is.
          let number = sym (ap winner_in won_here) ∙ is in
          let one = won_winner k.session in
          let own = held_own R laws opened s r id q k mine h (omega (arith, number, one)) in
          some-ne-none own.1 (sym (subst (λ (l : List (ℕ × V)). At own.0 own.1 l) none own.2)))
          (r.marked q small h)
