-- A step on the word of the completed tail keeps the invariant, and what it tells.
use Rattle.std.proofs.Common.{◌≡◌, ◌≢◌, ℕ, max, List, [], ◌∷◌, length, get_or, set, sym, refl, ap, ◌∙◌, inr, subst, arith, length-set, get_or-set_same, Option}
use mathlib.Core.Option as kernel
use Rattle.atomic_table.specs.Table.{keeps, step, stepped, Allows}
use Rattle.atomic_table.proofs.Lists.{set_here, set_else}
use Rattle.ownlock.specs.declared.known.Known.{Known}
use Rattle.ownlock.specs.declared.known.SharedStep.{SharedStep}
use Rattle.ownlock.specs.declared.known.ShelfStep.{ShelfStep}
use Rattle.ownlock.specs.declared.known.ShelfStep.TheVariants.{Read, Raised}
use Rattle.ownlock.specs.Rules.{Rules, Laws}
use Rattle.ownlock.specs.Words.{word_of, slot_of}
use Rattle.ownlock.specs.Runs.{Runs, Loads, Raises}
use Rattle.ownlock.specs.Seats.{At, Opened, Run, Adds, having_raised, having_read, taken_by}
use Rattle.ownlock.specs.Knowledge.{Later, MayAsk, Possible}
use Rattle.ownlock.specs.Invariant.{SessionInvariant, LockInvariant, done_read, done_raised}
use Rattle.ownlock.proofs.Run.{continues_self, continues_more, own_here, own_else}
use Rattle.ownlock.proofs.Keeps.{LockState, LockSeat, Goes, all_places, goes, mine_of, word_there}
use Rattle.ownlock.proofs.Marks.{tail_rewords}
use Rattle.ownlock.proofs.Fronts.{at_below}

module _ {P N V : Type 0} (R : Rules P N V) (laws : Laws R) (opened : Opened P N) where
  abbrev K : Type 0
  K = Known P N V

  abbrev me : K → List (ℕ × Option V) → LockSeat P N V
  me k c = (k ∷ [], c)

  -- the session goes on to a progress with the same history and the completed tail n
  module _ (s : LockState P N V) (r : LockInvariant R opened s) (id : ℕ) (k : K) (at : At id (k ∷ []) s.views) (progress : P) (note : N) (notes : List N) (n : ℕ) (extends : R.Extends r.progress progress) (same : R.SameHistory r.progress progress)
      (own : At k.session note notes) (others : (i : ℕ) (m : N) → i ≢ k.session → At i m r.notes → At i m notes) (counted : length notes ≡ length opened.notes)
      (accounts : R.Accounts progress notes) (agrees : (q : ℕ) (y : V) → R.AgreesWith q r.progress r.notes y → R.AgreesWith q progress notes y) (completed : R.completed progress ≡ n) (step_taken : ShelfStep V) (leads : Runs R opened (taken_by k step_taken progress note ∷ r.run) progress notes) where
    abbrev entry : SharedStep P N V
    entry = taken_by k step_taken progress note

    -- the session has taken this step then
    abbrev later : K
    later = record { session = k.session; progress = progress; note = note; held = k.held; steps = step_taken ∷ k.steps; run = entry ∷ r.run }

    seen : SessionInvariant R r.progress r.notes r.run s.homes r.holder k
    seen = mine_of R laws opened s r id k at

    abbrev last : ℕ
    last = opened.places

    not_last : (q : ℕ) → At (slot_of q) kernel.none s.homes → q ≢ last
    not_last q e is = let below = at_below s.homes (slot_of q) kernel.none e in let placed = r.placed in omega (arith, below, is, placed)

    moves_tail : Goes R laws opened s r id last k later progress notes (set s.words (word_of last) n) s.homes r.holder (entry ∷ r.run)
    moves_tail = record {
      here = at;
      session = refl;
      goes_on = continues_more r.run r.run entry (continues_self r.run);
      by = λ c ne. own_else c entry r.run (λ same. ne (sym same));
      leads = leads;
      accounts = accounts;
      extends = extends;
      same = λ _. same;
      others = λ q y _ h. agrees q y h;
      noted = others;
      counted = counted;
      homes_else = λ i _. refl;
      homes_long = refl;
      words_else = tail_rewords last last s.words n;
      tail_here = get_or-set_same s.words (word_of last) n 0 (word_there R laws opened s r last (omega arith)) ∙ sym completed;
      words_long = length-set s.words (word_of last) n;
      holder_else = λ q _. refl;
      not_theirs = λ j i v m a u other at_j at_i at_a e. not_last u.0 ((r.each j i v m at_j at_i).0.out a u at_a).1 e;
      mine = record {
        possible = ((laws.extends_self progress, λ a u _ _. laws.same_self progress), own, accounts, λ a u e. agrees u.0 u.1 (seen.possible.3 a u e));
        allowed = laws.allows_on k.progress progress k.session _ (laws.extends_on _ _ _ seen.possible.0.0 extends) seen.allowed;
        apart = seen.apart;
        out = seen.out;
        goes_on = continues_self (entry ∷ r.run);
        own = own_here k.session entry r.run refl ∙ ap (λ es. step_taken ∷ es) seen.own;
        ends = record { seen = own_here k.session entry r.run refl ∙ ap (λ es. step_taken ∷ es) seen.own; last = inr (r.run, entry, refl, refl, refl, refl) };
      };
      there_here = λ below. absurd (omega (arith, below));
      busy_here = λ below _. absurd (omega (arith, below));
      marked_here = λ below _. absurd (omega (arith, below));
      held_else = λ a u e _. (a, e);
      held_back = λ a u e _. (a, e);
    }

    tail_stands : (c : List (ℕ × Option V)) → LockInvariant R opened (stepped s (word_of last) n id c (later ∷ []) keeps)
    tail_stands c = goes R laws opened s r id last k later progress notes (set s.words (word_of last) n) s.homes r.holder (entry ∷ r.run) moves_tail

  -- what the session may find
  now : (s : LockState P N V) (r : LockInvariant R opened s) (id : ℕ) (k : K) → At id (k ∷ []) s.views → Possible R k r.progress r.notes
  now s r id k at = (mine_of R laws opened s r id k at).possible

  -- and what it may find once the completed tail is raised
  now_raised : (k : K) (l : P) (ns : List N) (n : ℕ) → R.Reaches l n → Possible R k l ns → Possible R k (R.raised l n) ns
  now_raised k l ns n may (f, note, accounts, held) = (
    (laws.extends_on k.progress l (R.raised l n) f.0 (laws.raised_extends l n), λ i u e lead. laws.same_on k.progress l (R.raised l n) (f.1 i u e lead) (laws.raised_same l n)),
    note,
    laws.raised_account l n ns may accounts,
    λ i u e. laws.raised_agrees u.0 u.1 l n ns may accounts (held i u e),
  )

  only_one : (k k2 : K) → (k ∷ []) ≡ (k2 ∷ []) → k ≡ k2
  only_one k k2 e = ap (λ l. get_or l 0 k) e

  reads_at : (slots places id : ℕ) (k : K) (noted : ℕ → N → N) (c : List (ℕ × Option V)) → slots ≡ slot_of places → MayAsk R noted k
      → Allows (LockInvariant R opened) slots id (me k c) (word_of places) (λ n. n) (done_read R noted (step slots (word_of places) 0 0 kernel.none) (me k c))
  reads_at slots places id k noted c wide may s r long at _ =
      let same = all_places R laws opened s r slots places wide long in
      let found : ℕ = get_or s.words (word_of places) 0 in
      let tail : found ≡ R.completed r.progress = ap (λ z. get_or s.words (word_of z) 0) same ∙ r.tail in
      let fit = mine_of R laws opened s r id k at in
      let note : N = noted found k.note in
      let asks : R.Asks k.session r.progress k.note note = subst (λ z. R.Asks k.session r.progress k.note (noted z k.note)) (sym tail) (may r.progress r.notes fit.possible) in
      let notes : List N = set r.notes k.session note in
      let run : Run P N V = taken_by k (Read found) r.progress note ∷ r.run in
      let leads : Runs R opened run r.progress notes = Loads r.run r.progress r.notes k.session found k.note note r.leads fit.possible.1 tail asks in (
        having_read k r.progress note found run ∷ [],
        keeps,
        tt,
        subst (λ z. LockInvariant R opened (stepped s (word_of z) found id c (having_read k r.progress note found run ∷ []) keeps)) (sym same)
            (tail_stands s r id k at r.progress note notes found (laws.extends_self r.progress) (laws.same_self r.progress)
            (set_here r.notes k.session note (at_below r.notes k.session k.note fit.possible.1)) (λ i m ne h. set_else r.notes k.session i note ne ∙ h) (length-set r.notes k.session note ∙ r.counted)
            (laws.asks_account k.session r.progress k.note note r.notes asks fit.possible.1 r.accounts) (λ q y h. laws.asks_agrees q y k.session r.progress k.note note r.notes asks fit.possible.1 r.accounts h) (sym tail) (Read found) leads c),
        λ k2 sits. subst
            (λ (z : K). (progress : P) × ((notes : List N) × Possible R z progress notes) × (found ≡ R.completed progress)
            × ((more : Run P N V) × Adds z (Read found) progress (noted found z.note) more × (me (having_read k r.progress note found run) c ≡ me (having_read z progress (noted found z.note) found more) c)))
            (only_one k k2 sits) (r.progress, (r.notes, now s r id k at), tail, (run, (r.run, (fit.goes_on, fit.own), refl), refl)),
      )

  raises_at : (slots places id n : ℕ) (k : K) (c : List (ℕ × Option V)) → slots ≡ slot_of places → R.Reaches k.progress n
      → Allows (LockInvariant R opened) slots id (me k c) (word_of places) (λ m. max m n) (done_raised R (step slots (word_of places) n 0 kernel.none) (me k c))
  raises_at slots places id n k c wide reaches s r long at _ =
      let same = all_places R laws opened s r slots places wide long in
      let tail : get_or s.words (word_of places) 0 ≡ R.completed r.progress = ap (λ z. get_or s.words (word_of z) 0) same ∙ r.tail in
      let progress : P = R.raised r.progress n in
      let up : R.completed progress ≡ max (get_or s.words (word_of places) 0) n = laws.raised_completed r.progress n ∙ ap (λ z. max z n) (sym tail) in
      let known = now s r id k at in
      let may : R.Reaches r.progress n = laws.reaches_on k.progress r.progress n known.0.0 reaches in
      let fit = mine_of R laws opened s r id k at in
      let run : Run P N V = taken_by k (Raised n) progress k.note ∷ r.run in
      let leads : Runs R opened run progress r.notes = Raises r.run r.progress r.notes k.session n k.note r.leads fit.possible.1 may in (
        having_raised k progress n run ∷ [],
        keeps,
        tt,
        subst (λ z. LockInvariant R opened (stepped s (word_of z) (max (get_or s.words (word_of places) 0) n) id c (having_raised k progress n run ∷ []) keeps)) (sym same)
            (tail_stands s r id k at progress k.note r.notes (max (get_or s.words (word_of places) 0) n) (laws.raised_extends r.progress n) (laws.raised_same r.progress n) fit.possible.1 (λ i m _ h. h) r.counted (laws.raised_account r.progress n r.notes may r.accounts)
            (λ q y h. laws.raised_agrees q y r.progress n r.notes may r.accounts h) up (Raised n) leads c),
        λ k2 sits. subst
            (λ (z : K). (before : P) × Later R z before × ((notes : List N) × Possible R z (R.raised before n) notes)
            × ((more : Run P N V) × Adds z (Raised n) (R.raised before n) z.note more × (me (having_raised k progress n run) c ≡ me (having_raised z (R.raised before n) n more) c)))
            (only_one k k2 sits) (r.progress, known.0, (r.notes, now_raised k r.progress r.notes n may known), (run, (r.run, (fit.goes_on, fit.own), refl), refl)),
      )

  -- the completed tail is read
  pub reads : (slots places id word : ℕ) (m : LockSeat P N V) (k : K) (noted : ℕ → N → N) → slots ≡ slot_of places → word ≡ word_of places → m.0 ≡ k ∷ [] → MayAsk R noted k
      → Allows (LockInvariant R opened) slots id m word (λ n. n) (done_read R noted (step slots word 0 0 kernel.none) m)
  reads slots places id word m k noted wide is sits may =
      subst (λ (z : ℕ × List K). Allows (LockInvariant R opened) slots id (z.1, m.1) z.0 (λ n. n) (done_read R noted (step slots z.0 0 0 kernel.none) (z.1, m.1))) (λ i. (sym is i, sym sits i)) (reads_at slots places id k noted m.1 wide may)

  -- the completed tail is raised
  pub raises : (slots places id word n : ℕ) (m : LockSeat P N V) (k : K) → slots ≡ slot_of places → word ≡ word_of places → m.0 ≡ k ∷ [] → R.Reaches k.progress n → Allows (LockInvariant R opened) slots id m word (λ o. max o n) (done_raised R (step slots word n 0 kernel.none) m)
  raises slots places id word n m k wide is sits reaches =
      subst (λ (z : ℕ × List K). Allows (LockInvariant R opened) slots id (z.1, m.1) z.0 (λ o. max o n) (done_raised R (step slots z.0 n 0 kernel.none) (z.1, m.1))) (λ i. (sym is i, sym sits i)) (raises_at slots places id n k m.1 wide reaches)
