-- The shelf at the end.
use Rattle.std.proofs.Common.{◌≡◌, ◌≢◌, ℕ, zero, suc, ◌<◌, ◌≤◌, eqb, true, false, List, [], ◌∷◌, map, length, sym, refl, ap, ◌∙◌, subst, ⊎_elim, arith, ne_eqb, true≢false, ◌||◌, ◌+◌, Option, Some, None}
use mathlib.Core.Logic.{dite}
use mathlib.Core.Option as kernel
use mathlib.Core.Option.{some-injective, some-ne-none}
use native.Mathlib.Decide.{ℕ_discrete}
use Rattle.std.specs.List.{IsDistinct, AllByRecursion, list_any}
use Rattle.std.proofs.lemmas.Map.Steps.{length-le_from_distinct_below}
use Rattle.atomic_table.specs.Table.{State, Final, Seen}
use Rattle.ownlock.specs.declared.known.Known.{Known}
use Rattle.ownlock.specs.Rules.{Rules}
use Rattle.ownlock.specs.Words.{slot_of}
use Rattle.ownlock.specs.Spreading.{HasGaps, StandsIn}
use Rattle.ownlock.specs.Seats.{At, Opened, HoldsNone}
use Rattle.ownlock.specs.Knowledge.{AllAgree, Closes, IsOneRun}
use Rattle.ownlock.specs.Invariant.{HasValue, HeldBySome, LockInvariant}
use Rattle.ownlock.proofs.Keeps.{at_one}
use Rattle.ownlock.proofs.Fronts.{at_below}

all_at : {A : Type 0} (P : A → Type 0) (xs : List A) → ((i : ℕ) (x : A) → At i x xs → P x) → AllByRecursion P xs
all_at P [] h = tt
all_at P (x ∷ xs) h = (h 0 x refl, all_at P xs (λ i y e. h (suc i) y e))

distinct_at : (xs : List ℕ) → ((a b x : ℕ) → At a x xs → At b x xs → a ≡ b) → IsDistinct eqb xs
unfolding IsDistinct
distinct_at [] h = tt
distinct_at (x ∷ xs) h = (
  all_at (λ y. eqb x y ≡ false) xs (λ i y e. ne_eqb x y (λ same. let no : 0 ≡ suc i = h 0 (suc i) x refl (subst (λ z. At i z xs) (sym same) e) in absurd (omega (arith, no)))),
  distinct_at xs (λ a b y e f. let one : suc a ≡ suc b = h (suc a) (suc b) y e f in omega (arith, one)),
)

-- a number is in a list, or is apart from all there
found : (q : ℕ) (xs : List ℕ) → Dec ((i : ℕ) × At i q xs)
found q [] = no (λ t. some-ne-none q (sym t.1))
found q (x ∷ xs) = dite (ℕ_discrete x q) (λ e. yes (0, ap kernel.some e)) (λ ne. behind (found q xs) ne)
  where
    behind : Dec ((i : ℕ) × At i q xs) → x ≢ q → Dec ((i : ℕ) × At i q (x ∷ xs))
    behind (yes t) ne = yes (suc t.0, t.1)
    behind (no n) ne = no (λ t. elsewhere t.0 t.1)
      where
        elsewhere : (i : ℕ) → At i q (x ∷ xs) → ⊥
        elsewhere zero e = ne (some-injective x q e)
        elsewhere (suc i) e = n (i, e)

any_at : (q : ℕ) (xs : List ℕ) → list_any (eqb q) xs ≡ true → (i : ℕ) × At i q xs
any_at q [] e = absurd (true≢false (sym e))
any_at q (x ∷ xs) e = dite (ℕ_discrete q x) (λ same. (0, ap kernel.some (sym same)))
    (λ ne. let t = any_at q xs (subst (λ b. (b || list_any (eqb q) xs) ≡ true) (ne_eqb q x ne) e) in (suc t.0, t.1))

-- as many numbers below n as n, with no two equal, are all of them
pub everyone : (xs : List ℕ) (n : ℕ) → length xs ≡ n → ((a b x : ℕ) → At a x xs → At b x xs → a ≡ b) → ((i x : ℕ) → At i x xs → x < n) → (q : ℕ) → q < n → (i : ℕ) × At i q xs
everyone xs n long apart below q small = dite (found q xs) (λ t. t) (λ none.
    let room : length (q ∷ xs) ≤ n = length-le_from_distinct_below (q ∷ xs) n (distinct_at (q ∷ xs) (both none)) (λ x e. let t = any_at x (q ∷ xs) e in low t.0 x t.1) in
    absurd (omega (arith, room, long)))
  where
    both : ¬ ((i : ℕ) × At i q xs) → (a b x : ℕ) → At a x (q ∷ xs) → At b x (q ∷ xs) → a ≡ b
    both none zero zero x e f = refl
    both none zero (suc b) x e f = absurd (none (b, f ∙ sym e))
    both none (suc a) zero x e f = absurd (none (a, e ∙ sym f))
    both none (suc a) (suc b) x e f = ap suc (apart a b x e f)

    low : (i x : ℕ) → At i x (q ∷ xs) → x < n
    low zero x e = subst (λ z. z < n) (some-injective q x e) small
    low (suc i) x e = below i x e

map_at : {A B : Type 0} (f : A → B) (xs : List A) (i : ℕ) (y : B) → At i y (map f xs) → (x : A) × At i x xs × (f x ≡ y)
map_at f [] i y e = absurd (some-ne-none y (sym e))
map_at f (x ∷ xs) zero y e = (x, refl, some-injective (f x) y e)
map_at f (x ∷ xs) (suc i) y e = map_at f xs i y e

long_map : {A B : Type 0} (f : A → B) (xs : List A) → length (map f xs) ≡ length xs
long_map f [] = refl
long_map f (x ∷ xs) = let h = long_map f xs in omega arith

module _ {P N V : Type 0} (R : Rules P N V) (opened : Opened P N) where
  abbrev K : Type 0
  K = Known P N V

  abbrev St : Type 0
  St = State (Option V) (List K)

  numbers : List K → List ℕ
  numbers v = map (λ (k : K). k.session) v

  -- the seat id has every session
  present : (s : St) (r : LockInvariant R opened s) (id : ℕ) (v : List K) → At id v s.views → length v ≡ length opened.notes → (q : ℕ) → q < length opened.notes → (i : ℕ) × (m : K) × At i m v × (m.session ≡ q)
  unfolding numbers
  present s r id v at long q small =
      let t = everyone (numbers v) (length opened.notes) (long_map _ v ∙ long)
      (λ a b x e f. let one = map_at _ v a x e in let two = map_at _ v b x f in r.distinct id a b v one.0 two.0 at one.1 two.1 (one.2 ∙ sym two.2))
      (λ i x e. let one = map_at _ v i x e in let fit = (r.each id i v one.0 at one.1).0 in
      subst (λ z. z < length opened.notes) one.2 (subst (λ z. one.0.session < z) r.counted (at_below r.notes one.0.session one.0.note fit.possible.1)))
      q small in
      let k = map_at _ v t.0 q t.1 in (t.0, k.0, k.1, k.2)

  -- the slots between hold nothing at the end
  pub ends_gaps : (words : List ℕ) (slots : List (Option V)) (id places : ℕ) (v : List K) → length slots ≡ slot_of places → Final (Seen (LockInvariant R opened) id v) words slots → HasGaps None places slots
  ends_gaps words slots id places v wide (s, (r, at), same_words, same_count, homes) p a below low high =
      let placed = r.placed in homes (slot_of p + a) None (r.gaps p a (omega (arith, wide, same_count, placed, below)) low high)

  pub closes : (words : List ℕ) (slots values : List (Option V)) (id : ℕ) (v : List K) → length slots ≡ slot_of (length values) → StandsIn values slots
      → length v ≡ length opened.notes → HoldsNone v → Final (Seen (LockInvariant R opened) id v) words slots → Closes R opened v values
  closes words slots values id v wide stands long idle (s, (r, at), same_words, same_count, homes) = (r.progress, r.notes, r.accounts, r.counted, (λ i k e. let fit = (r.each id i v k at e).0 in (fit.possible.0.0, fit.possible.1)), agree, (λ q small. present s r id v at long q small), one_run)
    where
      one_run : IsOneRun R opened r.progress r.notes (λ k. (i : ℕ) × At i k v)
      one_run = record { run = r.run; leads = r.leads; goes_on = λ k t. (r.each id t.0 v k at t.1).0.goes_on; own = λ k t. (r.each id t.0 v k at t.1).0.own; ends = λ k t. (r.each id t.0 v k at t.1).0.ends; all = λ c small. let t = present s r id v at long c small in (t.1, (t.0, t.2), t.3) }

      no_one : (p : ℕ) → HeldBySome R p s.views → ⊥
      no_one p (j, w, i, m, a, u, at_j, at_i, at_a, is) =
          let known = r.each j i w m at_j at_i in
          let here = present s r id v at long m.session (subst (λ z. m.session < z) r.counted (at_below r.notes m.session m.note known.0.possible.1)) in
          let same_seat : j ≡ id = sym known.1 ∙ (ap r.owner (sym here.3) ∙ (r.each id here.0 v here.1 at here.2).1) in
          let mine : At i m v = subst (λ z. At i m z) (at_one s.views id w v (subst (λ z. At z w s.views) same_seat at_j) at) at_i in
          let none : At a u [] = subst (λ z. At a u z) (idle i m mine) at_a in
          some-ne-none u (sym none)

      inside : (p : ℕ) → p < length values → p < opened.places
      inside p below = let placed = r.placed in omega (arith, wide, same_count, placed, below)

      agree : AllAgree R r.progress r.notes values
      agree p below = ⊎_elim
          (λ (t : HasValue R r.progress r.notes s.homes p).
          (t.0, stands p (Some t.0) below (homes (slot_of p) (Some t.0) t.1), t.2))
          (λ held. absurd (no_one p held)) (r.there p (inside p below))
