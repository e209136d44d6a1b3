-- Sessions are popped from those of a fresh store, and put at their places.
use Rattle.std.proofs.Common.{◌≡◌, ◌≢◌, ℕ, zero, suc, ◌+◌, ◌<◌, ◌≤◌, ◌⊎◌, inl, inr, ⊎_elim, List, [], ◌∷◌, ◌++◌, length, None, Some, Option, MatchOption, get_or, set, refl, sym, ap, subst, ◌∙◌, arith}
use Rattle.std.proofs.lemmas.Bool.{cases_lt}
use Rattle.std.proofs.lemmas.Option.{none-some}
use Rattle.std.proofs.lemmas.List.{get_or-set_other, get_or-set_same, get_or_past, length-append, length-set}
use Rattle.std.proofs.lemmas.List.Elements.{All-from_get_or, All-set}
use Rattle.store_steps.specs.Shelving.{sessions_of}
use Rattle.store_steps.specs.Views.{SessionView}
use Rattle.store.specs.Sessions.{StoreView, fresh_session, fresh_sessions}
use Rattle.host_calls.specs.declared.attached.Attached.{Attached}
use Rattle.host_calls.specs.Openings.{IsSeat, fresh_of, fresh_seat}
use Rattle.host_calls.specs.Seating.{AreInOrder, IsIdleSeat, IsSeatOf}
use Rattle.host_calls.specs.Views.{AttachedView}

snoc : (s : StoreView) (a n : ℕ)
    → fresh_sessions s.id s.config s.catalogue a (suc n) ≡ fresh_sessions s.id s.config s.catalogue a n ++ fresh_session s.id s.config s.catalogue (a + n) ∷ []
snoc s a zero = ap (λ z. fresh_session s.id s.config s.catalogue z ∷ []) (omega arith)
snoc s a (suc n) = ap (λ z. fresh_session s.id s.config s.catalogue a ∷ z) (snoc s (suc a) n ∙ ap (λ z. fresh_sessions s.id s.config s.catalogue (suc a) n ++ fresh_session s.id s.config s.catalogue z ∷ []) (let e : suc a + n ≡ a + suc n = omega arith in e))

same_or : (k m : ℕ) → (k ≡ m) ⊎ (k ≢ m)
same_or zero zero = inl refl
same_or zero (suc m) = inr (λ e. omega (arith, e))
same_or (suc k) zero = inr (λ e. omega (arith, e))
same_or (suc k) (suc m) = ⊎_elim (λ e. inl (ap suc e)) (λ n. inr (λ e. n (omega (arith, e)))) (same_or k m)

first : {A : Type 0} (d : A) → List A → A
first d [] = d
first d (x ∷ xs) = x

rest_of : {A : Type 0} → List A → List A
rest_of [] = []
rest_of (x ∷ xs) = xs

snoc_parts : {A : Type 0} (xs ys : List A) (x y : A) → xs ++ x ∷ [] ≡ ys ++ y ∷ [] → (xs ≡ ys) × (x ≡ y)
unfolding first rest_of
snoc_parts [] [] x y e = (refl, ap (first x) e)
snoc_parts [] (b ∷ ys) x y e = let l = ap length e ∙ ap suc (length-append ys (y ∷ [])) in absurd (omega (arith, l))
snoc_parts (a ∷ xs) [] x y e = let l = sym (ap length e) ∙ ap suc (length-append xs (x ∷ [])) in absurd (omega (arith, l))
snoc_parts (a ∷ xs) (b ∷ ys) x y e = let r = snoc_parts xs ys x y (ap rest_of e) in (ap (λ z. a ∷ z) r.0 ∙ ap (λ z. z ∷ ys) (ap (first a) e), r.1)

-- the last of so many, and those before it
pub record IsPopped (s : StoreView) (xs ys : List SessionView) (x : SessionView) : Type 0 where
  pub rest : ys ≡ fresh_of s (length ys)
  pub last : x ≡ fresh_session s.id s.config s.catalogue (length ys)
  pub more : length xs ≡ suc (length ys)

pub popped : (s : StoreView) (xs ys : List SessionView) (x : SessionView) → xs ≡ ys ++ x ∷ []
    → xs ≡ fresh_of s (length xs) → IsPopped s xs ys x
popped s xs ys x is fresh =
    let n = length ys in
    let more : length xs ≡ suc n = ap length is ∙ (length-append ys (x ∷ []) ∙ omega arith) in
    let y = fresh_session s.id s.config s.catalogue n in
    let none : 0 + n ≡ n = omega arith in
    let whole : ys ++ x ∷ [] ≡ fresh_of s n ++ y ∷ [] = sym is ∙ (fresh ∙ (ap (fresh_of s) more ∙ (snoc s 0 n ∙ ap (λ z. fresh_of s n ++ fresh_session s.id s.config s.catalogue z ∷ []) none))) in
    let both = snoc_parts ys (fresh_of s n) x y whole in
    record { rest = both.0; last = both.1; more = more }

-- what stands at a place
abbrev pub seat_of : StoreView → ℕ → SessionView → AttachedView
seat_of s m z = record { store = s; place = m; session = z }

-- once it is put, the places from its own on have their sessions
pub put_there : (s : StoreView) (places : List (Option Attached)) (m count : ℕ) (a : Attached)
    → length places ≡ count → m < count → a ≡ fresh_seat s m
    → ((k : ℕ) → suc m ≤ k → k < count → IsSeat s places k) → (k : ℕ) → m ≤ k → k < count
    → IsSeat s (set places m (Some a)) k
put_there s places m count a room there is rest k from below = ⊎_elim
    (λ e. subst (λ i. IsSeat s (set places m (Some a)) i) (sym e) (subst (λ o. MatchOption o ⊥ (λ b. b ≡ fresh_seat s m)) (sym (get_or-set_same places m (Some a) None (omega (arith, there, room)))) is))
    (λ n. subst (λ o. MatchOption o ⊥ (λ b. b ≡ fresh_seat s k)) (sym (get_or-set_other places m k (Some a) None n)) (rest k (omega (arith, from, n)) below))
    (same_or k m)

-- ---- sessions at their own places

module _ (store : StoreView) (places : List (Option Attached)) (k : ℕ) (o : AreInOrder store places) (inside : k < length places) where
  placed_at : (x : Option Attached) → ((a : Attached) → x ≡ Some a → a.place ≡ k) → (j : ℕ) (a : Attached)
      → get_or (set places k x) j None ≡ Some a → a.place ≡ j
  placed_at x here j a at = ⊎_elim
      (λ e. here a (sym (get_or-set_same places k x None inside) ∙ subst (λ z. get_or (set places k x) z None ≡ Some a) e at) ∙ sym e)
      (λ n. o.placed j a (sym (get_or-set_other places k j x None n) ∙ at))
      (same_or j k)

  -- what is put at its own place
  pub put_at : (x : Option Attached) → IsSeatOf store x → IsIdleSeat x
      → ((a : Attached) → x ≡ Some a → a.place ≡ k) → AreInOrder store (set places k x)
  put_at x own idle here = record {
    count = length-set places k x ∙ o.count;
    own = All-set (IsSeatOf store) places k x own o.own;
    idle = All-set IsIdleSeat places k x idle o.idle;
    placed = placed_at x here;
  }

module _ (store : StoreView) (places : List (Option Attached)) where
  its_own : (k : ℕ) (o : Option Attached) → MatchOption o ⊥ (λ a. a ≡ fresh_seat store k) → IsSeatOf store o
  its_own k None is = absurd is
  its_own k (Some a) is = ap (λ (z : AttachedView). z.store) is

  rests : (k : ℕ) (o : Option Attached) → MatchOption o ⊥ (λ a. a ≡ fresh_seat store k) → IsIdleSeat o
  rests k None is = absurd is
  rests k (Some a) is = ap (λ (z : AttachedView). z.session.note.pending) is

  -- all of them, each fresh
  pub in_order : length places ≡ sessions_of store.config → ((k : ℕ) → k < length places → IsSeat store places k)
      → AreInOrder store places
  in_order count seats = record {
    count = count;
    own = All-from_get_or (IsSeatOf store) places None (λ k lt. its_own k (get_or places k None) (seats k lt));
    idle = All-from_get_or IsIdleSeat places None (λ k lt. rests k (get_or places k None) (seats k lt));
    placed = λ k a at. ⊎_elim
        (λ lt. ap (λ (z : AttachedView). z.place) (subst (λ z. MatchOption z ⊥ (λ b. b ≡ fresh_seat store k)) at (seats k lt)))
        (λ far. absurd (none-some a (sym (get_or_past places k None far) ∙ at)))
        (cases_lt k (length places));
  }
