-- What the invariant says between two steps.
use Rattle.std.proofs.Common.{◌≡◌, ℕ, suc, ◌<◌, List, sym, refl, ap, ◌∙◌, subst, ⊎_elim, inl, inr, Option, Some}
use mathlib.Core.Option as kernel
use mathlib.Core.Option.{some-injective, some-ne-none}
use Rattle.atomic_table.specs.Table.{State}
use Rattle.ownlock.specs.declared.known.Known.{Known}
use Rattle.ownlock.specs.Rules.{Rules, leader}
use Rattle.ownlock.specs.Words.{slot_of}
use Rattle.ownlock.specs.Seats.{At, Opened}
use Rattle.ownlock.specs.Invariant.{HasValue, HeldBySome, LockInvariant}
use Rattle.ownlock.specs.Between.{Between, HeldByNobody, Holds, IsHome, IsHeld, IsHomeOrHeld}
use Rattle.ownlock.proofs.Keeps.{at_one}

module _ {P N V : Type 0} (R : Rules P N V) (opened : Opened P N) (s : State (Option V) (List (Known P N V))) (r : LockInvariant R opened s) where
  abbrev K : Type 0
  K = Known P N V

  -- what is held is out, and agrees as it was taken
  out : (j i a : ℕ) (k : K) (p : ℕ) (x : V) → Holds s j i a k p x → At (slot_of p) kernel.none s.homes
  out j i a k p x (v, at_j, at_i, at_a) = ((r.each j i v k at_j at_i).0.out a (p, x) at_a).1

  agrees : (j i a : ℕ) (k : K) (p : ℕ) (x : V) → Holds s j i a k p x → R.AgreesWith p r.progress r.notes x
  agrees j i a k p x (v, at_j, at_i, at_a) = (r.each j i v k at_j at_i).0.possible.3 a (p, x) at_a

  once : (j i a : ℕ) (k : K) (p : ℕ) (x : V) (j' i' a' : ℕ) (k' : K) (x' : V) → Holds s j i a k p x → Holds s j' i' a' k' p x' → (j' ≡ j) × (i' ≡ i) × (a' ≡ a)
  once j i a k p x j' i' a' k' x' (v, at_j, at_i, at_a) (w, at_j', at_i', at_a') =
      let f = r.each j i v k at_j at_i in
      let g = r.each j' i' w k' at_j' at_i' in
      let session : k.session ≡ k'.session = sym (f.0.out a (p, x) at_a).0 ∙ (g.0.out a' (p, x') at_a').0 in
      let seat : j ≡ j' = sym f.1 ∙ (ap r.owner session ∙ g.1) in
      let view : w ≡ v = at_one s.views j w v (subst (λ z. At z w s.views) (sym seat) at_j') at_j in
      let there : At i' k' v = subst (λ z. At i' k' z) view at_i' in
      let place : i ≡ i' = r.distinct j i i' v k k' at_j at_i there session in
      let same : k' ≡ k = at_one v i k' k (subst (λ z. At z k' v) (sym place) there) at_i in
      (sym seat, sym place, sym (f.0.apart a a' (p, x) (p, x') at_a (subst (λ (z : K). At a' (p, x') z.held) same at_a') refl))

  -- a slot isn't both full and out
  not_both : (p : ℕ) (o : Option V) → At p (kernel.some o) s.homes → At p kernel.none s.homes → ⊥
  not_both p o e f = some-ne-none o (some-injective _ _ (sym e ∙ f))

  nobody : (p : ℕ) → HasValue R r.progress r.notes s.homes p → HeldByNobody s p
  nobody p t j i a k x h = not_both (slot_of p) (Some t.0) t.1 (out j i a k p x h)

  some_holds : (p : ℕ) → HeldBySome R p s.views → HeldByNobody s p → ⊥
  some_holds p (j, v, i, k, a, u, at_j, at_i, at_a, is) none =
      none j i a k u.1 (v, at_j, at_i, subst (λ q. At a (q, u.1) k.held) is at_a)

  free : (p : ℕ) → p < opened.places → HasValue R r.progress r.notes s.homes p
      → IsHome R s r.progress r.notes opened.places p
  free p below t = ((λ marked. some_holds p (r.busy p below marked) (nobody p t)), t, nobody p t)

  held : (p : ℕ) → p < opened.places → HeldBySome R p s.views → IsHeld R s r.progress r.notes opened.places p
  held p below (j, v, i, k, a, u, at_j, at_i, at_a, is) =
      let h : Holds s j i a k p u.1 = (v, at_j, at_i, subst (λ q. At a (q, u.1) k.held) is at_a) in
      let holder : r.holder p ≡ k.session = ((r.each j i v k at_j at_i).0.out a (p, u.1) h.3).0 in
      let claimed =
      ⊎_elim (λ marked. inl marked) (λ won. inr (won ∙ ap suc holder))
      (r.marked p below (j, v, i, k, a, u, at_j, at_i, at_a, is)) in (
        out j i a k p u.1 h,
        (
          j,
          i,
          a,
          k,
          u.1,
          h,
          (λ j' i' a' k' x' h'. once j i a k p u.1 j' i' a' k' x' h h'),
          agrees j i a k p u.1 h,
          claimed,
        ),
      )

  either_way : (p : ℕ) → p < opened.places → IsHomeOrHeld R s r.progress r.notes opened.places p
  either_way p below = ⊎_elim (λ t. inl (free p below t)) (λ h. inr (held p below h)) (r.there p below)

  pub between : Between R s opened
  between = (
    r.progress,
    r.notes,
    r.accounts,
    r.grown,
    r.placed,
    r.counted,
    either_way,
    (λ j i v k at_j at_i. let one = (r.each j i v k at_j at_i).0 in (one.possible.0.0, one.possible.1, one.allowed)),
    r.tail,
    (λ j i a k x h. (r.each j i h.0 k h.1 h.2).0.possible.0.1 a (leader, x) h.3 refl),
    record { run = r.run; leads = r.leads; goes_on = λ k t. (r.each t.0 t.1 t.2 k t.3 t.4).0.goes_on; own = λ k t. (r.each t.0 t.1 t.2 k t.3 t.4).0.own; ends = λ k t. (r.each t.0 t.1 t.2 k t.3 t.4).0.ends; all = λ c small. let t = r.all c small in (t.3, (t.0, t.1, t.2, t.4, t.5), t.6) },
  )
