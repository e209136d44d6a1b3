-- The seats of all sessions are joined, one after another from the last on.
use Rattle.std.proofs.Common.{◌≡◌, ℕ, zero, suc, ◌+◌, List, [], ◌∷◌, ◌++◌, length, length-append, append_assoc, sym, refl, ap, ◌∙◌, subst, ⊎_elim, arith, Option, None}
use mathlib.Core.Option.{some-injective}
use Rattle.ownlock.specs.Seats.{At, HoldsNone, SeatView, ShelfId}
use Rattle.loader.specs.CatalogueView.{CatalogueView}
use Rattle.accounts.specs.declared.sessions.Progress.{Progress}
use Rattle.accounts.specs.declared.sessions.Pending.{Pending}
use Rattle.accounts.specs.declared.sessions.SessionNote.{SessionNote}
use Rattle.accounts.proofs.Export.{at_none, at_front, at_behind, at_joined}
use Rattle.store_steps.specs.declared.steps.Caller.{Caller}
use Rattle.store_steps.specs.declared.values.Value.{Value}
use Rattle.store.specs.Opening.{AreIdle, AreOf, known_back}
use Rattle.store_steps.specs.Views.{IsIdle, SessionView}
use Rattle.store.specs.Sessions.{StoreView, known_of}
use Rattle.store_steps.specs.Standing.{SessionKnown}

abbrev S : Type 0
S = SeatView (Progress CatalogueView) SessionNote Value

only : {A : Type 0} (a b : A) (i : ℕ) → At i b (a ∷ []) → b ≡ a
only a b zero e = sym (some-injective a b e)
only a b (suc i) e = absurd (at_none i b e)

pub last_place : {A : Type 0} (xs : List A) (a : A) → At (length xs) a (xs ++ a ∷ [])
last_place xs a = subst (λ i. At i a (xs ++ a ∷ [])) (no_more (length xs)) (at_behind xs (a ∷ []) 0 a refl)
  where
    no_more : (n : ℕ) → n + 0 ≡ n
    no_more n = omega arith

-- ---- what joined seats know

pub back_holds_none : (ss : List SessionView) → HoldsNone (known_back ss)
back_holds_none [] i k at = absurd (at_none i k at)
back_holds_none (s ∷ ss) i k at = ⊎_elim (λ h. back_holds_none ss i k h) (λ t. ap (λ (z : SessionKnown). z.held) (only (known_of s) k t.0 t.2)) (at_joined (known_back ss) (known_of s ∷ []) i k at)

pub back_long : (ss : List SessionView) → length (known_back ss) ≡ length ss
back_long [] = refl
back_long (s ∷ ss) = let long = back_long ss in let more = length-append (known_back ss) (known_of s ∷ []) in omega (arith, long, more)

-- each session is among them, and no others are
pub back_has : (ss : List SessionView) (a : ℕ) (s : SessionView) → At a s ss
    → (i : ℕ) × At i (known_of s) (known_back ss)
back_has [] a s at = absurd (at_none a s at)
back_has (t ∷ ss) zero s at = (length (known_back ss), subst (λ (z : SessionView). At (length (known_back ss)) (known_of z) (known_back ss ++ known_of t ∷ [])) (some-injective t s at) (last_place (known_back ss) (known_of t)))
back_has (t ∷ ss) (suc a) s at = let h = back_has ss a s at in (h.0, at_front (known_back ss) (known_of t ∷ []) h.0 (known_of s) h.1)

pub back_is : (ss : List SessionView) (i : ℕ) (k : SessionKnown) → At i k (known_back ss)
    → (a : ℕ) × (s : SessionView) × At a s ss × (k ≡ known_of s)
back_is [] i k at = absurd (at_none i k at)
back_is (s ∷ ss) i k at =
    ⊎_elim (λ h. let t = back_is ss i k h in (suc t.0, t.1, t.2, t.3)) (λ t. (0, s, refl, only (known_of s) k t.0 t.2)) (at_joined (known_back ss) (known_of s ∷ []) i k at)

-- ---- one after another

-- the seat has those sessions that are no longer among the rest
pub record Gathered (id : ShelfId) (all rest : List SessionView) (t : S) : Type 0 where
  pub shelf : t.shelf ≡ id
  pub popped : List SessionView
  pub split : all ≡ rest ++ popped
  pub joined : t.sessions ≡ known_back popped
  pub idle : AreIdle popped

-- a session that waits for nothing, by its seat
idle_is : (t : S) (caller : Caller) (s : SessionView) → t.sessions ≡ known_of s ∷ [] → IsIdle t caller
    → s.note.pending ≡ None
idle_is t caller s known i = ap (λ (z : List SessionKnown). pending_in z) (sym known ∙ i.is) ∙ i.pending
  where
    pending_in : List SessionKnown → Option Pending
    pending_in [] = None
    pending_in (k ∷ ks) = k.note.pending

idle_more : (s : SessionView) (ss : List SessionView) → s.note.pending ≡ None → AreIdle ss → AreIdle (s ∷ ss)
idle_more s ss first others zero t at = subst (λ (z : SessionView). z.note.pending ≡ None) (some-injective s t at) first
idle_more s ss first others (suc a) t at = others a t at

pub gathers_first : (id : ShelfId) (all rest : List SessionView) (s : SessionView) (t : S) (caller : Caller)
    → all ≡ rest ++ s ∷ [] → t.shelf ≡ id → t.sessions ≡ known_of s ∷ [] → IsIdle t caller → Gathered id all rest t
gathers_first id all rest s t caller is shelf known idle =
    record { shelf = shelf; popped = s ∷ []; split = is; joined = known; idle = idle_more s [] (idle_is t caller s known idle) (λ a z at. absurd (at_none a z at)) }

pub gathers_more : (id : ShelfId) (all before rest : List SessionView) (s : SessionView) (t u n : S) (caller : Caller)
    → Gathered id all before t → before ≡ rest ++ s ∷ [] → u.sessions ≡ known_of s ∷ [] → IsIdle u caller
    → n.shelf ≡ t.shelf → n.sessions ≡ t.sessions ++ u.sessions → Gathered id all rest n
gathers_more id all before rest s t u n caller g is known idle same joined = record {
  shelf = same ∙ g.shelf;
  popped = s ∷ g.popped;
  split = g.split ∙ (ap (λ z. z ++ g.popped) is ∙ append_assoc rest (s ∷ []) g.popped);
  joined = joined ∙ (ap (λ z. z ++ u.sessions) g.joined ∙ ap (λ z. known_back g.popped ++ z) known);
  idle = idle_more s g.popped (idle_is u caller s known idle) g.idle;
}

-- the session that is taken next is one of the store
pub next_of : (store : StoreView) (id : ShelfId) (all before rest : List SessionView) (s : SessionView) (t : S)
    → AreOf store all → Gathered id all before t → before ≡ rest ++ s ∷ [] → s.shelf ≡ store.id
next_of store id all before rest s t own g is =
    let at : At (length rest) s before = subst (λ z. At (length rest) s z) (sym is) (last_place rest s) in
    (own (length rest) s (subst (λ z. At (length rest) s z) (sym g.split) (at_front before g.popped (length rest) s at))).shelf

pub first_of : (store : StoreView) (all rest : List SessionView) (s : SessionView) → AreOf store all
    → all ≡ rest ++ s ∷ [] → s.shelf ≡ store.id
first_of store all rest s own is = (own (length rest) s (subst (λ z. At (length rest) s z) (sym is) (last_place rest s))).shelf

pub one_holds_none : (v : List SessionKnown) (s : SessionView) → v ≡ known_of s ∷ [] → HoldsNone v
one_holds_none v s is a k at = ap (λ (z : SessionKnown). z.held) (only (known_of s) k a (subst (λ z. At a k z) is at))

-- all are joined
pub all_joined : (id : ShelfId) (all rest : List SessionView) (t : S) → rest ≡ [] → Gathered id all rest t
    → (t.shelf ≡ id) × (t.sessions ≡ known_back all) × AreIdle all
all_joined id all rest t none g =
    let is : all ≡ g.popped = g.split ∙ ap (λ z. z ++ g.popped) none in
    (g.shelf, g.joined ∙ ap known_back (sym is), subst AreIdle (sym is) g.idle)
