-- The sessions of a new store, one for each slot of each node.
use Rattle.std.proofs.Common.{◌≡◌, ℕ, zero, suc, ◌+◌, ◌*◌, ◌<◌, ◌≤◌, List, [], ◌∷◌, ◌++◌, length, replicate, sym, refl, ap, ◌∙◌, subst, arith, mul-le-mul_right, ⊎_elim}
use Rattle.std.proofs.lemmas.Bool.{cases_lt}
use mathlib.Core.Option.{some-injective}
use Rattle.ownlock.specs.Seats.{HoldsNone, SeatView, ShelfId, all_sessions}
use Rattle.loader.specs.CatalogueView.{CatalogueView}
use Rattle.oplog.specs.declared.configuration.Sizes.{Sizes}
use Rattle.accounts.specs.declared.sessions.Progress.{Progress}
use Rattle.accounts.specs.declared.sessions.SessionNote.{SessionNote}
use Rattle.accounts.specs.LogSteps.{first_progress, fresh_note}
use Rattle.accounts.proofs.Export.{at_none}
use Rattle.store_steps.specs.declared.steps.Caller.{Caller}
use Rattle.store_steps.specs.declared.values.Value.{Value}
use Rattle.store.specs.Linear.{AreNew, own_events, seen}
use Rattle.store.specs.Opening.{AreOf}
use Rattle.store_steps.specs.Views.{IsIdle, SessionView, session_view}
use Rattle.store.specs.Sessions.{IsOf, StoreView, fresh_known, fresh_session, fresh_sessions}
use Rattle.store_steps.specs.Shelving.{sessions_of}
use Rattle.store_steps.specs.Standing.{SessionKnown}

abbrev S : Type 0
S = SeatView (Progress CatalogueView) SessionNote Value

module _ (config : Sizes) (c : CatalogueView) where
  -- the seats that are left, from the session a on
  abbrev pub left_from : ℕ → ℕ → List SessionKnown
  left_from a n = all_sessions (first_progress config c) a (replicate n fresh_note)

  -- so many sessions have their seats
  pub record Seated (id : ShelfId) (total a : ℕ) (seat : S) (sessions : List SessionView) : Type 0 where
    pub shelf : seat.shelf ≡ id
    pub left : ℕ
    pub count : a + left ≡ total
    pub seats : seat.sessions ≡ left_from a left
    pub sessions_are : sessions ≡ fresh_sessions id config c 0 a

  left_hold_none : (a n : ℕ) → HoldsNone (left_from a n)
  left_hold_none a zero i k at = absurd (at_none i k at)
  left_hold_none a (suc n) zero k at = ap (λ (z : SessionKnown). z.held) (sym (some-injective (fresh_known config c a) k at))
  left_hold_none a (suc n) (suc i) k at = left_hold_none (suc a) n i k at

  pub idle_seats : (id : ShelfId) (total a : ℕ) (seat : S) (sessions : List SessionView)
      → Seated id total a seat sessions → HoldsNone seat.sessions
  idle_seats id total a seat sessions s = subst HoldsNone (sym s.seats) (left_hold_none a s.left)

  -- another seat is there
  pub next_seat : (id : ShelfId) (total a : ℕ) (seat : S) (sessions : List SessionView) → a < total
      → Seated id total a seat sessions
      → (n : ℕ) × (suc a + n ≡ total) × (seat.sessions ≡ fresh_known config c a ∷ left_from (suc a) n)
  next_seat id total a seat sessions lt s = by s.left s.count s.seats
    where
      by : (n : ℕ) → a + n ≡ total → seat.sessions ≡ left_from a n
          → (n : ℕ) × (suc a + n ≡ total) × (seat.sessions ≡ fresh_known config c a ∷ left_from (suc a) n)
      by zero count is = absurd (omega (arith, count, lt))
      by (suc n) count is = (n, omega (arith, count), is)

  -- the seat is one of a session that waits for nothing
  inside : (a node slot slots nodes : ℕ) → a ≡ node * slots + slot → a < nodes * slots → node < nodes
  inside a node slot slots nodes is lt = ⊎_elim (λ h. h) (λ (far : nodes ≤ node). let low : nodes * slots ≤ node * slots = mul-le-mul_right slots far in absurd (omega (arith, is, lt, low))) (cases_lt node nodes)

  pub starts_idle : (seat : S) (caller : Caller) (a : ℕ) → seat.sessions ≡ fresh_known config c a ∷ []
      → a < sessions_of config → a ≡ caller.node * config.slots + caller.slot → caller.slot < config.slots
      → IsIdle seat caller
  starts_idle seat caller a is lt own within = record {
    known = fresh_known config c a;
    is = is;
    free = record { own = own; within = within; near = inside a caller.node caller.slot config.slots config.nodes own lt; held = refl };
    pending = refl;
    unread = refl;
    batch = refl;
    well_formed = record { allowed = λ i r at. absurd (at_none i r at); completed = omega arith; limit = omega arith };
    within = omega arith;
  }

  fresh_more : (id : ShelfId) (a n : ℕ)
      → fresh_sessions id config c a (suc n) ≡ fresh_sessions id config c a n ++ fresh_session id config c (a + n) ∷ []
  fresh_more id a zero = ap (λ z. fresh_session id config c z ∷ []) (same a)
    where
      same : (a : ℕ) → a ≡ a + 0
      same a = omega arith
  fresh_more id a (suc n) = ap (λ z. fresh_session id config c a ∷ z) (fresh_more id (suc a) n ∙ ap (λ z. fresh_sessions id config c (suc a) n ++ fresh_session id config c z ∷ []) (same a n))
    where
      same : (a n : ℕ) → suc a + n ≡ a + suc n
      same a n = omega arith

  pub fresh_long : (id : ShelfId) (a n : ℕ) → length (fresh_sessions id config c a n) ≡ n
  fresh_long id a zero = refl
  fresh_long id a (suc n) = let long = fresh_long id (suc a) n in omega (arith, long)

  pub seated_more : (id : ShelfId) (total a b : ℕ) (seat next own : S) (sessions more : List SessionView) (s : SessionView)
      → b ≡ a + 1 → a < total → Seated id total a seat sessions → next.shelf ≡ seat.shelf → own.shelf ≡ seat.shelf
      → ((k : SessionKnown) (ks : List SessionKnown) → seat.sessions ≡ k ∷ ks → (next.sessions ≡ ks) × (own.sessions ≡ k ∷ []))
      → s ≡ session_view own → more ≡ sessions ++ s ∷ [] → Seated id total b next more
  seated_more id total a b seat next own sessions more s is lt g same apart split view grown =
      let n = next_seat id total a seat sessions lt g in
      let t = split (fresh_known config c a) (left_from (suc a) n.0) n.2 in
      let one : b ≡ suc a = omega (arith, is) in
      subst (λ z. Seated id total z next more) (sym one) (record {
        shelf = same ∙ g.shelf;
        left = n.0;
        count = n.1;
        seats = t.0;
        sessions_are = grown ∙ (ap (λ z. z ++ s ∷ []) g.sessions_are ∙ (ap (λ z. fresh_sessions id config c 0 a ++ z ∷ []) (view ∙ fresh_view own t.1 (apart ∙ g.shelf)) ∙ (ap (λ z. fresh_sessions id config c 0 a ++ fresh_session id config c z ∷ []) (zero_plus a) ∙ sym (fresh_more id 0 a))));
      })
    where
      zero_plus : (a : ℕ) → a ≡ 0 + a
      zero_plus a = omega arith

      fresh_view : (own : S) → own.sessions ≡ fresh_known config c a ∷ [] → own.shelf ≡ id
          → session_view own ≡ fresh_session id config c a
      fresh_view own known shelf = λ i. session_view (record { shelf = shelf i; sessions = known i })

  pub fresh_of : (store : StoreView) (a n : ℕ) → store.config ≡ config → store.catalogue ≡ c
      → AreOf store (fresh_sessions store.id config c a n)
  fresh_of store a zero is same i s at = absurd (at_none i s at)
  fresh_of store a (suc n) is same zero s at = let e = some-injective (fresh_session store.id config c a) s at in subst (λ (z : SessionView). IsOf store z) e (record { shelf = refl; config = sym is; catalogue = sym same })
  fresh_of store a (suc n) is same (suc i) s at = fresh_of store (suc a) n is same i s at

  pub fresh_are_new : (id : ShelfId) (a n : ℕ) → AreNew (fresh_sessions id config c a n)
  fresh_are_new id a zero i s at = absurd (at_none i s at)
  fresh_are_new id a (suc n) zero s at =
      let is = some-injective (fresh_session id config c a) s at in
      subst (λ (z : SessionView). (own_events z ≡ []) × (seen z ≡ [])) is (refl, refl)
  fresh_are_new id a (suc n) (suc i) s at = fresh_are_new id (suc a) n i s at
