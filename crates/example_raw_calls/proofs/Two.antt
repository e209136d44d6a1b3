-- A store of two sessions, from its opening to its end: what each call leaves of its handle.
use Rattle.std.proofs.Common.{◌≡◌, ℕ, List, [], ◌∷◌, ◌<◌, ◌*◌, true, refl, sym, ap, ◌∙◌, subst, arith, Option, None, Some}
use Rattle.std.specs.Prelude.{IfSome, MatchOption, get_or, is_some}
use Rattle.std.specs.List.{list_all}
use Rattle.std.specs.Arc.{arc_value}
use Rattle.std.specs.declared.alloc.Global.{Global}
use Rattle.std.specs.declared.boxed.Box.{Box}
use Rattle.loader.specs.StoreState.{StoreState}
use Rattle.store.specs.Sessions.{StoreView}
use Rattle.host_calls.specs.declared.handles.Opening.{Opening}
use Rattle.host_calls.specs.declared.handles.SessionHandle.{SessionHandle}
use Rattle.host_calls.specs.declared.handles.StateHandle.{StateHandle}
use Rattle.host_calls.specs.declared.handles.StoreAsked.{StoreAsked}
use Rattle.host_calls.specs.declared.handles.StoreHandle.{StoreHandle}
use Rattle.host_calls.specs.declared.pool.Pool.{Pool}
use Rattle.host_calls.specs.Leaving.{IsLastOf, Leaves, LeavesIf, LeavesState, sessions_back}
use Rattle.host_calls.specs.Openings.{IsOpened, IsSeat, IsStoreOf, fresh_seat}
use Rattle.host_calls.specs.Stores.{Gives, IsGiven, IsItsOwn, IsTaken, Takes}
use Rattle.host_calls.specs.Views.{AttachedView}
use Rattle.example_raw_calls.proofs.Places.{HasTwo, gives_first, gives_second, takes_first, takes_second, two}

-- the handle has a store with these two places
pub record IsOpen (h : StoreHandle) (store : StoreView) (x y : Option AttachedView) : Type 0 where
  pub pool : Box Pool Global
  pub has : h.own ≡ Some pool
  pub store_is : arc_value pool.value.store ≡ store
  pub slots : pool.value.slots ≡ 2
  pub node : h.asked.node ≡ 0
  pub places : HasTwo pool.value x y

no_option : {A : Type 0} (x : A) → Some x ≡ None → ⊥
no_option x e = absurd cc

pub some_then : {A : Type 0} (x : Option A) → is_some x ≡ true → (y : A) × (x ≡ Some y)
some_then None e = absurd cc
some_then (Some y) e = (y, refl)

-- by which case it is
match_some : {A : Type 0} (P : Type 0) (Q : A → Type 0) (x : Option A) (y : A) → x ≡ Some y → MatchOption x P Q → Q y
match_some P Q x y e t = subst (λ z. MatchOption z P Q) e t

match_none : {A : Type 0} (P : Type 0) (Q : A → Type 0) (x : Option A) → x ≡ None → MatchOption x P Q → P
match_none P Q x e t = subst (λ z. MatchOption z P Q) e t

some_if : {A : Type 0} (P : Type 0) (Q : A → Type 0) (x : Option A) → (P → ⊥) → MatchOption x P Q
    → (y : A) × (x ≡ Some y) × Q y
some_if P Q None never t = absurd (never t)
some_if P Q (Some y) never t = (y, refl, t)

-- ---- opening

seat_is : (store : StoreView) (ps : List (Option AttachedView)) (k : ℕ) → IsSeat store ps k
    → get_or ps k None ≡ Some (fresh_seat store k)
seat_is store ps k is = let s = some_if _ _ (get_or ps k None) (λ t. t) is in s.1 ∙ ap Some s.2

-- a store of one node with two slots
pub opened : (o : Opening) (h : StoreHandle) (b : Box Pool Global) → IsOpened o None h → h.own ≡ Some b → o.nodes ≡ 1
    → o.slots ≡ 2
    → IsStoreOf o None (arc_value b.value.store)
    × IsOpen h (arc_value b.value.store) (Some (fresh_seat (arc_value b.value.store) 0)) (Some (fresh_seat (arc_value b.value.store) 1))
opened o h b is has nodes slots =
    let p = (match_some _ _ h.own b has is.opened).0 in
    let count : o.nodes * o.slots ≡ 2 = λ j. nodes j * slots j in
    let none : 0 < o.nodes * o.slots = omega (arith, count) in
    let one : 1 < o.nodes * o.slots = omega (arith, count) in
    let first = seat_is (arc_value b.value.store) b.value.places.items 0 (p.seats 0 none) in
    let second = seat_is (arc_value b.value.store) b.value.places.items 1 (p.seats 1 one) in (
      p.store,
      record {
        pool = b;
        has = has;
        store_is = refl;
        slots = p.slots ∙ slots;
        node = ap (λ (z : StoreAsked). z.node) is.asked;
        places = two None b.value.places.items (p.count ∙ count) ∙ (λ j. first j ∷ second j ∷ []);
      },
    )

-- ---- attaching

-- who is given a session had an open store
pub was_open : (h after : StoreHandle) (given : SessionHandle) (a : AttachedView) → Gives h after given
    → given.own ≡ Some a → (b : Box Pool Global) × (h.own ≡ Some b)
was_open h after given a g has = let s = some_if _ _ h.own (λ t. no_option a (sym has ∙ t.1)) g.gives in (s.0, s.1)

-- what is given is taken from the pool
record IsGivenOut (h after : StoreHandle) (store : StoreView) (p : Pool) (a : AttachedView) : Type 0 where
  pool : Box Pool Global
  has : after.own ≡ Some pool
  store_is : arc_value pool.value.store ≡ store
  slots : pool.value.slots ≡ 2
  node : after.asked.node ≡ 0
  taken : IsTaken p pool.value 0 a

given_out : (h after : StoreHandle) (given : SessionHandle) (store : StoreView) (x y : Option AttachedView) (a : AttachedView) (o : IsOpen h store x y) → Gives h after given → given.own ≡ Some a → IsGivenOut h after store o.pool.value a
given_out h after given store x y a o g has =
    let s = some_if _ _ after.own (λ t. t) (match_some _ _ h.own o.pool o.has g.gives) in
    let t = match_some _ _ given.own a has s.2.1 in record {
      pool = s.0;
      has = s.1;
      store_is = ap arc_value s.2.0.0 ∙ o.store_is;
      slots = s.2.0.1 ∙ o.slots;
      node = ap (λ (z : StoreAsked). z.node) g.asked ∙ o.node;
      taken = subst (λ z. IsTaken o.pool.value s.0.value z a) o.node t.0;
    }

pub attached_first : (h after : StoreHandle) (given : SessionHandle) (store : StoreView) (x : AttachedView) (y : Option AttachedView) (a : AttachedView) → IsOpen h store (Some x) y → Gives h after given → given.own ≡ Some a
    → (a ≡ x) × IsOpen after store None y
attached_first h after given store x y a o g has =
    let t = given_out h after given store (Some x) y a o g has in
    let p = takes_first o.pool.value t.pool.value o.slots a x y o.places t.taken in
    (p.0, record { pool = t.pool; has = t.has; store_is = t.store_is; slots = t.slots; node = t.node; places = p.1 })

pub attached_second : (h after : StoreHandle) (given : SessionHandle) (store : StoreView) (y a : AttachedView)
    → IsOpen h store None (Some y) → Gives h after given → given.own ≡ Some a
    → (a ≡ y) × IsOpen after store None None
attached_second h after given store y a o g has =
    let t = given_out h after given store None (Some y) a o g has in
    let p = takes_second o.pool.value t.pool.value o.slots a y o.places t.taken in
    (p.0, record { pool = t.pool; has = t.has; store_is = t.store_is; slots = t.slots; node = t.node; places = p.1 })

-- both sessions of the store are attached, as they are at first
pub record HasAttached (o : Opening) (h : StoreHandle) (a b : AttachedView) : Type 0 where
  pub store : StoreView
  pub is : IsStoreOf o None store
  pub first : a ≡ fresh_seat store 0
  pub second : b ≡ fresh_seat store 1
  pub handle : IsOpen h store None None

pub attached_both : {o : Opening} {h mid after : StoreHandle} {one other : SessionHandle} (a b : AttachedView)
    → IsOpened o None h → (o.nodes ≡ 1) × (o.slots ≡ 2) → Gives h mid one → one.own ≡ Some a → Gives mid after other
    → other.own ≡ Some b → HasAttached o after a b
attached_both {o} {h} {mid} {after} {one} {other} a b is small g has f also =
    let pool = was_open h mid one a g has in
    let store = arc_value pool.0.value.store in
    let t = opened o h pool.0 is pool.1 small.0 small.1 in
    let w = attached_first h mid one store (fresh_seat store 0) (Some (fresh_seat store 1)) a t.1 g has in
    let p = attached_second mid after other store (fresh_seat store 1) b w.1 f also in
    record { store = store; is = t.0; first = w.0; second = p.0; handle = p.1 }

-- ---- detaching

pub its_own : (h : StoreHandle) (session : SessionHandle) (store : StoreView) (x y : Option AttachedView) (a : AttachedView) → IsOpen h store x y → session.own ≡ Some a → a.store ≡ store → IsItsOwn h session
its_own h session store x y a o has own =
    subst (λ z. IfSome z (λ b. IfSome session.own (λ a. a.store ≡ arc_value b.value.store))) (sym o.has)
    (subst (λ z. IfSome z (λ a. a.store ≡ arc_value o.pool.value.store)) (sym has) (own ∙ sym o.store_is))

-- a session of which no update is out is given back
record IsBackIn (h after : StoreHandle) (store : StoreView) (p : Pool) (a : AttachedView) : Type 0 where
  pool : Box Pool Global
  has : after.own ≡ Some pool
  store_is : arc_value pool.value.store ≡ store
  slots : pool.value.slots ≡ 2
  node : after.asked.node ≡ 0
  given : IsGiven p pool.value a

back_in : (h after : StoreHandle) (session left : SessionHandle) (store : StoreView) (x y : Option AttachedView) (a : AttachedView) (o : IsOpen h store x y) → Takes h session after left → session.own ≡ Some a
    → a.session.note.pending ≡ None → IsBackIn h after store o.pool.value a
back_in h after session left store x y a o t has free =
    let s = some_if _ _ after.own (λ z. z) (match_some _ _ h.own o.pool o.has t.takes) in
    let goes = match_none _ _ a.session.note.pending free (match_some _ _ session.own a has s.2.1) in record {
      pool = s.0;
      has = s.1;
      store_is = ap arc_value s.2.0.0 ∙ o.store_is;
      slots = s.2.0.1 ∙ o.slots;
      node = ap (λ (z : StoreAsked). z.node) t.asked ∙ o.node;
      given = goes.0;
    }

pub detached_first : {h after : StoreHandle} {session left : SessionHandle} {store : StoreView} (a : AttachedView)
    → IsOpen h store None None → Takes h session after left → session.own ≡ Some a → a.session.note.pending ≡ None
    → a.place ≡ 0 → IsOpen after store (Some a) None
detached_first {h} {after} {session} {left} {store} a o t has free place =
    let b = back_in h after session left store None None a o t has free in
    record { pool = b.pool; has = b.has; store_is = b.store_is; slots = b.slots; node = b.node; places = gives_first o.pool.value b.pool.value o.slots a None o.places place b.given }

pub detached_second : {h after : StoreHandle} {session left : SessionHandle} {store : StoreView} (x a : AttachedView)
    → IsOpen h store (Some x) None → Takes h session after left → session.own ≡ Some a → a.session.note.pending ≡ None
    → a.place ≡ 1 → IsOpen after store (Some x) (Some a)
detached_second {h} {after} {session} {left} {store} x a o t has free place =
    let b = back_in h after session left store (Some x) None a o t has free in
    record { pool = b.pool; has = b.has; store_is = b.store_is; slots = b.slots; node = b.node; places = gives_second o.pool.value b.pool.value o.slots a (Some x) o.places place b.given }

-- ---- closing

pub last_of : (h after : StoreHandle) (given : StateHandle) (store : StoreView) (x y : AttachedView) (state : StoreState) → IsOpen h store (Some x) (Some y) → Leaves h after given → given.own ≡ Some state
    → IsLastOf store (y.session ∷ x.session ∷ []) state
last_of h after given store x y state o l has =
    let whole : list_all is_some o.pool.value.places.items ≡ true = ap (list_all is_some) o.places in
    let left : LeavesIf true o.pool.value h after given = subst (λ z. LeavesIf z o.pool.value h after given) whole (match_some _ _ h.own o.pool o.has l.leaves) in
    let last : LeavesState o.pool.value after state = match_some _ _ given.own state has left in
    subst (λ z. IsLastOf z (y.session ∷ x.session ∷ []) state) o.store_is (subst (λ z. IsLastOf (arc_value o.pool.value.store) (sessions_back z) state) o.places last.2)
