-- The sessions of a lane, each with its home.
use Rattle.std.proofs.Common.{◌≡◌, ℕ, zero, suc, ◌+◌, ◌<◌, ◌⊎◌, ⊎_elim, List, [], ◌∷◌, ◌++◌, length, refl, sym, ap, ◌∙◌, subst, arith, length-append}
use Rattle.std.specs.Arc.{arc_value}
use mathlib.Core.Option.{some-injective}
use Rattle.ownlock.specs.Seats.{At}
use Rattle.accounts.proofs.Export.{at_below, at_front, at_joined, at_none, at_one, at_there}
use Rattle.store_steps.specs.Views.{SessionView}
use Rattle.store.specs.Opening.{AreOf}
use Rattle.store.specs.Pipelines.{EachGoesOn}
use Rattle.store.specs.Sessions.{IsOf, StoreView}
use Rattle.store.proofs.Export.{last_place}
use Rattle.host_calls.specs.declared.lanes.Home.{Home}
use Rattle.host_calls.specs.Homes.{AreAtHome, attached_at, attached_of}
use Rattle.host_calls.specs.Lanes.{AreOneLane, AreSame, sessions_in}
use Rattle.host_calls.specs.Views.{AttachedView, IsPlaced, IsSame}

-- ---- how they are seen

pub sessions_are : (homes : List Home) (ss : List SessionView) → length homes ≡ length ss
    → sessions_in (attached_of homes ss) ≡ ss
sessions_are [] [] e = refl
sessions_are [] (s ∷ ss) e = absurd (omega (arith, e))
sessions_are (h ∷ homes) [] e = absurd (omega (arith, e))
sessions_are (h ∷ homes) (s ∷ ss) e = ap (λ z. s ∷ z) (sessions_are homes ss (omega (arith, e)))

pub seen : (homes : List Home) (ss : List SessionView) (lane : List AttachedView) → length homes ≡ length ss
    → attached_of homes ss ≡ lane → sessions_in lane ≡ ss
seen homes ss lane e is = ap sessions_in (sym is) ∙ sessions_are homes ss e

pub as_long : (homes : List Home) (ss : List SessionView) → length homes ≡ length ss
    → length (attached_of homes ss) ≡ length ss
as_long [] [] e = refl
as_long [] (s ∷ ss) e = absurd (omega (arith, e))
as_long (h ∷ homes) [] e = absurd (omega (arith, e))
as_long (h ∷ homes) (s ∷ ss) e = ap suc (as_long homes ss (omega (arith, e)))

pub one_behind : (homes : List Home) (ss : List SessionView) (h : Home) (s : SessionView) → length homes ≡ length ss
    → attached_of (homes ++ h ∷ []) (ss ++ s ∷ []) ≡ attached_of homes ss ++ attached_at h s ∷ []
one_behind [] [] h s e = refl
one_behind [] (t ∷ ss) h s e = absurd (omega (arith, e))
one_behind (g ∷ homes) [] h s e = absurd (omega (arith, e))
one_behind (g ∷ homes) (t ∷ ss) h s e = ap (λ z. attached_at g t ∷ z) (one_behind homes ss h s (omega (arith, e)))

-- what is at a home
at_home : (homes : List Home) (ss : List SessionView) → length homes ≡ length ss → (j : ℕ) (h : Home) → At j h homes
    → (s : SessionView) × At j (attached_at h s) (attached_of homes ss)
at_home [] ss e j h at = absurd (at_none j h at)
at_home (g ∷ homes) [] e j h at = absurd (omega (arith, e))
at_home (g ∷ homes) (s ∷ ss) e zero h at = (s, subst (λ (z : Home). At zero (attached_at z s) (attached_at g s ∷ attached_of homes ss)) (some-injective g h at) refl)
at_home (g ∷ homes) (s ∷ ss) e (suc j) h at = at_home homes ss (omega (arith, e)) j h at

pub record IsAttached (homes : List Home) (ss : List SessionView) (j : ℕ) (a : AttachedView) : Type 0 where
  pub home : Home
  pub session : SessionView
  pub at : At j home homes
  pub there : At j session ss
  pub is : attached_at home session ≡ a

attached_there : (homes : List Home) (ss : List SessionView) (j : ℕ) (a : AttachedView)
    → At j a (attached_of homes ss) → IsAttached homes ss j a
attached_there [] ss j a at = absurd (at_none j a at)
attached_there (g ∷ homes) [] j a at = absurd (at_none j a at)
attached_there (g ∷ homes) (s ∷ ss) zero a at = record { home = g; session = s; at = refl; there = refl; is = some-injective (attached_at g s) a at }
attached_there (g ∷ homes) (s ∷ ss) (suc j) a at =
    let i = attached_there homes ss j a at in record { home = i.home; session = i.session; at = i.at; there = i.there; is = i.is }

-- ---- of one store

pub store_of : (homes : List Home) (ss : List SessionView) (store : StoreView) → length homes ≡ length ss
    → AreOneLane store (attached_of homes ss) → (j : ℕ) (h : Home) → At j h homes
    → arc_value h.store ≡ store
store_of homes ss store e one j h at = let s = at_home homes ss e j h at in one j (attached_at h s.0) s.1

pub own_of : (homes : List Home) (ss : List SessionView) (store : StoreView) → AreAtHome homes ss
    → AreOneLane store (attached_of homes ss) → AreOf store ss
own_of homes ss store home one j s at =
    let below = at_below ss j s at in
    let count = home.count in
    let h = at_there homes j (omega (arith, below, count)) in
    subst (λ (z : StoreView). IsOf z s) (store_of homes ss store count one j h.0 h.1) (home.own j h.0 h.1 j s at)

-- ---- the same sessions

pub same_self : (l : List AttachedView) → AreSame l l
same_self l = record {
  count = refl;
  each = λ j a b at there. subst (IsSame a) (at_one l j a b at there) (record { store = refl; place = refl; shelf = refl; session = refl });
}

pub same_on : (homes : List Home) (old new : List SessionView) (store : StoreView) → length homes ≡ length old
    → EachGoesOn store old new → AreSame (attached_of homes old) (attached_of homes new)
same_on homes old new store e on = record {
  count = as_long homes new (e ∙ sym on.0) ∙ (on.0 ∙ sym (as_long homes old e));
  each = λ j a b at there.
      let x = attached_there homes old j a at in
      let y = attached_there homes new j b there in
      same j a b x y;
}
  where
    same : (j : ℕ) (a b : AttachedView) → IsAttached homes old j a → IsAttached homes new j b → IsSame a b
    same j a b x y =
        let home = at_one homes j x.home y.home x.at y.at in
        let goes = on.1 j x.session y.session x.there y.there in
        subst (λ (z : AttachedView). IsSame z b) x.is (subst (IsSame (attached_at x.home x.session)) y.is (record {
          store = ap (λ (h : Home). arc_value h.store) (sym home);
          place = ap (λ (h : Home). h.place) (sym home);
          shelf = goes.same.0;
          session = goes.same.1;
        }))

pub home_on : (homes : List Home) (old new : List SessionView) (store : StoreView) → AreAtHome homes old
    → EachGoesOn store old new
    → ((i : ℕ) (g : Home) → At i g homes → arc_value g.store ≡ store) → AreAtHome homes new
home_on homes old new store home on one = record {
  count = home.count ∙ sym on.0;
  few = home.few;
  own = λ i g at j t there.
      let below = at_below new j t there in
      let long = on.0 in
      let s = at_there old j (omega (arith, below, long)) in
      subst (λ (z : StoreView). IsOf z t) (sym (one i g at)) (on.1 j s.0 t s.1 there).own;
  one = home.one;
  placed = λ i g t at there.
      let below = at_below new i t there in
      let long = on.0 in
      let s = at_there old i (omega (arith, below, long)) in
      let was = home.placed i g s.0 at s.1 in
      record { number = (on.1 i s.0 t s.1 there).same.1 ∙ was.number; below = was.below };
}

-- ---- one more, and one less

alone : {A : Type 0} (j : ℕ) (x y : A) → At j y (x ∷ []) → x ≡ y
alone zero x y at = some-injective x y at
alone (suc j) x y at = absurd (at_none j y at)

pub home_more : (homes : List Home) (ss : List SessionView) (h : Home) (s : SessionView) → AreAtHome homes ss
    → length homes < 16 → AreOneLane (arc_value h.store) (attached_of homes ss)
    → IsOf (arc_value h.store) s → IsPlaced (arc_value h.store) h.place s → AreAtHome (homes ++ h ∷ []) (ss ++ s ∷ [])
home_more homes ss h s home room one of place = record {
  count = let long = length-append homes (h ∷ []) in let wide = length-append ss (s ∷ []) in let count = home.count in omega (arith, long, wide, count);
  few = let long = length-append homes (h ∷ []) in omega (arith, long, room);
  own = λ i g at j t there. subst (λ (z : StoreView). IsOf z t) (sym (stores i g (at_joined homes (h ∷ []) i g at))) (its j t (at_joined ss (s ∷ []) j t there));
  one = λ i j f g at there. stores i f (at_joined homes (h ∷ []) i f at) ∙ sym (stores j g (at_joined homes (h ∷ []) j g there));
  placed = λ i g t at there. ⊎_elim
      (λ a. ⊎_elim (λ b. home.placed i g t a b) (λ b. let low = at_below homes i g a in let count = home.count in let up = b.1 in absurd (omega (arith, low, count, up))) (at_joined ss (s ∷ []) i t there))
      (λ a. ⊎_elim (λ b. let low = at_below ss i t b in let count = home.count in let up = a.1 in absurd (omega (arith, low, count, up)))
      (λ b. subst (λ (z : Home × SessionView). IsPlaced (arc_value z.0.store) z.0.place z.1) (λ j. (alone a.0 h g a.2 j, alone b.0 s t b.2 j)) place) (at_joined ss (s ∷ []) i t there))
      (at_joined homes (h ∷ []) i g at);
}
  where
    stores : (i : ℕ) (g : Home) → At i g homes ⊎ ((k : ℕ) × (i ≡ length homes + k) × At k g (h ∷ []))
        → arc_value g.store ≡ arc_value h.store
    stores i g at = ⊎_elim (λ a. store_of homes ss (arc_value h.store) home.count one i g a) (λ b. ap (λ (z : Home). arc_value z.store) (sym (alone b.0 h g b.2))) at

    its : (j : ℕ) (t : SessionView) → At j t ss ⊎ ((k : ℕ) × (j ≡ length ss + k) × At k t (s ∷ []))
        → IsOf (arc_value h.store) t
    its j t at = ⊎_elim (λ a. own_of homes ss (arc_value h.store) home one j t a) (λ b. subst (IsOf (arc_value h.store)) (alone b.0 s t b.2) of) at

pub record HomeLess (homes : List Home) (ss : List SessionView) (h : Home) (s : SessionView) : Type 0 where
  pub home : AreAtHome homes ss
  pub of : IsOf (arc_value h.store) s
  pub placed : IsPlaced (arc_value h.store) h.place s

pub home_less : (homes : List Home) (ss : List SessionView) (h : Home) (s : SessionView)
    → AreAtHome (homes ++ h ∷ []) (ss ++ s ∷ []) → HomeLess homes ss h s
home_less homes ss h s home = record {
  home = record {
    count = count;
    few = let long = length-append homes (h ∷ []) in let few = home.few in omega (arith, long, few);
    own = λ i g at j t there. home.own i g (at_front homes (h ∷ []) i g at) j t (at_front ss (s ∷ []) j t there);
    one = λ i j f g at there. home.one i j f g (at_front homes (h ∷ []) i f at) (at_front homes (h ∷ []) j g there);
    placed = λ i g t at there. home.placed i g t (at_front homes (h ∷ []) i g at) (at_front ss (s ∷ []) i t there);
  };
  of = home.own (length homes) h (last_place homes h) (length ss) s (last_place ss s);
  placed = home.placed (length homes) h s (last_place homes h) (subst (λ z. At z s (ss ++ s ∷ [])) (sym count) (last_place ss s));
}
  where
    count : length homes ≡ length ss
    count = let long = length-append homes (h ∷ []) in let wide = length-append ss (s ∷ []) in let same = home.count in omega (arith, long, wide, same)
