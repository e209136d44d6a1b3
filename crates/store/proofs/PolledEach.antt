-- The updates that the sessions of a pipeline ask for at once, and wait for nobody.
use Rattle.std.proofs.Common.{◌≡◌, ℕ, zero, suc, ◌<◌, ◌≤◌, List, [], ◌∷◌, ◌++◌, length, map, take, drop, Some, None, Result, ◌⊎◌, inl, inr, sym, refl, ap, ◌∙◌, subst, arith, ⊎_elim}
use Rattle.std.proofs.lemmas.Bool.{cases_lt}
use Rattle.std.proofs.lemmas.List.{length-map}
use Rattle.std.proofs.lemmas.Option.{none-some, same_Some}
use Rattle.std.proofs.Math.Seq.{take-append_seam}
use Rattle.ownlock.specs.Seats.{At, IsSession}
use Rattle.loader.specs.CatalogueView.{CatalogueView}
use Rattle.loader.specs.Installed.{InstalledView}
use Rattle.combiner.specs.Desks.{BatchView}
use Rattle.combiner.specs.declared.slots.Reply.{Reply}
use Rattle.replica.specs.StoreMeaning.{store_meaning}
use Rattle.replica.specs.Views.{RepliesView}
use Rattle.accounts.specs.Accounts.{Extends, IsWellFormed}
use Rattle.accounts.specs.declared.sessions.Pending.{Pending}
use Rattle.accounts.proofs.Export.{at_below, at_map, at_mapped, at_none, at_one, at_there}
use Rattle.store_steps.specs.declared.deeds.Deed.TheVariants.{Busy, Collected}
use Rattle.store_steps.specs.declared.deeds.Stage.{Stage}
use Rattle.store_steps.specs.declared.deeds.Stage.TheVariants.{Idle}
use Rattle.store_steps.specs.declared.pipelines.Member.{Member}
use Rattle.store_steps.specs.declared.polling_each.EachStage.{EachStage}
use Rattle.store_steps.specs.declared.polling_each.EachStage.TheVariants.{Claimed, Ready}
use Rattle.store_steps.specs.declared.steps.Caller.{Caller}
use Rattle.store_steps.specs.declared.steps.Question.{Question}
use Rattle.store_steps.specs.declared.steps.Shared.{Shared}
use Rattle.store_steps.specs.Asking.{asked_op}
use Rattle.store_steps.specs.EachMember.{LooksEach}
use Rattle.store_steps.specs.Pipelines.{AreMembers, HasLooked, spot_of}
use Rattle.store_steps.specs.Polling.{BeginsBy, DeedsGo, HasAskedFor, HasBegun}
use Rattle.store_steps.specs.PollingEach.{AreIdle, AreOn, AreOut, BeginsEach, CompletesEach, WaitsEach, stage_at}
use Rattle.store_steps.specs.Stages.{HasDone, HasGone, IsPolled}
use Rattle.store_steps.specs.Standing.{SessionKnown, StoreSeat}
use Rattle.store_steps.specs.Views.{IsIdle, SessionView, session_view}
use Rattle.store_steps.proofs.Export.{both, goes_seen, not_looked, seen_as, was_at}
use Rattle.replica.specs.declared.refusals.StoreRefused.{StoreRefused}
use Rattle.store.specs.declared.answers.Answer.{Answer}
use Rattle.store.specs.Opening.{AreOf}
use Rattle.store.specs.Pipelines.{AreJoined, EachGoesOn, OthersStay, views_of}
use Rattle.store.specs.PolledPipelines.{AreListed, AreWaiting, EachAsks, EachIsTold, EachLooks, IsTold, SetsFirst}
use Rattle.store.specs.Sessions.{HasRoom, IsOf, SessionGoesOn, StoreView, known_of, said}
use Rattle.store_laws.specs.Gone.{GoneOn}
use Rattle.store.proofs.Gone.{begin_goes, done_goes, visits_go}
use Rattle.store.proofs.AskedEach.{IsShared, at_replaced, at_taken, replaced_long, stays_behind}
use Rattle.store.proofs.Held.{HoldNothing}
use Rattle.store.proofs.Between.{goes_on, goes_still, known_at, on_at, well_at}

abbrev K : Type 0
K = SessionKnown

abbrev S : Type 0
S = StoreSeat

abbrev Said : Type 0
Said = Result Answer StoreRefused

abbrev view_of_member : Member → SessionView
view_of_member m = session_view m.seat

-- ---- which sessions wait

module _ (ms : List Member) (rooms : List InstalledView) (posted : ℕ) (b : BatchView) (kept : RepliesView) (stage : EachStage) (l : AreListed ms rooms posted b kept stage) where
  -- an element of the beginning stands there
  at_first : (n : ℕ) (xs : List Member) (j : ℕ) (m : Member) → j < n → At j m xs → At j m (take n xs)
  at_first zero xs j m lt at = absurd (omega (arith, lt))
  at_first (suc n) [] j m lt at = absurd (at_none j m at)
  at_first (suc n) (x ∷ xs) zero m lt at = at
  at_first (suc n) (x ∷ xs) (suc j) m lt at = at_first n xs j m (omega (arith, lt)) at

  polled_of : (j : ℕ) (m : Member) → j < posted → At j m ms → IsPolled m.seat m.caller b kept (stage_at stage j)
  polled_of j m lt at = (l.out (omega (arith, lt))).polled j m (at_first posted ms j m lt at)

  waits_at : (s : S) (caller : Caller) (stage : EachStage) (j : ℕ) → IsPolled s caller b kept (stage_at stage j)
      → (o : Pending) × ((session_view s).note.pending ≡ Some o)
  waits_at s caller stage (suc j) v = (v.1, ap (λ (z : SessionView). z.note.pending) (seen_as s v.0 v.2.is) ∙ v.2.pending)
  waits_at s caller Claimed zero v = (v.1, ap (λ (z : SessionView). z.note.pending) (seen_as s v.0 v.2.is) ∙ v.2.pending)
  waits_at s caller Ready zero v = (v.1, ap (λ (z : SessionView). z.note.pending) (seen_as s v.0 v.2.is) ∙ v.2.pending)

  pub are_waiting : AreWaiting posted (views_of ms)
  are_waiting j s at =
      let m = at_mapped view_of_member ms j s at in (
        λ lt. let w = waits_at m.0.seat m.0.caller stage j (polled_of j m.0 lt m.1) in (w.0, ap (λ (z : SessionView). z.note.pending) m.2 ∙ w.1),
        λ le. let i = l.idle j m.0 le m.1 in ap (λ (z : SessionView). z.note.pending) (m.2 ∙ seen_as m.0.seat i.known i.is) ∙ i.pending,
      )

  -- between two calls no session holds anything
  pub hold_nothing : HoldNothing ms
  hold_nothing j m at = ⊎_elim
      (λ lt. let v = known_at m.seat m.caller b kept (stage_at stage j) (polled_of j m lt at) in (v.0, v.1, v.3))
      (λ not. let i = l.idle j m (omega (arith, not)) at in (i.known, i.is, i.free.held))
      (cases_lt j posted)

  -- as many wait as the list has calls
  pub posted_is : (n : ℕ) → n ≤ length ms → AreWaiting n (views_of ms) → posted ≡ n
  posted_is n fits waiting = ⊎_elim
      (λ less.
      let m = at_there ms posted (omega (arith, less, fits)) in
      let at = at_map view_of_member ms posted m.0 m.1 in
      let w = (waiting posted (view_of_member m.0) at).0 less in
      absurd (none-some w.0 (sym ((are_waiting posted (view_of_member m.0) at).1 (omega arith)) ∙ w.1)))
      (λ not. ⊎_elim
      (λ more.
      let top = l.within in
      let m = at_there ms n (omega (arith, more, top)) in
      let at = at_map view_of_member ms n m.0 m.1 in
      let w = (are_waiting n (view_of_member m.0) at).0 more in
      absurd (none-some w.0 (sym ((waiting n (view_of_member m.0) at).1 (omega arith)) ∙ w.1)))
      (λ same. omega (arith, not, same))
      (cases_lt n posted))
      (cases_lt posted n)

  pub all_idle : posted ≡ 0 → AreJoined ms rooms
  all_idle none = record {
    idle = λ j m at. l.idle j m (omega (arith, none)) at;
    count = l.count;
    rooms_are = l.rooms_are;
    few = l.few;
    near = l.near;
    ascend = l.ascend;
  }

-- ---- what is asked of the sessions

module _ (store : StoreView) (shared : Shared) (is : IsShared store shared) (ms : List Member) (rooms : List InstalledView) (posted : ℕ) (b : BatchView) (kept : RepliesView) (stage : EachStage) (l : AreListed ms rooms posted b kept stage) (own : AreOf store (views_of ms)) where
  pub listed_of : (j : ℕ) (m : Member) → At j m ms → IsOf store (session_view m.seat)
  listed_of j m at = own j (session_view m.seat) (at_map view_of_member ms j m at)

  pub listed_members : AreMembers shared.shelf.now.id (take posted ms)
  listed_members = record {
    own = λ j m at. (listed_of j m (at_taken posted ms j m at)).shelf ∙ sym is.shelf;
    near = λ i j m n at there. l.near i j m n (at_taken posted ms i m at) (at_taken posted ms j n there);
  }

  pub listed_on : AreOn shared (take posted ms)
  listed_on j m at =
      let there = at_taken posted ms j m at in
      let v = (l.out (some j m at)).polled j m at in
      on_at m.seat m.caller b kept shared store (stage_at stage j) v (listed_of j m there) is.places is.nodes is.catalogue
    where
      some : (j : ℕ) (m : Member) → At j m (take posted ms) → 0 < posted
      some j m at = below posted ms j m at
        where
          below : (n : ℕ) (xs : List Member) (j : ℕ) (m : Member) → At j m (take n xs) → 0 < n
          below zero xs j m at = absurd (at_none j m at)
          below (suc n) xs j m at = omega arith

-- ---- what one session has done

-- the member goes on
pub record GoesOnAt (store : StoreView) (m o : Member) : Type 0 where
  pub caller : o.caller ≡ m.caller
  pub session : (session_view o.seat).session ≡ (session_view m.seat).session
  pub shapes : (r : InstalledView) → HasRoom r m.seat → HasRoom r o.seat
  pub goes_on : SessionGoesOn store (session_view m.seat) (session_view o.seat)

on_by : (store : StoreView) (m o : Member) → spot_of o ≡ spot_of m → IsOf store (session_view m.seat)
    → (session_view o.seat).session ≡ (session_view m.seat).session
    → Extends (session_view m.seat).progress (session_view o.seat).progress
    → IsWellFormed store_meaning (session_view o.seat).progress
    → GoneOn (known_of (session_view m.seat)) (known_of (session_view o.seat)) → GoesOnAt store m o
on_by store m o spot own session extends well gone = record {
  caller = ap (λ z. z.0) spot;
  session = session;
  shapes = λ r has. (has.0 ∙ ap (λ (x : CatalogueView). x.shapes) extends.catalogue, has.1 ∙ ap (λ (x : CatalogueView). x.long) extends.catalogue, has.2);
  goes_on = goes_on store (session_view m.seat) (session_view m.seat) (session_view o.seat) refl own (ap (λ z. z.1) spot) session extends well gone;
}

-- it only looked
module _ (store : StoreView) (m o : Member) (i : IsIdle m.seat m.caller) (f : K) (is : IsSession o.seat f) (h : HasLooked i.known f) where
  pub looked_seen : HasLooked (known_of (session_view m.seat)) (known_of (session_view o.seat))
  looked_seen = goes_seen HasLooked m.seat o.seat (session_view m.seat) i.known f i.is i.free.held refl is (h.held ∙ i.free.held) h

  pub looked_on : spot_of o ≡ spot_of m → IsOf store (session_view m.seat) → GoesOnAt store m o
  looked_on spot own = on_by store m o spot own
      (both m.seat o.seat i.known f i.is is (λ x y. y.session ≡ x.session) h.session)
      (both m.seat o.seat i.known f i.is is (λ x y. Extends x.progress y.progress) h.extends)
      (both m.seat o.seat i.known f i.is is (λ x y. IsWellFormed store_meaning y.progress) (h.well_formed i.well_formed))
      (visits_go _ _ looked_seen.visits)

-- it has gone on with its update
module _ (m o : Member) (c : BatchView) (now : RepliesView) (next : Stage) where
  pub waits_seen : (o1 : Pending) → HasGone DeedsGo m.seat o.seat m.caller c now next Busy
      → IsTold (session_view m.seat) (session_view o.seat) o1 None
  waits_seen o1 g = (g.done, g.goes)

  pub told_seen : (o1 : Pending) (reply : Reply) → (session_view m.seat).note.pending ≡ Some o1
      → HasGone DeedsGo m.seat o.seat m.caller c now next (Collected reply)
      → IsTold (session_view m.seat) (session_view o.seat) o1 (Some (said reply))
  told_seen o1 reply is g = let e = same_Some g.request o1 (sym g.waited ∙ is) in ((reply, refl, subst (λ z. TellsDoneOf z) e g.done), (reply, refl, g.goes))
    where
      TellsDoneOf : Pending → Type 0
      TellsDoneOf z = HasDone (session_view m.seat) (session_view o.seat) z (Collected reply)

-- ---- the whole list

module _ (store : StoreView) (ms : List Member) (rooms : List InstalledView) (posted : ℕ) (b : BatchView) (kept : RepliesView) (stage : EachStage) (l : AreListed ms rooms posted b kept stage) (own : AreOf store (views_of ms)) (n : ℕ) (fits : n ≤ length ms) (all new : List Member) (sets : SetsFirst n ms all new)
    (each : (j : ℕ) (m o : Member) → At j m (take n ms) → At j o new → GoesOnAt store m o) where
  -- which member it was: it went on, or is as it was
  abbrev pub WasFirst : ℕ → Member → Member → Type 0
  WasFirst j m o = (j < n) × At j m (take n ms) × At j o new

  pub listed_origin : (j : ℕ) (o : Member) → At j o all
      → (m : Member) × At j m ms × (WasFirst j m o ⊎ ((n ≤ j) × (o ≡ m)))
  listed_origin j o at = ⊎_elim
      (λ h. let w = was_at (take n ms) new sets.same j o h.1 in (w.0, at_taken n ms j w.0 w.1, inl (h.0, w.1, h.1)))
      (λ h. (o, h.1, inr (h.0, refl)))
      (at_replaced n new ms j o sets.long fits (subst (λ z. At j o z) sets.is at))

  pub listed_size : length all ≡ length ms
  listed_size = ap length sets.is ∙ replaced_long n new ms sets.long fits

  pub listed_first : take n all ≡ new
  listed_first = ap (take n) sets.is ∙ (ap (λ k. take k (new ++ drop n ms)) (sym sets.long) ∙ take-append_seam new (drop n ms))

  on_of : (j : ℕ) (m o : Member) → (WasFirst j m o ⊎ ((n ≤ j) × (o ≡ m)))
      → (o.caller ≡ m.caller) × ((session_view o.seat).session ≡ (session_view m.seat).session)
  on_of j m o w = ⊎_elim (λ a. let g = each j m o a.1 a.2 in (g.caller, g.session)) (λ e. (ap (λ (z : Member). z.caller) e.1, ap (λ (z : Member). (session_view z.seat).session) e.1)) w

  known_of_member : (j : ℕ) (m : Member) → At j m ms → (k : K) × IsSession m.seat k
  known_of_member j m at = ⊎_elim
      (λ lt. let v = known_at m.seat m.caller b kept (stage_at stage j) (polled_of ms rooms posted b kept stage l j m lt at) in (v.0, v.1))
      (λ not. let i = l.idle j m (omega (arith, not)) at in (i.known, i.is))
      (cases_lt j posted)

  pub still_listed : (count : ℕ) (c : BatchView) (now : RepliesView) (next : EachStage) → count ≤ length ms
      → (0 < count → AreOut (take count all) c now next)
      → ((j : ℕ) (o : Member) → count ≤ j → At j o all → IsIdle o.seat o.caller) → AreListed all rooms count c now next
  still_listed count c now next within out idle = record {
    out = out;
    idle = idle;
    within = let size = listed_size in omega (arith, within, size);
    count = l.count ∙ sym listed_size;
    rooms_are = λ j o r at there. let w = listed_origin j o at in let had = l.rooms_are j w.0 r w.1 there in ⊎_elim (λ a. (each j w.0 o a.1 a.2).shapes r had) (λ e. subst (λ (z : Member). HasRoom r z.seat) (sym e.1) had) w.2;
    few = let few = l.few in let size = listed_size in omega (arith, few, size);
    near = λ i j o p at there.
        let v = listed_origin i o at in
        let w = listed_origin j p there in
        ap (λ (z : Caller). z.node) (on_of i v.0 o v.2).0 ∙ (l.near i j v.0 w.0 v.1 w.1 ∙ ap (λ (z : Caller). z.node) (sym (on_of j w.0 p w.2).0));
    ascend = λ i j f g lt a d.
        let v = listed_origin i a.0 a.1 in
        let w = listed_origin j d.0 d.1 in
        let x = known_of_member i v.0 v.1 in
        let y = known_of_member j w.0 w.1 in
        let up = l.ascend i j x.0 y.0 lt (v.0, v.1, x.1) (w.0, w.1, y.1) in
        let e = ap (λ (z : SessionView). z.session) (sym (seen_as a.0.seat f a.2)) ∙ ((on_of i v.0 a.0 v.2).1 ∙ ap (λ (z : SessionView). z.session) (seen_as v.0.seat x.0 x.1)) in
        let h = ap (λ (z : SessionView). z.session) (sym (seen_as d.0.seat g d.2)) ∙ ((on_of j w.0 d.0 w.2).1 ∙ ap (λ (z : SessionView). z.session) (seen_as w.0.seat y.0 y.1)) in
        omega (arith, up, e, h);
  }

  still_at : (j : ℕ) (m : Member) → At j m ms → SessionGoesOn store (session_view m.seat) (session_view m.seat)
  still_at j m at =
      let k = known_of_member j m at in
      goes_still store (session_view m.seat) (session_view m.seat) refl (own j (session_view m.seat) (at_map view_of_member ms j m at)) (well j m at)
    where
      well : (j : ℕ) (m : Member) → At j m ms → IsWellFormed store_meaning (session_view m.seat).progress
      well j m at = ⊎_elim
          (λ lt. well_at m.seat m.caller b kept (stage_at stage j) (polled_of ms rooms posted b kept stage l j m lt at))
          (λ not. let i = l.idle j m (omega (arith, not)) at in subst (λ (z : SessionView). IsWellFormed store_meaning z.progress) (sym (seen_as m.seat i.known i.is)) i.well_formed)
          (cases_lt j posted)

  -- by two sessions as they are seen
  pub listed_views : (P : ℕ → SessionView → SessionView → Type 0)
      → ((j : ℕ) (m o : Member) → At j m ms → At j o all → (WasFirst j m o ⊎ ((n ≤ j) × (o ≡ m))) → P j (session_view m.seat) (session_view o.seat))
      → (j : ℕ) (s t : SessionView) → At j s (views_of ms) → At j t (views_of all) → P j s t
  listed_views P give j s t at there =
      let m = at_mapped view_of_member ms j s at in
      let o = at_mapped view_of_member all j t there in
      let w = listed_origin j o.0 o.1 in
      subst (λ (z : SessionView × SessionView). P j z.0 z.1) (λ i. ((sym m.2) i, (sym o.2) i)) (give j m.0 o.0 m.1 o.1 (subst (λ z. WasFirst j z o.0 ⊎ ((n ≤ j) × (o.0 ≡ z))) (at_one ms j w.0 m.0 w.1 m.1) w.2))

  pub listed_goes_on : EachGoesOn store (views_of ms) (views_of all)
  listed_goes_on = (
    length-map all view_of_member ∙ (listed_size ∙ sym (length-map ms view_of_member)),
    listed_views (λ j s t. SessionGoesOn store s t) (λ j m o at there w. ⊎_elim (λ a. (each j m o a.1 a.2).goes_on) (λ e. subst (λ (z : Member). SessionGoesOn store (session_view m.seat) (session_view z.seat)) (sym e.1) (still_at j m at)) w),
  )

  pub listed_others : OthersStay n (views_of ms) (views_of all)
  listed_others j s far at =
      let m = at_mapped view_of_member ms j s at in
      subst (λ z. At j z (views_of all)) (sym m.2) (at_map view_of_member all j m.0 (subst (λ z. At j m.0 z) (sym sets.is) (stays_behind n new ms j m.0 sets.long far m.1)))

-- ---- what each call tells

module _ (store : StoreView) (ms : List Member) (rooms : List InstalledView) (posted : ℕ) (b : BatchView) (kept : RepliesView) (stage : EachStage) (l : AreListed ms rooms posted b kept stage) (own : AreOf store (views_of ms)) (n : ℕ) (fits : n ≤ length ms) (all new : List Member) (sets : SetsFirst n ms all new) where
  mine : (j : ℕ) (m : Member) → At j m ms → IsOf store (session_view m.seat)
  mine j m at = own j (session_view m.seat) (at_map view_of_member ms j m at)

  spot_at : (j : ℕ) (m o : Member) → At j m (take n ms) → At j o new → spot_of o ≡ spot_of m
  spot_at j m o at_m at_o = let w = was_at (take n ms) new sets.same j o at_o in w.2 ∙ ap spot_of (at_one (take n ms) j w.0 m w.1 at_m)

  -- none was out, and the first ones have looked
  module _ (none : posted ≡ 0) (looks : LooksEach (take n ms) new) where
    idle_of : (j : ℕ) (m : Member) → At j m (take n ms) → IsIdle m.seat m.caller
    idle_of j m at = l.idle j m (omega (arith, none)) (at_taken n ms j m at)

    look_at : (j : ℕ) (m o : Member) (at : At j m (take n ms)) → At j o new
        → (f : K) × IsSession o.seat f × HasLooked (idle_of j m at).known f
    look_at j m o at_m at_o =
        let i = idle_of j m at_m in
        let f = looks j i.known (m, at_m, i.is) in
        (f.0, subst (λ (z : Member). IsSession z.seat f.0) (at_one new j f.1.0 o f.1.1 at_o) f.1.2, f.2)

    pub each_looked : (j : ℕ) (m o : Member) → At j m (take n ms) → At j o new → GoesOnAt store m o
    each_looked j m o at_m at_o =
        let f = look_at j m o at_m at_o in
        looked_on store m o (idle_of j m at_m) f.0 f.1 f.2 (spot_at j m o at_m at_o) (mine j m (at_taken n ms j m at_m))

    pub still_looked : AreIdle new → (count : ℕ) → count ≡ 0 → (c : BatchView) (now : RepliesView) (next : EachStage)
        → AreListed all rooms count c now next
    still_looked idle count zeroed c now next =
        still_listed store ms rooms posted b kept stage l own n fits all new sets each_looked count c now next (omega (arith, zeroed)) (λ some. absurd (omega (arith, some, zeroed)))
        (λ j o le at.
        let w = listed_origin store ms rooms posted b kept stage l own n fits all new sets each_looked j o at in
        ⊎_elim (λ a. idle j o a.2) (λ e. subst (λ (z : Member). IsIdle z.seat z.caller) (sym e.1) (l.idle j w.0 (omega (arith, none)) w.1)) w.2)

    pub tells_looked : EachLooks (views_of ms) (views_of all)
    tells_looked = listed_views store ms rooms posted b kept stage l own n fits all new sets each_looked (λ j s t. HasLooked (known_of s) (known_of t))
        (λ j m o at there w. ⊎_elim
        (λ a. let f = look_at j m o a.1 a.2 in looked_seen store m o (idle_of j m a.1) f.0 f.1 f.2)
        (λ e.
        let i = l.idle j m (omega (arith, none)) at in
        subst (λ (z : Member). HasLooked (known_of (session_view m.seat)) (known_of (session_view z.seat))) (sym e.1) (looked_seen store m m i i.known i.is (not_looked i.known)))
        w)

  -- none was out, and the first ones have posted
  module _ (none : posted ≡ 0) (calls : List Question) (count : n ≡ length calls) (c : BatchView) (now : RepliesView) (next : EachStage) (begins : BeginsEach (take n ms) new calls c now next) where
    began : (j : ℕ) (m o : Member) → At j m (take n ms) → At j o new
        → (q : Question) × At j q calls × HasBegun m.seat o.seat m.caller (asked_op q) c now (stage_at next j)
    began j m o at_m at_o =
        let below = at_below new j o at_o in
        let long = sets.long in
        let q = at_there calls j (omega (arith, below, long, count)) in
        (q.0, q.1, begins j m o q.0 at_m at_o q.1)

    pub each_began : (j : ℕ) (m o : Member) → At j m (take n ms) → At j o new → GoesOnAt store m o
    each_began j m o at_m at_o =
        let d = (began j m o at_m at_o).2 in
        on_by store m o (spot_at j m o at_m at_o) (mine j m (at_taken n ms j m at_m)) d.session d.extends d.well_formed (begin_goes _ _ _ d.goes)

    pub still_began : AreOut new c now next → (after : ℕ) → after ≡ n → AreListed all rooms after c now next
    still_began out after is =
        still_listed store ms rooms posted b kept stage l own n fits all new sets each_began after c now next (omega (arith, is, fits))
        (λ some. subst (λ z. AreOut z c now next) (sym (ap (λ k. take k all) is ∙ listed_first store ms rooms posted b kept stage l own n fits all new sets each_began)) out)
        (λ j o le at.
        let w = listed_origin store ms rooms posted b kept stage l own n fits all new sets each_began j o at in
        ⊎_elim (λ a. let lt = a.0 in absurd (omega (arith, le, is, lt))) (λ e. subst (λ (z : Member). IsIdle z.seat z.caller) (sym e.1) (l.idle j w.0 (omega (arith, none)) w.1)) w.2)

    pub tells_began : EachAsks (views_of ms) (views_of all) calls
    tells_began j s t q at there at_q =
        listed_views store ms rooms posted b kept stage l own n fits all new sets each_began (λ j s t. At j q calls → HasAskedFor s t (asked_op q) × BeginsBy (known_of s) (known_of t) (asked_op q))
        (λ j m o at there w at_q. ⊎_elim
        (λ a.
        let d = begins j m o q a.1 a.2 at_q in
        (d.asked, d.goes))
        (λ e. let below = at_below calls j q at_q in let far = e.0 in absurd (omega (arith, below, far, count)))
        w) j s t at there at_q

  -- so many were out
  module _ (count : posted ≡ n) (c : BatchView) (now : RepliesView) where
    module _ (next : EachStage) (waits : WaitsEach (take n ms) new c now next) where
      pub each_waits : (j : ℕ) (m o : Member) → At j m (take n ms) → At j o new → GoesOnAt store m o
      each_waits j m o at_m at_o = let d = waits j m o at_m at_o in on_by store m o (spot_at j m o at_m at_o) (mine j m (at_taken n ms j m at_m)) d.session d.extends d.well_formed (done_goes _ _ Busy d.goes)

      pub still_waits : AreOut new c now next → (after : ℕ) → after ≡ posted → AreListed all rooms after c now next
      still_waits out after is =
          still_listed store ms rooms posted b kept stage l own n fits all new sets each_waits after c now next (omega (arith, is, count, fits))
          (λ some. subst (λ z. AreOut z c now next) (sym (ap (λ k. take k all) (is ∙ count) ∙ listed_first store ms rooms posted b kept stage l own n fits all new sets each_waits)) out)
          (λ j o le at.
          let w = listed_origin store ms rooms posted b kept stage l own n fits all new sets each_waits j o at in
          ⊎_elim (λ a. let lt = a.0 in absurd (omega (arith, le, is, count, lt))) (λ e. let far = e.0 in subst (λ (z : Member). IsIdle z.seat z.caller) (sym e.1) (l.idle j w.0 (omega (arith, far, count)) w.1)) w.2)

      pub tells_waits : (answers : List Said) → EachIsTold {A = Unit {0}} (views_of ms) (views_of all) answers None
      tells_waits answers j s t o1 at there is =
          listed_views store ms rooms posted b kept stage l own n fits all new sets each_waits (λ j s t. s.note.pending ≡ Some o1 → IsTold s t o1 None)
          (λ j m o at there w is. ⊎_elim
          (λ a. waits_seen m o c now (stage_at next j) o1 (waits j m o a.1 a.2))
          (λ e. let far = e.0 in let i = l.idle j m (omega (arith, far, count)) at in absurd (none-some o1 (sym (ap (λ (z : SessionView). z.note.pending) (seen_as m.seat i.known i.is) ∙ i.pending) ∙ is)))
          w) j s t at there is

    module _ (replies : List Reply) (completes : CompletesEach (take n ms) new c now replies) where
      pub each_completes : (j : ℕ) (m o : Member) → At j m (take n ms) → At j o new → GoesOnAt store m o
      each_completes j m o at_m at_o = let d = completes j m o at_m at_o in on_by store m o (spot_at j m o at_m at_o) (mine j m (at_taken n ms j m at_m)) d.2.session d.2.extends d.2.well_formed (done_goes _ _ (Collected d.0) d.2.goes)

      pub idle_then : (j : ℕ) (o : Member) → At j o all → IsIdle o.seat o.caller
      idle_then j o at =
          let w = listed_origin store ms rooms posted b kept stage l own n fits all new sets each_completes j o at in
          ⊎_elim
          (λ a. let d = (completes j w.0 o a.1 a.2).2 in subst (λ z. IsIdle o.seat z) (sym (ap (λ z. z.0) (spot_at j w.0 o a.1 a.2))) d.polled)
          (λ e. let far = e.0 in subst (λ (z : Member). IsIdle z.seat z.caller) (sym e.1) (l.idle j w.0 (omega (arith, far, count)) w.1))
          w.2

      pub still_completed : (after : ℕ) → after ≡ 0 → (x : BatchView) (y : RepliesView) (next : EachStage)
          → AreListed all rooms after x y next
      still_completed after is x y next =
          still_listed store ms rooms posted b kept stage l own n fits all new sets each_completes after x y next (omega (arith, is)) (λ some. absurd (omega (arith, some, is))) (λ j o le at. idle_then j o at)

      pub tells_completes : EachIsTold {A = Unit {0}} (views_of ms) (views_of all) (map said replies) (Some tt)
      tells_completes j s t o1 at there is =
          listed_views store ms rooms posted b kept stage l own n fits all new sets each_completes (λ j s t. s.note.pending ≡ Some o1 → (a : Said) × At j a (map said replies) × IsTold s t o1 (Some a))
          (λ j m o at there w is. ⊎_elim
          (λ a.
          let d = completes j m o a.1 a.2 in
          (said d.0, at_map said replies j d.0 d.1, told_seen m o c now Idle o1 d.0 is d.2))
          (λ e. let far = e.0 in let i = l.idle j m (omega (arith, far, count)) at in absurd (none-some o1 (sym (ap (λ (z : SessionView). z.note.pending) (seen_as m.seat i.known i.is) ∙ i.pending) ∙ is)))
          w) j s t at there is

-- ---- a list that is new

pub listed_new : (ms : List Member) (rooms : List InstalledView) (b : BatchView) (kept : RepliesView) (stage : EachStage)
    → AreJoined ms rooms → AreListed ms rooms 0 b kept stage
listed_new ms rooms b kept stage j = record {
  out = λ lt. absurd (omega (arith, lt));
  idle = λ i m le at. j.idle i m at;
  within = omega arith;
  count = j.count;
  rooms_are = j.rooms_are;
  few = j.few;
  near = j.near;
  ascend = j.ascend;
}
