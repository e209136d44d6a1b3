-- The updates that the sessions of a pipeline make at once.
use Rattle.std.proofs.Common.{◌≡◌, ℕ, zero, suc, ◌+◌, ◌<◌, ◌≤◌, List, [], ◌∷◌, ◌++◌, length, map, take, drop, ◌⊎◌, inl, inr, Result, Ok, Err, sym, refl, ap, ◌∙◌, subst, arith, ⊎_elim}
use Rattle.std.proofs.lemmas.List.{length-map}
use Rattle.std.proofs.Math.Seq.{take-append_seam}
use Rattle.std.specs.Prelude.{slice_index_or, slice_set}
use Rattle.ownlock.specs.Seats.{At, IsSession}
use Rattle.loader.specs.CatalogueView.{CatalogueView}
use Rattle.loader.specs.Installed.{InstalledView}
use Rattle.oplog.specs.declared.configuration.Sizes.{Sizes}
use Rattle.oplog.specs.declared.configuration.TheConstants.{MAX_NODES, MAX_NODE_SLOTS}
use Rattle.oplog.specs.Limits.{AreSizes}
use Rattle.oplog.specs.Operations.{Operation}
use Rattle.combiner.specs.declared.slots.Reply.{Reply}
use Rattle.combiner.specs.declared.slots.Reply.TheVariants.{Ended, Placed}
use Rattle.accounts.proofs.Export.{at_below, at_map, at_mapped, at_none, at_one, at_there}
use Rattle.replica.specs.StoreMeaning.{store_meaning}
use Rattle.accounts.specs.Accounts.{Extends, IsWellFormed}
use Rattle.replica.specs.declared.refusals.StoreRefused.{StoreRefused}
use Rattle.store_steps.specs.declared.pipelines.Member.{Member}
use Rattle.store_steps.specs.declared.steps.Caller.{Caller}
use Rattle.store_steps.specs.declared.steps.Question.{Question}
use Rattle.store_steps.specs.declared.steps.Shared.{Shared}
use Rattle.store_steps.specs.Asking.{asked_op}
use Rattle.store_steps.specs.AtOnce.{MayAsk}
use Rattle.store_steps.specs.EachMember.{AscendEach, AsksEach, AsksFor, InOrder}
use Rattle.store_steps.specs.Pipelines.{AreMembers, HasLooked, KnownAt, MayAskAt, SameSpots, spot_of}
use Rattle.store_steps.specs.Standing.{SessionKnown}
use Rattle.store_steps.specs.Updating.{UpdatesBy}
use Rattle.store_steps.specs.Views.{IsIdle, SessionView, session_view}
use Rattle.store_steps.proofs.Export.{goes_seen, seen_as, view_known, was_at}
use Rattle.store.specs.declared.answers.Answer.{Answer}
use Rattle.store.specs.Opening.{AreOf}
use Rattle.store.specs.Pipelines.{AreInOrder, AreJoined, EachGoes, EachGoesOn, LooksAndUpdates, LooksPostsCollects, OthersStay, TellsEach, views_of}
use Rattle.store.specs.Sessions.{HasRoom, IsOf, SessionGoesOn, StoreView, TellsUpdate, said, HasNodes}
use Rattle.store.proofs.Between.{goes_still}
use Rattle.store.proofs.Gone.{gone_then, update_goes, visits_go}
use Rattle.store.proofs.Invoked.{Invoked, goes_on, has_grown, invoked, is_idle, may_ask, tells_update}

abbrev K : Type 0
K = SessionKnown

abbrev Said : Type 0
Said = Result Answer StoreRefused

-- ---- what is asked of the sessions

-- what a store gives its sessions
pub record IsShared (store : StoreView) (shared : Shared) : Type 0 where
  pub shelf : shared.shelf.now.id ≡ store.id
  pub places : shared.shelf.now.places ≡ 1 + store.config.nodes + store.config.nodes
  pub nodes : HasNodes shared store
  pub config : AreSizes store.config
  pub catalogue : shared.catalogue.now ≡ store.catalogue

module _ (store : StoreView) (shared : Shared) (is : IsShared store shared) (ms : List Member) (rooms : List InstalledView) (joined : AreJoined ms rooms) (own : AreOf store (views_of ms)) where
  -- a member's session is one of the store
  pub of_store : (j : ℕ) (m : Member) → At j m ms → IsOf store (session_view m.seat)
  of_store j m at = own j (session_view m.seat) (at_map (λ (z : Member). session_view z.seat) ms j m at)

  config_is : (j : ℕ) (m : Member) → (at : At j m ms) → (joined.idle j m at).known.progress.config ≡ store.config
  config_is j m at = let i = joined.idle j m at in ap (λ (z : SessionView). z.progress.config) (sym (seen_as m.seat i.known i.is)) ∙ (of_store j m at).config

  may : (j : ℕ) (m : Member) → At j m ms → MayAsk m.seat m.caller shared
  may j m at =
      let i = joined.idle j m at in
      let config = config_is j m at in (
        i.known,
        i.is,
        i.free,
        may_ask i.known store.config config is.config (i.pending, i.unread) i.batch i.within i.well_formed,
        record {
          places_are = is.places ∙ ap (λ n. 1 + n + n) (sym is.nodes.0);
          few = subst (λ n. n ≤ MAX_NODES) (sym is.nodes.0) is.nodes.1;
          nodes_are = ap (λ (z : Sizes). z.nodes) config ∙ sym is.nodes.0;
          slots_are = (
            ap (λ (z : Sizes). z.slots) config
                ∙ sym is.nodes.2,
            subst (λ n. n ≤ MAX_NODE_SLOTS) (sym is.nodes.2) is.nodes.3,
          );
          catalogue_is = ap (λ (z : SessionView). z.progress.catalogue) (sym (seen_as m.seat i.known i.is)) ∙ ((of_store j m at).catalogue ∙ sym is.catalogue);
        },
      )

  -- those of them that are asked
  module _ (asked : List Member) (among : (j : ℕ) (m : Member) → At j m asked → At j m ms) where
    pub asked_members : AreMembers shared.shelf.now.id asked
    asked_members = record {
      own = λ j m at. (of_store j m (among j m at)).shelf ∙ sym is.shelf;
      near = λ i j m n at there. joined.near i j m n (among i m at) (among j n there);
    }

    pub asked_may : (j : ℕ) → MayAskAt shared asked j
    asked_may j m at = may j m (among j m at)

    pub asked_ascend : AscendEach asked
    asked_ascend i j f g lt a b = joined.ascend i j f g lt (a.0, among i a.0 a.1, a.2) (b.0, among j b.0 b.1, b.2)

-- the sessions of a store's first members
pub shared_of : (store : StoreView) (shared : Shared) → shared.shelf.now.id ≡ store.id
    → shared.shelf.now.places ≡ 1 + store.config.nodes + store.config.nodes
    → HasNodes shared store → AreSizes store.config
    → shared.catalogue.now ≡ store.catalogue → IsShared store shared
shared_of store shared shelf places nodes config catalogue = record { shelf = shelf; places = places; nodes = nodes; config = config; catalogue = catalogue }

-- ---- what one of them has done

-- the member is idle again, and its session has performed the operation
pub record HasUpdated (store : StoreView) (j : ℕ) (m n : Member) (op : Operation) (reply : Reply) : Type 0 where
  pub caller : n.caller ≡ m.caller
  pub idle : IsIdle n.seat n.caller
  pub shapes : (r : InstalledView) → HasRoom r m.seat → HasRoom r n.seat
  pub session : (session_view n.seat).session ≡ (session_view m.seat).session
  pub goes_on : SessionGoesOn store (session_view m.seat) (session_view n.seat)
  pub tells : TellsUpdate (session_view m.seat) (session_view n.seat) op (said reply)
  pub goes : LooksAndUpdates (session_view m.seat) (session_view n.seat) op (said reply)
  pub alone : 0 < j → LooksPostsCollects (session_view m.seat) (session_view n.seat) op (said reply)

pub has_updated : (store : StoreView) (m n : Member) (op : Operation) (reply : Reply) (new : List Member) (j : ℕ)
    → At j n new → spot_of n ≡ spot_of m → (i : IsIdle m.seat m.caller) → IsOf store (session_view m.seat)
    → AsksFor new j i.known op reply → HasUpdated store j m n op reply
has_updated store m n op reply new j at spot i own a = record {
  caller = ap (λ z. z.0) spot;
  idle = subst (λ c. IsIdle n.seat c) (sym (ap (λ z. z.0) spot)) (is_idle k f op reply v m.seat n.seat m.caller i refl there);
  shapes = λ r has. (has.0 ∙ ap (λ (x : CatalogueView). x.shapes) grown.catalogue, has.1 ∙ ap (λ (x : CatalogueView). x.long) grown.catalogue, has.2);
  session = ap (λ (z : SessionView). z.session) now ∙ (v.session ∙ ap (λ (z : SessionView). z.session) (sym was));
  goes_on = goes_on store (session_view m.seat) (session_view n.seat) m.seat.shelf n.seat.shelf k f op reply v was now own (ap (λ z. z.1) spot) (gone_then _ goes.0 _ (visits_go _ _ goes.1.visits) (update_goes _ _ op _ goes.2.2));
  tells = tells_update store (session_view m.seat) (session_view n.seat) m.seat.shelf n.seat.shelf k f op reply v was now i.pending i.batch;
  goes = goes;
  alone = λ later. goes_seen (λ x y. (looked : K) × HasLooked x looked × ((r : Reply) × (said reply ≡ said r) × ((by : UpdatesBy looked y op r) × (by.completes.waited ≡ by.asked)))) m.seat n.seat (session_view m.seat) k f i.is i.free.held refl there v.held (a.looked, a.looks, (reply, refl, (a.goes, a.alone later)));
}
  where
    k : K
    k = i.known

    f : K
    f = a.after

    there : IsSession n.seat f
    there = subst (λ (z : Member). IsSession z.seat f) (at_one new j a.is.0 n a.is.1 at) a.is.2

    v : Invoked k f op reply
    v = invoked k a.asked f op reply a.posted a.completed

    was : session_view m.seat ≡ view_known m.seat.shelf k
    was = seen_as m.seat k i.is

    now : session_view n.seat ≡ view_known n.seat.shelf f
    now = seen_as n.seat f there

    goes : LooksAndUpdates (session_view m.seat) (session_view n.seat) op (said reply)
    goes = goes_seen (λ x y. (looked : K) × HasLooked x looked × ((r : Reply) × (said reply ≡ said r) × UpdatesBy looked y op r)) m.seat n.seat (session_view m.seat) k f i.is i.free.held refl there v.held (a.looked, a.looks, (reply, refl, a.goes))

    grown : Extends (session_view m.seat).progress (session_view n.seat).progress
    grown = has_grown store (session_view m.seat) (session_view n.seat) m.seat.shelf n.seat.shelf k f op reply v was now

-- ---- lists of which a beginning has changed

module _ {A : Type 0} where
  pub at_taken : (n : ℕ) (xs : List A) (j : ℕ) (a : A) → At j a (take n xs) → At j a xs
  at_taken zero xs j a at = absurd (at_none j a at)
  at_taken (suc n) [] j a at = absurd (at_none j a at)
  at_taken (suc n) (x ∷ xs) zero a at = at
  at_taken (suc n) (x ∷ xs) (suc j) a at = at_taken n xs j a at

  -- an element is of the beginning, or stands where it stood
  pub at_replaced : (n : ℕ) (new xs : List A) (j : ℕ) (a : A) → length new ≡ n → n ≤ length xs
      → At j a (new ++ drop n xs) → ((j < n) × At j a new) ⊎ ((n ≤ j) × At j a xs)
  at_replaced zero [] xs j a long fits at = inr (omega arith, at)
  at_replaced zero (y ∷ new) xs j a long fits at = absurd (omega (arith, long))
  at_replaced (suc n) [] xs j a long fits at = absurd (omega (arith, long))
  at_replaced (suc n) (y ∷ new) [] j a long fits at = absurd (omega (arith, fits))
  at_replaced (suc n) (y ∷ new) (x ∷ xs) zero a long fits at = inl (omega arith, at)
  at_replaced (suc n) (y ∷ new) (x ∷ xs) (suc j) a long fits at = ⊎_elim (λ h. let lt = h.0 in inl (omega (arith, lt), h.1)) (λ h. let le = h.0 in inr (omega (arith, le), h.1)) (at_replaced n new xs j a (omega (arith, long)) (omega (arith, fits)) at)

  pub stays_behind : (n : ℕ) (new xs : List A) (j : ℕ) (a : A) → length new ≡ n → n ≤ j → At j a xs
      → At j a (new ++ drop n xs)
  stays_behind zero [] xs j a long le at = at
  stays_behind zero (y ∷ new) xs j a long le at = absurd (omega (arith, long))
  stays_behind (suc n) [] xs j a long le at = absurd (omega (arith, long))
  stays_behind (suc n) (y ∷ new) [] j a long le at = absurd (at_none j a at)
  stays_behind (suc n) (y ∷ new) (x ∷ xs) zero a long le at = absurd (omega (arith, le))
  stays_behind (suc n) (y ∷ new) (x ∷ xs) (suc j) a long le at = stays_behind n new xs j a (omega (arith, long)) (omega (arith, le)) at

  -- a list that was lent whole, and written back
  pub lent_back : (n : ℕ) (lent xs : List A) → length lent ≡ n → take n (lent ++ drop (length lent) xs) ≡ lent
  lent_back n lent xs long = ap (λ m. take m (lent ++ drop (length lent) xs)) (sym long) ∙ take-append_seam lent (drop (length lent) xs)

  pub replaced_long : (n : ℕ) (new xs : List A) → length new ≡ n → n ≤ length xs → length (new ++ drop n xs) ≡ length xs
  replaced_long zero [] xs long fits = refl
  replaced_long zero (y ∷ new) xs long fits = absurd (omega (arith, long))
  replaced_long (suc n) [] xs long fits = absurd (omega (arith, long))
  replaced_long (suc n) (y ∷ new) [] long fits = absurd (omega (arith, fits))
  replaced_long (suc n) (y ∷ new) (x ∷ xs) long fits = let e = replaced_long n new xs (omega (arith, long)) (omega (arith, fits)) in omega (arith, e)

-- ---- what they say

abbrev reply_in : Said → Reply
reply_in (Ok a) = Placed a.index a.reply
reply_in (Err e) = Ended

reply_back : (reply : Reply) → reply_in (said reply) ≡ reply
reply_back (Placed i reply) = refl
reply_back Ended = refl

-- who says that there is an answer has been placed
placed_of : (replies : List Reply) (i : ℕ) (a : Answer) → At i (Ok a) (map said replies)
    → At i (Placed a.index a.reply) replies
placed_of replies i a at =
    let r = at_mapped said replies i (Ok a) at in
    subst (λ z. At i z replies) (sym (reply_back r.0) ∙ ap reply_in (sym r.2)) r.1

abbrev first_said : Said → List Said → Said
first_said d [] = d
first_said d (x ∷ xs) = x

abbrev other_said : List Said → List Said
other_said [] = []
other_said (x ∷ xs) = xs

-- one more reply is said
pub said_more : (n : ℕ) (xs : List Said) (rs : List Reply) (d : Reply) → length xs ≡ length rs → n < length rs
    → take n xs ≡ take n (map said rs)
    → take (suc n) (slice_set xs n (said (slice_index_or rs n d))) ≡ take (suc n) (map said rs)
said_more n xs [] d long lt is = absurd (omega (arith, lt))
said_more n [] (r ∷ rs) d long lt is = absurd (omega (arith, long))
said_more zero (x ∷ xs) (r ∷ rs) d long lt is = refl
said_more (suc n) (x ∷ xs) (r ∷ rs) d long lt is =
    λ i. first_said x (is i) ∷ said_more n xs rs d (omega (arith, long)) (omega (arith, lt)) (ap other_said is) i

pub said_long : (xs : List Said) (n : ℕ) (x : Said) → length (slice_set xs n x) ≡ length xs
said_long [] n x = refl
said_long (y ∷ xs) zero x = refl
said_long (y ∷ xs) (suc n) x = ap suc (said_long xs n x)

-- all are said
pub said_all : (n : ℕ) (xs : List Said) (rs : List Reply) → length xs ≡ length rs → n ≡ length rs
    → take n xs ≡ take n (map said rs) → xs ≡ map said rs
said_all zero [] [] long all is = refl
said_all zero [] (r ∷ rs) long all is = absurd (omega (arith, all))
said_all zero (x ∷ xs) rs long all is = absurd (omega (arith, all, long))
said_all (suc n) xs [] long all is = absurd (omega (arith, all))
said_all (suc n) [] (r ∷ rs) long all is = absurd (omega (arith, long))
said_all (suc n) (x ∷ xs) (r ∷ rs) long all is = λ i. first_said x (is i) ∷ said_all n xs rs (omega (arith, long)) (omega (arith, all)) (ap other_said is) i

pub are_in_order : (replies : List Reply) → InOrder replies → AreInOrder (map said replies)
are_in_order replies up i j a b lt at there = up i j a.index b.index a.reply b.reply lt (placed_of replies i a at) (placed_of replies j b there)

-- ---- the whole call

-- who does nothing goes on
pub stays_on : (store : StoreView) (ms : List Member) (rooms : List InstalledView) → AreJoined ms rooms
    → AreOf store (views_of ms) → EachGoesOn store (views_of ms) (views_of ms)
stays_on store ms rooms joined own = (refl, λ j s t at there. subst (SessionGoesOn store s) (at_one (views_of ms) j s t at there) (here j s at))
  where
    here : (j : ℕ) (s : SessionView) → At j s (views_of ms) → SessionGoesOn store s s
    here j s at =
        let m = at_mapped (λ (z : Member). session_view z.seat) ms j s at in
        let i = joined.idle j m.0 m.1 in
        goes_still store s s refl (own j s at) (subst (λ (z : SessionView). IsWellFormed store_meaning z.progress) (sym (m.2 ∙ seen_as m.0.seat i.known i.is)) i.well_formed)

module _ (store : StoreView) (ms : List Member) (rooms : List InstalledView) (joined : AreJoined ms rooms) (own : AreOf store (views_of ms)) (calls : List Question) (replies : List Reply) (new : List Member) (n : ℕ) (fits : n ≤ length ms) (count : n ≡ length calls) (long : length new ≡ n)
    (same : SameSpots (take n ms) new) (asks : AsksEach (take n ms) new calls replies) where
  abbrev pub now : List Member
  now = new ++ drop n ms

  -- a member that was asked
  pub record WasAsked (j : ℕ) (m o : Member) : Type 0 where
    pub q : Question
    pub at_q : At j q calls
    pub reply : Reply
    pub at_reply : At j reply replies
    pub updated : HasUpdated store j m o (asked_op q) reply

  was_asked : (j : ℕ) (o : Member) → j < n → At j o new → (m : Member) × At j m ms × WasAsked j m o
  was_asked j o lt at =
      let w = was_at (take n ms) new same j o at in
      let there = at_taken n ms j w.0 w.1 in
      let i = joined.idle j w.0 there in
      let q = at_there calls j (omega (arith, lt, count)) in
      let a = asks j i.known q.0 (w.0, w.1, i.is) q.1 in
      (w.0, there, record { q = q.0; at_q = q.1; reply = a.0; at_reply = a.1; updated = has_updated store w.0 o (asked_op q.0) a.0 new j at w.2 i (of_store_view j w.0 there) a.2 })
    where
      of_store_view : (j : ℕ) (m : Member) → At j m ms → IsOf store (session_view m.seat)
      of_store_view j m at = own j (session_view m.seat) (at_map (λ (z : Member). session_view z.seat) ms j m at)

  -- which member it was: it was asked, or is as it was
  pub origin : (j : ℕ) (o : Member) → At j o now → (m : Member) × At j m ms × (WasAsked j m o ⊎ ((n ≤ j) × (o ≡ m)))
  origin j o at = ⊎_elim (λ h. let w = was_asked j o h.0 h.1 in (w.0, w.1, inl w.2)) (λ h. (o, h.1, inr (h.0, refl))) (at_replaced n new ms j o long fits at)

  size : length now ≡ length ms
  size = replaced_long n new ms long fits

  caller_kept : (j : ℕ) (o : Member) → At j o now
      → (m : Member) × At j m ms × (o.caller ≡ m.caller) × ((session_view o.seat).session ≡ (session_view m.seat).session)
  caller_kept j o at = let w = origin j o at in let k = kept w.0 w.2 in (w.0, w.1, k.0, k.1)
    where
      kept : (m : Member) → (WasAsked j m o ⊎ ((n ≤ j) × (o ≡ m)))
          → (o.caller ≡ m.caller) × ((session_view o.seat).session ≡ (session_view m.seat).session)
      kept m w = ⊎_elim (λ a. (a.updated.caller, a.updated.session)) (λ e. (ap (λ (z : Member). z.caller) e.1, ap (λ (z : Member). (session_view z.seat).session) e.1)) w

  pub still_joined : AreJoined now rooms
  still_joined = record {
    idle = λ j o at. let w = origin j o at in ⊎_elim (λ a. a.updated.idle) (λ e. subst (λ (z : Member). IsIdle z.seat z.caller) (sym e.1) (joined.idle j w.0 w.1)) w.2;
    count = let rooms_long = joined.count in let kept = size in omega (arith, rooms_long, kept);
    rooms_are = λ j o r at there. let w = origin j o at in let had = joined.rooms_are j w.0 r w.1 there in ⊎_elim (λ a. a.updated.shapes r had) (λ e. subst (λ (z : Member). HasRoom r z.seat) (sym e.1) had) w.2;
    few = let few = joined.few in let kept = size in omega (arith, few, kept);
    near = λ i j o p at there. let v = caller_kept i o at in let w = caller_kept j p there in ap (λ (z : Caller). z.node) v.2 ∙ (joined.near i j v.0 w.0 v.1 w.1 ∙ ap (λ (z : Caller). z.node) (sym w.2));
    ascend = λ i j f g lt a b. let v = caller_kept i a.0 a.1 in let w = caller_kept j b.0 b.1 in lower i j f g lt a b v w;
  }
    where
      lower : (i j : ℕ) (f g : K) → i < j → (a : KnownAt now i f) → (b : KnownAt now j g)
          → ((m : Member) × At i m ms × (a.0.caller ≡ m.caller) × ((session_view a.0.seat).session ≡ (session_view m.seat).session))
          → ((m : Member) × At j m ms × (b.0.caller ≡ m.caller) × ((session_view b.0.seat).session ≡ (session_view m.seat).session))
          → f.session < g.session
      lower i j f g lt a b v w =
          let x = joined.idle i v.0 v.1 in
          let y = joined.idle j w.0 w.1 in
          let up = joined.ascend i j x.known y.known lt (v.0, v.1, x.is) (w.0, w.1, y.is) in
          let e = ap (λ (z : SessionView). z.session) (sym (seen_as a.0.seat f a.2)) ∙ (v.3 ∙ ap (λ (z : SessionView). z.session) (seen_as v.0.seat x.known x.is)) in
          let d = ap (λ (z : SessionView). z.session) (sym (seen_as b.0.seat g b.2)) ∙ (w.3 ∙ ap (λ (z : SessionView). z.session) (seen_as w.0.seat y.known y.is)) in
          omega (arith, up, e, d)

  -- by two sessions as they are seen
  pub of_views : (P : ℕ → SessionView → SessionView → Type 0)
      → ((j : ℕ) (m o : Member) → At j m ms → At j o now → (WasAsked j m o ⊎ ((n ≤ j) × (o ≡ m))) → P j (session_view m.seat) (session_view o.seat))
      → (j : ℕ) (s t : SessionView) → At j s (views_of ms) → At j t (views_of now) → P j s t
  of_views P each j s t at there =
      let m = at_mapped (λ (z : Member). session_view z.seat) ms j s at in
      let o = at_mapped (λ (z : Member). session_view z.seat) now j t there in
      let w = origin j o.0 o.1 in
      subst (λ (z : SessionView × SessionView). P j z.0 z.1) (λ i. ((sym m.2) i, (sym o.2) i)) (each j m.0 o.0 m.1 o.1 (subst (λ z. WasAsked j z o.0 ⊎ ((n ≤ j) × (o.0 ≡ z))) (at_one ms j w.0 m.0 w.1 m.1) w.2))

  pub each_goes_on : EachGoesOn store (views_of ms) (views_of now)
  each_goes_on = (
    length-map now (λ (z : Member). session_view z.seat) ∙ (size ∙ sym (length-map ms (λ (z : Member). session_view z.seat))),
    of_views (λ j s t. SessionGoesOn store s t) (λ j m o at there w. ⊎_elim (λ a. a.updated.goes_on) (λ e. subst (λ (z : Member). SessionGoesOn store (session_view m.seat) (session_view z.seat)) (sym e.1) ((stays_on store ms rooms joined own).1 j (session_view m.seat) (session_view m.seat) (at_map (λ (z : Member). session_view z.seat) ms j m at) (at_map (λ (z : Member). session_view z.seat) ms j m at))) w),
  )

  -- a session of a call's number was asked
  asked_for : (j : ℕ) (m o : Member) (q : Question) → At j q calls → (WasAsked j m o ⊎ ((n ≤ j) × (o ≡ m)))
      → (reply : Reply) × At j reply replies × HasUpdated store j m o (asked_op q) reply
  asked_for j m o q at_q w = ⊎_elim (λ a. (a.reply, a.at_reply, subst (λ z. HasUpdated store j m o (asked_op z) a.reply) (at_one calls j a.q q a.at_q at_q) a.updated)) (λ e. let below = at_below calls j q at_q in let far = e.0 in absurd (omega (arith, below, far, count))) w

  pub tells_each : TellsEach (views_of ms) (views_of now) calls (map said replies)
  tells_each j s t q at there at_q =
      of_views (λ j s t. At j q calls → (a : Said) × At j a (map said replies) × TellsUpdate s t (asked_op q) a)
      (λ j m o at there w at_q. let a = asked_for j m o q at_q w in (said a.0, at_map said replies j a.0 a.1, a.2.tells)) j s t at there at_q

  pub each_goes : EachGoes (views_of ms) (views_of now) calls (map said replies)
  each_goes j s t q a at there at_q at_a =
      of_views (λ j s t. At j q calls → At j a (map said replies) → LooksAndUpdates s t (asked_op q) a × (0 < j → LooksPostsCollects s t (asked_op q) a))
      (λ j m o at there w at_q at_a.
      let u = asked_for j m o q at_q w in
      let said_is = at_one (map said replies) j (said u.0) a (at_map said replies j u.0 u.1) at_a in (
        subst (λ z. LooksAndUpdates (session_view m.seat) (session_view o.seat) (asked_op q) z) said_is u.2.goes,
        λ later. subst (λ z. LooksPostsCollects (session_view m.seat) (session_view o.seat) (asked_op q) z) said_is (u.2.alone later),
      )) j s t at there at_q at_a

  pub others_stay : OthersStay (length calls) (views_of ms) (views_of now)
  others_stay j s far at =
      let m = at_mapped (λ (z : Member). session_view z.seat) ms j s at in
      subst (λ z. At j z (views_of now)) (sym m.2) (at_map (λ (z : Member). session_view z.seat) now j m.0 (stays_behind n new ms j m.0 long (omega (arith, far, count)) m.1))
