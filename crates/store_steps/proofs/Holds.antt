-- The sessions of a pipeline have their desk one right after the other.
use Rattle.std.proofs.Common.{◌≡◌, ℕ, zero, suc, ◌<◌, List, [], ◌∷◌, length, sym, ap, ◌∙◌, subst, arith}
use mathlib.Core.Option.{some-injective}
use Rattle.ownlock.specs.Seats.{At}
use Rattle.combiner.specs.Desks.{BatchView}
use Rattle.combiner.specs.declared.slots.Reply.{Reply}
use Rattle.replica.specs.Views.{RepliesView}
use Rattle.accounts.specs.declared.sessions.Pending.{Pending}
use Rattle.accounts.proofs.Export.{at_below, at_none, at_one, at_there}
use Rattle.store_steps.specs.declared.desks.Turn.TheVariants.{Collects, Combines as Claims}
use Rattle.store_steps.specs.declared.pipelines.Member.{Member}
use Rattle.store_steps.specs.declared.steps.Question.{Question}
use Rattle.store_steps.specs.Asking.{asked_op}
use Rattle.store_steps.specs.AtDesk.{HasAsked}
use Rattle.store_steps.specs.EachMember.{ClaimsAt}
use Rattle.store_steps.specs.Holds.{CollectsInOneHold, GoesOnAndCollects, PostsInOneHold, UpdatesInTwoHolds, session_at, with_first}
use Rattle.store_steps.specs.Pipelines.{CollectsAt, HasLooked, KnownAt, PostsAt}
use Rattle.store_steps.specs.Standing.{SessionKnown}
use Rattle.store_steps.specs.Updating.{CollectsBy, Deeds, PostsBy, TurnsBy}
use Rattle.store_steps.specs.Views.{first_in}
use Rattle.store_steps.specs.Visits.{TakesNext}
use Rattle.store_steps.specs.Whole.{HandsOver}

abbrev K : Type 0
K = SessionKnown

-- a member that is known is its session
pub known_session : (members : List Member) (j : ℕ) (k : K) → KnownAt members j k → session_at members j ≡ k
known_session [] j k known = absurd (at_none j known.0 known.1)
known_session (m ∷ ms) zero k known = ap (λ (z : Member). first_in z.seat.sessions) (some-injective m known.0 known.1) ∙ ap first_in known.2
known_session (m ∷ ms) (suc j) k known = known_session ms j k known

-- three sessions, by what they are
next_by : (a b c x y z : K) → a ≡ x → b ≡ y → c ≡ z → TakesNext x y z → TakesNext a b c
next_by a b c x y z p q r next = subst (λ (u : K × K × K). TakesNext u.0 u.1 u.2) (λ i. (sym p i, sym q i, sym r i)) next

-- ---- the sessions are others, which are the same

pub posts_as : (old new old2 new2 : ℕ → K) (calls : List Question) (batch : BatchView) → 0 < length calls → ((j : ℕ) → j < length calls → old2 j ≡ old j) → ((j : ℕ) → j < length calls → new2 j ≡ new j) → PostsInOneHold old new calls batch → PostsInOneHold old2 new2 calls batch
posts_as old new old2 new2 calls batch some was is p = record {
  first = p.first;
  posts = λ j q at. let lt = at_below calls j q at in subst (λ (u : K × K). PostsBy u.0 u.1 (asked_op q)) (λ i. (sym (was j lt) i, sym (firsts j lt) i)) (p.posts j q at);
  next = λ j lt. next_by (new2 (suc j)) (old2 j) (with_first p.first new2 j) (new (suc j)) (old j) (with_first p.first new j) (is (suc j) lt) (was j (omega (arith, lt))) (firsts j (omega (arith, lt))) (p.next j lt);
  claims = subst (λ z. TurnsBy p.first z batch Claims) (sym (is 0 some)) p.claims;
  again = subst (TakesNext p.first p.first) (sym (is 0 some)) p.again;
}
  where
    firsts : (j : ℕ) → j < length calls → with_first p.first new2 j ≡ with_first p.first new j
    firsts zero lt = λ i. p.first
    firsts (suc j) lt = is (suc j) lt

pub collects_as : (old new old2 new2 : ℕ → K) (batch : BatchView) (kept : RepliesView) (replies : List Reply) → 0 < length replies → ((j : ℕ) → j < length replies → old2 j ≡ old j) → ((j : ℕ) → j < length replies → new2 j ≡ new j) → CollectsInOneHold old new batch kept replies → CollectsInOneHold old2 new2 batch kept replies
collects_as old new old2 new2 batch kept replies some was is c = record {
  given = c.given;
  node = c.node;
  gives = subst (λ z. HandsOver c.node z c.given batch kept) (sym (was 0 some)) c.gives;
  collects = λ j r at. let lt = at_below replies j r at in subst (λ (u : K × K). CollectsBy u.0 u.1 r) (λ i. (sym (firsts j lt) i, sym (is j lt) i)) (c.collects j r at);
  again = subst (TakesNext c.given c.given) (sym (is 0 some)) c.again;
  next = λ j lt. next_by (new2 j) (old2 (suc j)) (new2 (suc j)) (new j) (old (suc j)) (new (suc j)) (is j (omega (arith, lt))) (was (suc j) lt) (is (suc j) lt) (c.next j lt);
}
  where
    firsts : (j : ℕ) → j < length replies → with_first c.given old2 j ≡ with_first c.given old j
    firsts zero lt = λ i. c.given
    firsts (suc j) lt = was (suc j) lt

pub goes_as : (old new old2 new2 : ℕ → K) (replies : List Reply) → 0 < length replies → ((j : ℕ) → j < length replies → old2 j ≡ old j) → ((j : ℕ) → j < length replies → new2 j ≡ new j) → GoesOnAndCollects old new replies → GoesOnAndCollects old2 new2 replies
goes_as old new old2 new2 replies some was is g = record {
  between = g.between;
  deeds = λ j lt. subst (λ z. Deeds z (g.between j)) (sym (was j lt)) (g.deeds j lt);
  batch = g.batch;
  kept = g.kept;
  collects = collects_as g.between new g.between new2 g.batch g.kept replies some (λ j lt i. g.between j) is g.collects;
}

pub updates_as : (old new old2 new2 : ℕ → K) (calls : List Question) (replies : List Reply) → 0 < length replies → ((j : ℕ) → j < length calls → old2 j ≡ old j) → ((j : ℕ) → j < length replies → new2 j ≡ new j) → UpdatesInTwoHolds old new calls replies → UpdatesInTwoHolds old2 new2 calls replies
updates_as old new old2 new2 calls replies some was is u = record {
  looked = u.looked;
  looks = λ j lt. subst (λ z. HasLooked z (u.looked j)) (sym (was j lt)) (u.looks j lt);
  posted = u.posted;
  batch = u.batch;
  posts = u.posts;
  answered = u.answered;
  node = u.node;
  kept = u.kept;
  answers = u.answers;
  collects = collects_as (with_first u.answered u.posted) new (with_first u.answered u.posted) new2 u.batch u.kept replies some (λ j lt i. with_first u.answered u.posted j) is u.collects;
}

-- ---- the first hold

module _ (old new : List Member) (calls : List Question) (batch : BatchView) (some : 0 < length calls) (known : (j : ℕ) → j < length calls → (k : K) × KnownAt old j k)
    (first : (k : K) (q : Question) → At 0 q calls → KnownAt old 0 k → ClaimsAt new k (asked_op q) batch)
    (others : (j : ℕ) (k : K) (q : Question) → 0 < j → At j q calls → KnownAt old j k → PostsAt new j k (asked_op q))
    (next_first : (k : K) (q : Question) (at : At 0 q calls) (is : KnownAt old 0 k) (b : K) → 1 < length calls → KnownAt new 1 b → TakesNext b k (first k q at is).asked)
    (next_other : (j : ℕ) (k a b : K) → 0 < j → suc j < length calls → KnownAt old j k → KnownAt new j a → KnownAt new (suc j) b → TakesNext b k a) where
  abbrev call_0 : (q : Question) × At 0 q calls
  call_0 = at_there calls 0 some

  abbrev known_0 : (k : K) × KnownAt old 0 k
  known_0 = known 0 some

  abbrev claims_0 : ClaimsAt new known_0.0 (asked_op call_0.0) batch
  claims_0 = first known_0.0 call_0.0 call_0.1 known_0.1

  abbrev later : (j : ℕ) → 0 < j → (lt : j < length calls) → PostsAt new j (known j lt).0 (asked_op (at_there calls j lt).0)
  later j up lt = others j (known j lt).0 (at_there calls j lt).0 up (at_there calls j lt).1 (known j lt).1

  was : (j : ℕ) (lt : j < length calls) → session_at old j ≡ (known j lt).0
  was j lt = known_session old j (known j lt).0 (known j lt).1

  is_later : (j : ℕ) (up : 0 < j) (lt : j < length calls) → session_at new j ≡ (later j up lt).0
  is_later j up lt = known_session new j (later j up lt).0 (later j up lt).1

  is_first : session_at new 0 ≡ claims_0.after
  is_first = known_session new 0 claims_0.after claims_0.is

  posts_at : (j : ℕ) (q : Question) → At j q calls → PostsBy (session_at old j) (with_first claims_0.asked (session_at new) j) (asked_op q)
  posts_at zero q at =
      subst (λ o. PostsBy (session_at old 0) claims_0.asked (asked_op o)) (at_one calls 0 call_0.0 q call_0.1 at) (subst (λ z. PostsBy z claims_0.asked (asked_op call_0.0)) (sym (was 0 some)) claims_0.posts)
  posts_at (suc j) q at =
      let lt = at_below calls (suc j) q at in
      let up : 0 < suc j = omega arith in
      let c = at_there calls (suc j) lt in
      subst (λ o. PostsBy (session_at old (suc j)) (session_at new (suc j)) (asked_op o)) (at_one calls (suc j) c.0 q c.1 at)
      (subst (λ (u : K × K). PostsBy u.0 u.1 (asked_op c.0)) (λ i. (sym (was (suc j) lt) i, sym (is_later (suc j) up lt) i)) (later (suc j) up lt).3)

  next_at : (j : ℕ) → suc j < length calls → TakesNext (session_at new (suc j)) (session_at old j) (with_first claims_0.asked (session_at new) j)
  next_at zero lt =
      let up : 0 < 1 = omega arith in
      let b = later 1 up lt in
      next_by (session_at new 1) (session_at old 0) claims_0.asked b.0 known_0.0 claims_0.asked (is_later 1 up lt) (was 0 some) (λ i. claims_0.asked) (next_first known_0.0 call_0.0 call_0.1 known_0.1 b.0 lt b.1)
  next_at (suc j) lt =
      let up : 0 < suc j = omega arith in
      let below : suc j < length calls = omega (arith, lt) in
      let k = known (suc j) below in
      let a = later (suc j) up below in
      let more : 0 < suc (suc j) = omega arith in
      let b = later (suc (suc j)) more lt in
      next_by (session_at new (suc (suc j))) (session_at old (suc j)) (session_at new (suc j)) b.0 k.0 a.0 (is_later (suc (suc j)) more lt) (was (suc j) below) (is_later (suc j) up below) (next_other (suc j) k.0 a.0 b.0 up lt k.1 a.1 b.1)

  pub posts_held : PostsInOneHold (session_at old) (session_at new) calls batch
  posts_held = record {
    first = claims_0.asked;
    posts = posts_at;
    next = next_at;
    claims = subst (λ z. TurnsBy claims_0.asked z batch Claims) (sym is_first) claims_0.turns;
    again = subst (TakesNext claims_0.asked claims_0.asked) (sym is_first) claims_0.again;
  }

-- ---- the second hold

module _ (old new : List Member) (batch : BatchView) (kept : RepliesView) (replies : List Reply) (k given : K) (known : KnownAt old 0 k) (node : ℕ) (gives : HandsOver node k given batch kept) (o0 : Pending) (r0 : Reply) (at_0 : At 0 r0 replies) (collects_0 : CollectsAt new 0 given o0 r0) (again : TakesNext given given collects_0.after)
    (waits : (j : ℕ) → 0 < j → j < length replies → (f : K) × (o : Pending) × KnownAt old j f × HasAsked f o)
    (others : (j : ℕ) (f : K) (o : Pending) → 0 < j → KnownAt old j f → HasAsked f o → (reply : Reply) × At j reply replies × CollectsAt new j f o reply)
    (next : (j : ℕ) (f a b : K) → KnownAt old (suc j) f → KnownAt new j a → KnownAt new (suc j) b → TakesNext a f b) where
  abbrev ends : (j : ℕ) → j < length replies → (a : K) × KnownAt new j a
  ends zero lt = (collects_0.after, collects_0.is)
  ends (suc j) lt = let w = waits (suc j) (omega arith) lt in let c = (others (suc j) w.0 w.1 (omega arith) w.2 w.3).2 in (c.after, c.is)

  is : (j : ℕ) (lt : j < length replies) → session_at new j ≡ (ends j lt).0
  is j lt = known_session new j (ends j lt).0 (ends j lt).1

  some : 0 < length replies
  some = at_below replies 0 r0 at_0

  collects_at : (j : ℕ) (reply : Reply) → At j reply replies → CollectsBy (with_first given (session_at old) j) (session_at new j) reply
  collects_at zero reply at =
      subst (CollectsBy given (session_at new 0)) (at_one replies 0 r0 reply at_0 at) (collects_0.batch, subst (λ z. TurnsBy given z collects_0.batch (Collects r0)) (sym (is 0 some)) collects_0.turns)
  collects_at (suc j) reply at =
      let lt = at_below replies (suc j) reply at in
      let w = waits (suc j) (omega arith) lt in
      let c = others (suc j) w.0 w.1 (omega arith) w.2 w.3 in
      subst (CollectsBy (session_at old (suc j)) (session_at new (suc j))) (at_one replies (suc j) c.0 reply c.1 at)
      (subst (λ (u : K × K). CollectsBy u.0 u.1 c.0) (λ i. (sym (known_session old (suc j) w.0 w.2) i, sym (known_session new (suc j) c.2.after c.2.is) i)) (c.2.batch, c.2.turns))

  pub collects_held : CollectsInOneHold (session_at old) (session_at new) batch kept replies
  collects_held = record {
    given = given;
    node = node;
    gives = subst (λ z. HandsOver node z given batch kept) (sym (known_session old 0 k known)) gives;
    collects = collects_at;
    again = subst (TakesNext given given) (sym (is 0 some)) again;
    next = λ j lt.
        let w = waits (suc j) (omega arith) lt in
        let low : j < length replies = omega (arith, lt) in
        let a = ends j low in
        let b = ends (suc j) lt in
        next_by (session_at new j) (session_at old (suc j)) (session_at new (suc j)) a.0 w.0 b.0 (is j low) (known_session old (suc j) w.0 w.2) (is (suc j) lt) (next j w.0 a.0 b.0 w.2 a.1 b.1);
  }
