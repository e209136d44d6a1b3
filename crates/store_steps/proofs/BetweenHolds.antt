-- The members of a pipeline, once they have posted and the first one has combined.
use Rattle.std.proofs.Common.{◌≡◌, ℕ, zero, suc, ◌<◌, List, length, set, sym, ap, ◌∙◌, subst, arith}
use Rattle.atomic_table.proofs.Lists.{set_else, set_here}
use Rattle.ownlock.specs.Seats.{At, IsSession}
use Rattle.combiner.specs.Desks.{BatchView}
use Rattle.replica.specs.Views.{RepliesView}
use Rattle.accounts.proofs.Export.{at_below, at_one, at_there}
use Rattle.store_steps.specs.declared.pipelines.Member.{Member}
use Rattle.store_steps.specs.declared.steps.Question.{Question}
use Rattle.store_steps.specs.declared.steps.Shared.{Shared}
use Rattle.store_steps.specs.Asking.{AwaitsAnswer, asked_op}
use Rattle.store_steps.specs.AtOnce.{IsAlone, MayAsk, MayHandOver}
use Rattle.store_steps.specs.Combining.{HasAnswered, HasCombined, SessionAnswers}
use Rattle.ownlock.proofs.Export.{one_known}
use Rattle.combiner.specs.declared.slots.Reply.{Reply}
use Rattle.store_steps.specs.EachMember.{AscendEach, AsksEach, AsksFor, ClaimsAt, CombinesEach, GivesEach, HasRecordOf, LooksAndPosts, MayGive}
use Rattle.store_steps.specs.Holds.{UpdatesInTwoHolds, session_at, with_first}
use Rattle.store_steps.specs.Pipelines.{CollectsAt, HasLooked, KnownAt, MayAskAt, PostsAt, SameSpots}
use Rattle.store_steps.specs.Standing.{IsFree, SessionKnown, StoreSeat}
use Rattle.store_steps.specs.Whole.{AnswersBy, HandsOver}
use Rattle.store_steps.proofs.AskingEach.{MemberOf, alone_then, asked_first, asked_other, claims_of, first_free, first_on, first_waits, free_looked, on_looked, one_at, member_of, was_at}
use Rattle.store_steps.proofs.AtOnce.{asks, still_waits}
use Rattle.store_steps.proofs.Holds.{collects_as, known_session}
use Rattle.store_steps.proofs.Posting.{known_as}
use Rattle.store_steps.proofs.Resumed.{free_back, free_by, shelf_then}

abbrev K : Type 0
K = SessionKnown

module _ (shared : Shared) (old new : List Member) (calls : List Question) (batch : BatchView) (same : SameSpots old new) (count : (0 < length calls) × (length old ≡ length calls)) (idle : (j : ℕ) → MayAskAt shared old j) (p : LooksAndPosts old new calls batch) (own : Member) (at_own : At 0 own new) (s3 : StoreSeat) (kept : RepliesView)
    (learns : SessionAnswers own.caller.node own.seat s3 batch kept) where
  abbrev Of : ℕ → Type 0
  Of = MemberOf shared old new calls batch same count idle p

  abbrev pub last : List Member
  last = set new 0 (record own { seat = s3 })

  abbrev first : Of 0
  first = member_of shared old new calls batch same count idle p 0 count.0

  abbrev claims : ClaimsAt new first.l (asked_op first.q) batch
  claims = claims_of shared old new calls batch same count idle p first

  is_first : IsSession own.seat claims.after
  is_first = known_as new 0 claims.after own at_own claims.is

  same_caller : (j : ℕ) (member : Member) (w : Of j) → At j member new → member.caller ≡ w.member.caller
  same_caller j member w at = let o = was_at old new same j member at in ap (λ z. z.0) o.2 ∙ ap (λ (z : Member). z.caller) (at_one old j o.0 w.member o.1 w.at)

  abbrev combined : (a : K) × IsSession s3 a × HasAnswered claims.after a batch kept × AnswersBy own.caller.node claims.after a batch kept
  combined = learns claims.after is_first

  at_first : At 0 (record own { seat = s3 }) last
  at_first = set_here new 0 (record own { seat = s3 }) (at_below new 0 own at_own)

  known_first : KnownAt last 0 combined.0
  known_first = (record own { seat = s3 }, at_first, combined.1)

  at_new : (j : ℕ) (member : Member) → 0 < j → At j member last → At j member new
  at_new j member lt at = sym (set_else new 0 j (record own { seat = s3 }) (λ e. omega (arith, e, lt))) ∙ at

  below : (j : ℕ) (member : Member) → At j member new → j < length calls
  below j member at = let o = was_at old new same j member at in let lt = at_below old j o.0 o.1 in let long = count.1 in omega (arith, lt, long)

  posts : (j : ℕ) → 0 < j → (w : Of j) → PostsAt new j w.l (asked_op w.q)
  posts j lt w = p.posts.others j w.l w.q lt w.at_q w.mid

  -- which session a member was
  pub origin : (j : ℕ) (f : K) → KnownAt last j f → (w : Of j) × (f.session ≡ w.l.session)
  origin zero f known =
      let a = one_at last 0 f combined.0 known known_first in
      (first, ap (λ (z : K). z.session) a ∙ (combined.2.session ∙ (claims.turned.back.session ∙ claims.posted.back.session)))
  origin (suc j) f known =
      let up : 0 < suc j = omega arith in
      let at = at_new (suc j) known.0 up known.1 in
      let w = member_of shared old new calls batch same count idle p (suc j) (below (suc j) known.0 at) in
      let q = posts (suc j) up w in
      (w, ap (λ (z : K). z.session) (one_at new (suc j) f q.0 (known.0, at, known.2) q.1) ∙ q.2.back.session)

  ready : (member : Member) → At 0 member last → MayHandOver member.seat member.caller shared batch kept
  ready member at =
      let a = combined in
      let free = subst (λ z. IsFree z claims.after) (sym (same_caller 0 own first at_own)) (first_free shared old new calls batch same count idle p first) in
      subst (λ (z : Member). MayHandOver z.seat z.caller shared batch kept) (at_one last 0 (record own { seat = s3 }) member at_first at) (
        a.0,
        a.1,
        (
          free_by own.caller claims.after a.0 a.2.session a.2.held a.2.extends free,
          a.2.ready,
          shelf_then _ _ _ _ claims.after a.0 a.2.extends (first_on shared old new calls batch same count idle p first),
          a.2.stands,
          first_waits shared old new calls batch same count idle p first a.0 kept a.2,
        ),
      )

  waits : (j : ℕ) → 0 < j → (member : Member) → At j member last → AwaitsAnswer member.seat member.caller shared
  waits j lt member at0 =
      let at = at_new j member lt at0 in
      let w = member_of shared old new calls batch same count idle p j (below j member at) in
      let q = posts j lt w in (
        q.0,
        q.2.request,
        known_as new j q.0 member at q.1,
        subst (λ z. IsFree z q.0) (sym (same_caller j member w at)) (free_back w.member.caller w.l q.0 (free_looked shared old new calls batch same count idle p j w) q.2.back),
        asks w.l q.0 (asked_op w.q) (alone_then w.k w.l w.looked w.alone) q.2,
        shelf_then _ _ _ _ w.l q.0 q.2.back.extends (on_looked shared old new calls batch same count idle p j w),
      )

  pub may_give : AscendEach old → MayGive shared last batch kept
  may_give up = record {
    ready = ready;
    waits = waits;
    ascend = λ i j f g lt a b.
        let v = origin i f a in
        let w = origin j g b in
        let low = up i j v.0.k w.0.k lt (v.0.member, v.0.at, v.0.is) (w.0.member, w.0.at, w.0.is) in
        let ev = v.1 ∙ v.0.looked.session in
        let ew = w.1 ∙ w.0.looked.session in
        omega (arith, low, ev, ew);
    requests = λ j f known. let w = origin j f known in subst (HasRecordOf batch.records) (sym w.1) (p.posts.requests j w.0.l w.0.mid);
  }

  pub combines_each : CombinesEach old last calls batch kept
  combines_each = record {
    posted = new;
    posts = p;
    first = λ member k at known.
        let is = known_as new 0 k own at_own known in
        let a = learns k is in
        let o = was_at old new same 0 own at_own in
        let node = ap (λ z. z.0.node) o.2 ∙ ap (λ (z : Member). z.caller.node) (at_one old 0 o.0 member o.1 at) in
        (a.0, (record own { seat = s3 }, at_first, a.1), a.2, subst (λ n. AnswersBy n k a.0 batch kept) node a.3);
    others = λ j k lt known. (known.0, set_else new 0 j (record own { seat = s3 }) (λ e. omega (arith, e, lt)) ∙ known.1, known.2);
  }

-- ---- the whole call, by its two holds

module _ (shared : Shared) (old new last : List Member) (calls : List Question) (batch : BatchView) (kept : RepliesView) (replies : List Reply) (same : SameSpots old new) (idle : (j : ℕ) → MayAskAt shared old j) (c : CombinesEach old new calls batch kept) (g : GivesEach new last batch kept replies) where
  module _ (k : K) (q : Question) (known : KnownAt old 0 k) (at : At 0 q calls) where
    may : MayAsk known.0.seat known.0.caller shared
    may = idle 0 known.0 known.1

    looked : (l : K) × KnownAt c.posts.mid 0 l × HasLooked k l
    looked = c.posts.looks 0 k known

    free_k : IsFree known.0.caller k
    free_k = subst (λ z. IsFree known.0.caller z) (one_known known.0.seat may.0 k may.1 known.2) may.2

    alone_k : IsAlone k
    alone_k = subst IsAlone (one_known known.0.seat may.0 k may.1 known.2) may.3

    claimed : ClaimsAt c.posted looked.0 (asked_op q) batch
    claimed = c.posts.posts.first looked.0 q at looked.1

    answered : (a : K) × KnownAt new 0 a × HasAnswered claimed.after a batch kept × AnswersBy known.0.caller.node claimed.after a batch kept
    answered = c.first known.0 claimed.after known.1 claimed.is

    gone_on : (f : K) × (reply : Reply) × At 0 reply replies × HasCombined answered.0 f × HandsOver answered.1.0.caller.node answered.0 f batch kept × CollectsAt last 0 f claimed.posted.request reply
    gone_on =
        g.first answered.1.0 answered.0 claimed.posted.request answered.1.1 answered.1
        (still_waits claimed.after answered.0 claimed.posted.request batch kept claimed.asked claimed.turned (asks looked.0 claimed.asked (asked_op q) (alone_then k looked.0 looked.2 alone_k) claimed.posted) answered.2)

    same_node : answered.1.0.caller.node ≡ known.0.caller.node
    same_node = let o = was_at old new same 0 answered.1.0 answered.1.1 in ap (λ z. z.0.node) o.2 ∙ ap (λ (z : Member). z.caller.node) (at_one old 0 o.0 known.0 o.1 known.1)

    first_asks : (reply : Reply) × At 0 reply replies × AsksFor last 0 k (asked_op q) reply
    first_asks = (
      gone_on.1,
      gone_on.2,
      asked_first known.0.caller known.0.caller.node c.posted last k looked.0 (asked_op q) gone_on.1 batch kept looked.2 (free_by known.0.caller k looked.0 looked.2.session (looked.2.held ∙ free_k.held) looked.2.extends free_k) (alone_then k looked.0 looked.2 alone_k) claimed
          answered.0 gone_on.0 answered.2 answered.3 gone_on.3 (subst (λ n. HandsOver n answered.0 gone_on.0 batch kept) same_node gone_on.4) gone_on.5,
    )

  other_asks : (j : ℕ) → 0 < j → (k : K) (q : Question) → KnownAt old j k → At j q calls → (reply : Reply) × At j reply replies × AsksFor last j k (asked_op q) reply
  other_asks j lt k q known at =
      let m = idle j known.0 known.1 in
      let alone = subst IsAlone (one_known known.0.seat m.0 k m.1 known.2) m.3 in
      let l = c.posts.looks j k known in
      let p = c.posts.posts.others j l.0 q lt at l.1 in
      let e = g.others j p.0 p.2.request lt (c.others j p.0 lt p.1) (asks l.0 p.0 (asked_op q) (alone_then k l.0 l.2 alone) p.2) in
      (e.0, e.1, asked_other last j k l.0 p.0 (asked_op q) e.0 l.2 p.2 p.3 e.2)

  pub asks_each : AsksEach old last calls replies
  asks_each zero k q known at = first_asks k q known at
  asks_each (suc j) k q known at = other_asks (suc j) (omega arith) k q known at

  -- ---- its two holds

  module _ (count : (0 < length calls) × (length old ≡ length calls)) (long : length replies ≡ length calls) where
    was : (j : ℕ) → j < length calls → (k : K) × KnownAt old j k
    was j lt = let p = at_there old j (let same_long = count.1 in omega (arith, lt, same_long)) in let m = idle j p.0 p.1 in (m.0, (p.0, p.1, m.1))

    call_at : (j : ℕ) → j < length calls → (q : Question) × At j q calls
    call_at j lt = at_there calls j lt

    first_answered : (a : K) × KnownAt new 0 a × HasAnswered (claimed (was 0 count.0).0 (call_at 0 count.0).0 (was 0 count.0).1 (call_at 0 count.0).1).after a batch kept
        × AnswersBy (was 0 count.0).1.0.caller.node (claimed (was 0 count.0).0 (call_at 0 count.0).0 (was 0 count.0).1 (call_at 0 count.0).1).after a batch kept
    first_answered = answered (was 0 count.0).0 (call_at 0 count.0).0 (was 0 count.0).1 (call_at 0 count.0).1

    first_claimed_is : session_at c.posted 0 ≡ (claimed (was 0 count.0).0 (call_at 0 count.0).0 (was 0 count.0).1 (call_at 0 count.0).1).after
    first_claimed_is = let a = claimed (was 0 count.0).0 (call_at 0 count.0).0 (was 0 count.0).1 (call_at 0 count.0).1 in known_session c.posted 0 a.after a.is

    looked_at : (j : ℕ) → j < length calls → HasLooked (session_at old j) (session_at c.posts.mid j)
    looked_at j lt =
        let k = was j lt in
        let l = c.posts.looks j k.0 k.1 in
        subst (λ (u : K × K). HasLooked u.0 u.1) (λ i. (sym (known_session old j k.0 k.1) i, sym (known_session c.posts.mid j l.0 l.1) i)) l.2

    stays_at : (j : ℕ) → j < length replies → with_first first_answered.0 (session_at c.posted) j ≡ session_at new j
    stays_at zero lt = sym (known_session new 0 first_answered.0 first_answered.1)
    stays_at (suc j) lt =
        let up : 0 < suc j = omega arith in
        let low : suc j < length calls = omega (arith, lt, long) in
        let k = was (suc j) low in
        let q = call_at (suc j) low in
        let l = c.posts.looks (suc j) k.0 k.1 in
        let p = c.posts.posts.others (suc j) l.0 q.0 up q.1 l.1 in
        known_session c.posted (suc j) p.0 p.1 ∙ sym (known_session new (suc j) p.0 (c.others (suc j) p.0 up p.1))

    pub two_holds : UpdatesInTwoHolds (session_at old) (session_at last) calls replies
    two_holds = record {
      looked = session_at c.posts.mid;
      looks = looked_at;
      posted = session_at c.posted;
      batch = batch;
      posts = c.posts.posts.held;
      answered = first_answered.0;
      node = (was 0 count.0).1.0.caller.node;
      kept = kept;
      answers = subst (λ z. AnswersBy (was 0 count.0).1.0.caller.node z first_answered.0 batch kept) (sym first_claimed_is) first_answered.3;
      collects = collects_as (session_at new) (session_at last) (with_first first_answered.0 (session_at c.posted)) (session_at last) batch kept replies (let some = count.0 in omega (arith, some, long)) stays_at (λ j lt i. session_at last j) g.held;
    }
