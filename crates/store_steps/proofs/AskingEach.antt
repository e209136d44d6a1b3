-- The whole call of a pipeline, member by member.
use Rattle.std.proofs.Common.{◌≡◌, ℕ, suc, ◌<◌, ◌^◌, List, length, sym, refl, ap, ◌∙◌, subst, arith}
use Rattle.std.proofs.lemmas.List.{length-map}
use Rattle.ownlock.proofs.Export.{one_known}
use Rattle.ownlock.specs.Seats.{At, IsSession}
use Rattle.oplog.specs.Operations.{Operation}
use Rattle.combiner.specs.Desks.{BatchView}
use Rattle.combiner.specs.declared.slots.Reply.{Reply}
use Rattle.node.specs.Answering.{answered_batch}
use Rattle.replica.specs.StoreMeaning.{store_meaning}
use Rattle.replica.specs.Views.{RepliesView}
use Rattle.accounts.specs.Moves.{IsAtRest, posted_with}
use Rattle.accounts.specs.declared.sessions.Pending.{Pending}
use Rattle.accounts.specs.declared.sessions.SessionNote.{SessionNote}
use Rattle.accounts.proofs.Export.{at_map, at_mapped, at_one, at_there, grown_long}
use Rattle.store_steps.specs.declared.pipelines.Member.{Member}
use Rattle.store_steps.specs.declared.steps.Caller.{Caller}
use Rattle.store_steps.specs.declared.steps.Shared.{Shared}
use Rattle.store_steps.specs.Asking.{asked_op}
use Rattle.store_steps.specs.declared.steps.Question.{Question}
use Rattle.store_steps.specs.AtOnce.{IsAlone, StillWaits}
use Rattle.store_steps.specs.Combining.{HasAnswered, HasClaimed, HasCombined}
use Rattle.store_steps.specs.EachMember.{AsksFor, ClaimsAt, LooksAndPosts, LooksEach, MayGive}
use Rattle.store_steps.specs.Knowing.{IsOn}
use Rattle.store_steps.specs.Pipelines.{AreMembers, CollectsAt, HasLooked, KnownAt, MayAskAt, SameSpots, Stays, Visit, Visits, spot_of}
use Rattle.store_steps.specs.Requests.{HasPosted}
use Rattle.store_steps.specs.Standing.{IsFree, SessionKnown}
use Rattle.store_steps.specs.Updating.{Begins, Combines, PostsBy}
use Rattle.store_steps.specs.Whole.{AnswersBy, HandsOver}
use Rattle.store_steps.proofs.AtOnce.{asks, still_waits}
use Rattle.store_steps.proofs.Resumed.{free_back, free_by, has_claimed, has_completed, resumed_combined, resumed_first, shelf_then}
use Rattle.store_steps.proofs.Stretches.{combines_by}
use Rattle.store_steps.proofs.StoreLaws.{store_laws}
use Rattle.store_steps.proofs.Tried.{combined_then}

abbrev K : Type 0
K = SessionKnown

-- ---- members that stay where they are

-- a member has the slot and the shelf that it had
pub was_at : (old new : List Member) → SameSpots old new → (j : ℕ) (q : Member) → At j q new → (p : Member) × At j p old × (spot_of q ≡ spot_of p)
was_at old new same j q at =
    let h = at_mapped spot_of old j (spot_of q) (subst (λ z. At j (spot_of q) z) same (at_map spot_of new j q at)) in
    (h.0, h.1, h.2)

pub spots_below : (old new : List Member) → SameSpots old new → (j : ℕ) → j < length old → j < length new
spots_below old new same j lt = let long = sym (length-map new spot_of) ∙ (ap length same ∙ length-map old spot_of) in omega (arith, lt, long)

pub are_members : (shared : Shared) (old new : List Member) → SameSpots old new → AreMembers shared.shelf.now.id old → AreMembers shared.shelf.now.id new
are_members shared old new same are = record {
  own = λ j q at. let p = was_at old new same j q at in ap (λ z. z.1) p.2 ∙ are.own j p.0 p.1;
  near = λ i j q r at bt. let a = was_at old new same i q at in let b = was_at old new same j r bt in ap (λ z. z.0.node) a.2 ∙ (are.near i j a.0 b.0 a.1 b.1 ∙ sym (ap (λ z. z.0.node) b.2));
}

-- ---- looks

pub visits_then : (k m after : K) → Visits k m → Visits m after → Visits k after
visits_then k m after first (Stays l) = first
visits_then k m after first (Visit l n z slot x more at) = Visit k n after slot x (visits_then k l n first more) at

pub looked_then : (k m after : K) → HasLooked k m → HasLooked m after → HasLooked k after
looked_then k m after a b = record {
  session = b.session ∙ a.session;
  held = b.held ∙ a.held;
  note = b.note ∙ a.note;
  extends = store_laws.extends_on k.progress m.progress after.progress a.extends b.extends;
  well_formed = λ w. b.well_formed (a.well_formed w);
  visits = visits_then k m after a.visits b.visits;
}

-- who has only looked may ask still
pub alone_then : (k m : K) → HasLooked k m → IsAlone k → IsAlone m
alone_then k m l a = record {
  rests = subst IsAtRest (sym l.note) a.rests;
  alone = ap (λ (n : SessionNote). n.batch) l.note ∙ a.alone;
  few = subst (λ (n : SessionNote). suc (length n.answered) < 2 ^ 64) (sym l.note) a.few;
}

pub may_ask_then : (shared : Shared) (old new : List Member) → SameSpots old new → LooksEach old new → ((j : ℕ) → MayAskAt shared old j) → (j : ℕ) → MayAskAt shared new j
may_ask_then shared old new same looks may j q at =
    let p = was_at old new same j q at in
    let m = may j p.0 p.1 in
    let l = looks j m.0 (p.0, p.1, m.1) in
    let is : IsSession q.seat l.0 = subst (λ (z : Member). IsSession z.seat l.0) (at_one new j l.1.0 q l.1.1 at) l.1.2 in (
      l.0,
      is,
      subst (λ c. IsFree c l.0) (ap (λ z. z.0) (sym p.2))
          (free_by p.0.caller m.0 l.0 l.2.session (l.2.held ∙ m.2.held) l.2.extends m.2),
      alone_then m.0 l.0 l.2 m.3,
      shelf_then _ _ _ _ m.0 l.0 l.2.extends m.4,
    )

-- a session that looked, and then posted, has posted
abbrev pub posted_then : (k m asked : K) (op : Operation) → HasLooked k m → HasPosted m asked op → HasPosted k asked op
posted_then k m asked op l p = record {
  back = record { session = p.back.session ∙ l.session; held = p.back.held; extends = store_laws.extends_on k.progress m.progress asked.progress l.extends p.back.extends; stands = p.back.stands };
  request = p.request;
  op_is = p.op_is;
  seen = let far = grown_long store_meaning k.progress m.progress l.extends in let seen = p.seen in omega (arith, far, seen);
  note = p.note ∙ ap (λ (n : SessionNote). posted_with n p.request) l.note;
}

-- ---- the whole call

-- another member than the first
pub asked_other : (new : List Member) (j : ℕ) (k m asked : K) (op : Operation) (reply : Reply) (l : HasLooked k m) (p : HasPosted m asked op) → PostsBy m asked op → CollectsAt new j asked p.request reply → AsksFor new j k op reply
asked_other new j k m asked op reply l p posts c = record {
  asked = asked;
  posted = posted_then k m asked op l p;
  after = c.after;
  is = c.is;
  completed = has_completed asked asked c.after p.request c.batch reply (resumed_first asked) c.turned;
  looked = m;
  looks = l;
  goes = record { asked = asked; posts = posts; completes = record { waited = asked; rounds = Begins asked; batch = c.batch; collects = c.turns } };
  alone = λ lt. refl;
}

-- the first member
module _ (caller : Caller) (node : ℕ) (members new : List Member) (k m : K) (op : Operation) (reply : Reply) (batch : BatchView) (kept : RepliesView) (l : HasLooked k m) (free : IsFree caller m) (alone : IsAlone m) (c : ClaimsAt members m op batch) (a f : K) (ready : HasAnswered c.after a batch kept) (answers : AnswersBy node c.after a batch kept)
    (has : HasCombined a f) (gives : HandsOver node a f batch kept) (end : CollectsAt new 0 f c.posted.request reply) where
  free_asked : IsFree caller c.asked
  free_asked = free_back caller m c.asked free c.posted.back

  has_all : HasCombined c.after f
  has_all = combined_then c.after a f batch kept ready has

  pub asked_first : AsksFor new 0 k op reply
  asked_first = record {
    asked = c.asked;
    posted = posted_then k m c.asked op l c.posted;
    after = end.after;
    is = end.is;
    completed = has_completed c.asked f end.after c.posted.request end.batch reply (resumed_combined caller c.asked c.asked c.after f c.posted.request batch free_asked (asks m c.asked op alone c.posted) (resumed_first c.asked) c.turned has_all) end.turned;
    looked = m;
    looks = l;
    goes = record {
      asked = c.asked;
      posts = c.posts;
      completes = record {
        waited = f;
        rounds = Combines c.asked c.asked c.after f batch (answered_batch kept batch) (Begins c.asked) c.turns
            (combines_by node c.after a f batch kept answers gives ready.extends has.extends ready.stands (answered_batch kept batch) refl (has_claimed c.asked c.after c.posted.request batch c.turned).noted ready.session);
        batch = end.batch;
        collects = end.turns;
      };
    };
    alone = λ lt. absurd (omega (arith, lt));
  }

-- ---- between the two holds

-- a session of a member that is known
pub one_at : (members : List Member) (j : ℕ) (f g : K) → KnownAt members j f → KnownAt members j g → f ≡ g
one_at members j f g a b = one_known b.0.seat f g (subst (λ (z : Member). IsSession z.seat f) (at_one members j a.0 b.0 a.1 b.1) a.2) b.2

-- the members have looked, and have posted then
module _ (shared : Shared) (old new : List Member) (calls : List Question) (batch : BatchView) (same : SameSpots old new) (count : (0 < length calls) × (length old ≡ length calls)) (idle : (j : ℕ) → MayAskAt shared old j) (p : LooksAndPosts old new calls batch) where
  -- of the j-th member: what it was, the session once it has looked, and what it may be asked
  pub record MemberOf (j : ℕ) : Type 0 where
    pub member : Member
    pub at : At j member old
    pub k : K
    pub is : IsSession member.seat k
    pub free : IsFree member.caller k
    pub alone : IsAlone k
    pub on : IsOn shared k
    pub l : K
    pub mid : KnownAt p.mid j l
    pub looked : HasLooked k l
    pub q : Question
    pub at_q : At j q calls

  pub member_of : (j : ℕ) → j < length calls → MemberOf j
  member_of j lt =
      let long = count.1 in
      let a = at_there old j (omega (arith, lt, long)) in
      let m = idle j a.0 a.1 in
      let l = p.looks j m.0 (a.0, a.1, m.1) in
      let q = at_there calls j lt in
      record { member = a.0; at = a.1; k = m.0; is = m.1; free = m.2; alone = m.3; on = m.4; l = l.0; mid = l.1; looked = l.2; q = q.0; at_q = q.1 }

  pub free_looked : (j : ℕ) (w : MemberOf j) → IsFree w.member.caller w.l
  free_looked j w = free_by w.member.caller w.k w.l w.looked.session (w.looked.held ∙ w.free.held) w.looked.extends w.free

  pub on_looked : (j : ℕ) (w : MemberOf j) → IsOn shared w.l
  on_looked j w = shelf_then _ _ _ _ w.k w.l w.looked.extends w.on

  pub claims_of : (w : MemberOf 0) → ClaimsAt new w.l (asked_op w.q) batch
  claims_of w = p.posts.first w.l w.q w.at_q w.mid

  -- the first member has claimed
  module _ (w : MemberOf 0) where
    pub first_free : IsFree w.member.caller (claims_of w).after
    first_free = free_back w.member.caller (claims_of w).asked (claims_of w).after (free_back w.member.caller w.l (claims_of w).asked (free_looked 0 w) (claims_of w).posted.back) (claims_of w).turned.back

    pub first_on : IsOn shared (claims_of w).after
    first_on =
        shelf_then _ _ _ _ (claims_of w).asked (claims_of w).after (claims_of w).turned.back.extends
        (shelf_then _ _ _ _ w.l (claims_of w).asked (claims_of w).posted.back.extends (on_looked 0 w))

    pub first_claimed : HasClaimed (claims_of w).after batch
    first_claimed = has_claimed (claims_of w).asked (claims_of w).after (claims_of w).posted.request batch (claims_of w).turned

    -- and waits for its own answer still, once it has combined
    pub first_waits : (a : K) (kept : RepliesView) → HasAnswered (claims_of w).after a batch kept → (o : Pending) × StillWaits a o
    first_waits a kept e = ((claims_of w).posted.request, still_waits (claims_of w).after a (claims_of w).posted.request batch kept (claims_of w).asked (claims_of w).turned (asks w.l (claims_of w).asked (asked_op w.q) (alone_then w.k w.l w.looked w.alone) (claims_of w).posted) e)

-- nothing has changed
pub still_gives : (shared : Shared) (old new : List Member) (b c : BatchView) (kept now : RepliesView) → new ≡ old → c ≡ b → now ≡ kept → MayGive shared old b kept → MayGive shared new c now
still_gives shared old new b c kept now members batch replies may =
    subst (λ (z : RepliesView). MayGive shared new c z) (sym replies) (subst (λ (z : BatchView). MayGive shared new z kept) (sym batch) (subst (λ z. MayGive shared z b kept) (sym members) may))
