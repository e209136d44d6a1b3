-- A list of updates whose sessions wait for nobody: member by member a session that is polled by itself.
use Rattle.std.proofs.Common.{◌≡◌, ℕ, zero, suc, ◌<◌, ◌≤◌, ◌^◌, List, [], length, set, sym, refl, ap, ◌∙◌, subst, arith}
use Rattle.atomic_table.proofs.Lists.{set_else, set_here}
use Rattle.ownlock.proofs.Export.{one_known}
use Rattle.ownlock.specs.Seats.{At, IsSession}
use Rattle.combiner.specs.Desks.{BatchView}
use Rattle.combiner.specs.declared.slots.Reply.{Reply}
use Rattle.replica.specs.StoreMeaning.{store_meaning}
use Rattle.replica.specs.Views.{RepliesView}
use Rattle.accounts.specs.declared.sessions.Pending.{Pending}
use Rattle.accounts.specs.declared.sessions.SessionNote.{SessionNote}
use Rattle.accounts.specs.Accounts.{Extends}
use Rattle.accounts.proofs.Export.{at_below, at_one, at_there, grown_long}
use Rattle.store_steps.specs.declared.deeds.Deed.TheVariants.{Busy, Collected}
use Rattle.store_steps.specs.declared.deeds.Stage.{Stage}
use Rattle.store_steps.specs.declared.deeds.Stage.TheVariants.{Idle, Asked, Claimed as StageClaimed, Ready as StageReady}
use Rattle.store_steps.specs.declared.desks.Turn.TheVariants.{Collects}
use Rattle.store_steps.specs.declared.pipelines.Member.{Member}
use Rattle.store_steps.specs.declared.polling_each.EachStage.{EachStage}
use Rattle.store_steps.specs.declared.polling_each.EachStage.TheVariants.{Claimed, Ready}
use Rattle.store_steps.specs.declared.steps.Caller.{Caller}
use Rattle.store_steps.specs.declared.steps.Question.{Question}
use Rattle.store_steps.specs.declared.steps.Shared.{Shared}
use Rattle.store_steps.specs.Asking.{AwaitsAnswer, asked_op}
use Rattle.store_steps.specs.Combining.{SessionAnswers}
use Rattle.store_steps.specs.EachMember.{AllRequested, AscendEach, GivesEach, HasRecordOf, LooksEach, MayGive, PostsEach}
use Rattle.store_steps.specs.Holds.{session_at}
use Rattle.store_steps.specs.Pipelines.{KnownAt, MayAskAt, SameSpots, spot_of}
use Rattle.store_steps.specs.Polling.{DeedsGo}
use Rattle.store_steps.specs.PollingEach.{AreIdle, AreOn, AreOut, BeginsEach, CompletesEach, WaitsEach, stage_at}
use Rattle.store_steps.specs.Requests.{HasTurned}
use Rattle.store_steps.specs.Stages.{HasGone, IsAsking, IsOut, IsPolled}
use Rattle.store_steps.specs.Standing.{IsFree, SessionKnown, StoreSeat}
use Rattle.store_steps.specs.Trying.{IsStill}
use Rattle.store_steps.specs.Updating.{Answers, Deeds, Rests, Tries}
use Rattle.store_steps.specs.Views.{SessionView, session_view}
use Rattle.store_steps.proofs.AskingEach.{spots_below, was_at}
use Rattle.store_steps.proofs.Begun.{asking_still, begun_combining, begun_waiting, gave, gone_after, gone_busy, one_deed, seat_of}
use Rattle.store_steps.proofs.Gone.{asked_of, collects_gone, held_gone, on_known, ran_gone, stays_gone}
use Rattle.store_steps.proofs.Holds.{known_session}
use Rattle.store_steps.proofs.Posting.{known_as, map_set}
use Rattle.store_steps.proofs.Resumed.{free_by, shelf_then}
use Rattle.store_steps.proofs.StoreLaws.{store_laws}
use Rattle.store_steps.proofs.Views.{known_seen, seen_as}

abbrev K : Type 0
K = SessionKnown

abbrev S : Type 0
S = StoreSeat

-- ---- one session

known_in : (s : S) (caller : Caller) (b : BatchView) (kept : RepliesView) (stage : Stage) → IsPolled s caller b kept stage → (k : K) × IsSession s k × (k.held ≡ [])
known_in s caller b kept Idle v = (v.known, v.is, v.free.held)
known_in s caller b kept Asked v = (v.0, v.2.is, v.2.free.held)
known_in s caller b kept StageClaimed v = (v.0, v.2.is, v.2.free.held)
known_in s caller b kept StageReady v = (v.0, v.2.is, v.2.free.held)

asking_in : (s : S) (caller : Caller) (b : BatchView) (kept : RepliesView) (stage : Stage) → IsOut stage → IsPolled s caller b kept stage → (k : K) × (o : Pending) × IsAsking s caller k o
asking_in s caller b kept Idle out v = absurd out
asking_in s caller b kept Asked out v = (v.0, v.1, v.2)
asking_in s caller b kept StageClaimed out v = (v.0, v.1, v.2)
asking_in s caller b kept StageReady out v = (v.0, v.1, v.2)

-- it is where it was
abbrev Waits : (p q : Member) → BatchView → RepliesView → Stage → Type 0
Waits p q b kept stage = HasGone DeedsGo p.seat q.seat p.caller b kept stage Busy

stays_at : (p q : Member) (b : BatchView) (kept : RepliesView) (stage : Stage) → IsOut stage → q.seat ≡ p.seat → IsPolled p.seat p.caller b kept stage → Waits p q b kept stage
stays_at p q b kept stage out e v = let a = asking_in p.seat p.caller b kept stage out v in stays_gone DeedsGo p.seat q.seat p.caller b kept a.0 a.1 a.2 e stage v (Rests a.0)

stage_out : (stage : EachStage) (j : ℕ) → IsOut (stage_at stage j)
stage_out stage (suc j) = tt
stage_out Claimed zero = tt
stage_out Ready zero = tt

-- ---- all members

-- each member is the session that it was
module _ (old new : List Member) (same : SameSpots old new) (has : (j : ℕ) (p : Member) → At j p old → (k : K) × IsSession p.seat k × (k.held ≡ []))
    (sessions : (j : ℕ) (p q : Member) → At j p old → At j q new → (session_view q.seat).session ≡ (session_view p.seat).session) where
  origin : (j : ℕ) (f : K) → KnownAt new j f → (k : K) × KnownAt old j k × (f.session ≡ k.session)
  origin j f known =
      let p = was_at old new same j known.0 known.1 in
      let k = has j p.0 p.1 in
      (k.0, (p.0, p.1, k.1), sym (ap (λ (z : SessionView). z.session) (seen_as known.0.seat f known.2)) ∙ (sessions j p.0 known.0 p.1 known.1 ∙ ap (λ (z : SessionView). z.session) (seen_as p.0.seat k.0 k.1)))

  ascend_on : AscendEach old → AscendEach new
  ascend_on up i j f g lt a b =
      let v = origin i f a in
      let w = origin j g b in
      let low = up i j v.0 w.0 lt v.1 w.1 in
      let ev = v.2 in
      let ew = w.2 in
      omega (arith, low, ev, ew)

  requests_on : (b : BatchView) → AllRequested old b → AllRequested new b
  requests_on b all j f known = let w = origin j f known in subst (HasRecordOf b.records) (sym w.2) (all j w.0 w.1)

same_caller : (old new : List Member) → SameSpots old new → (j : ℕ) (p q : Member) → At j p old → At j q new → q.caller ≡ p.caller
same_caller old new same j p q at_p at_q = let o = was_at old new same j q at_q in ap (λ z. z.0) o.2 ∙ ap (λ (z : Member). z.caller) (at_one old j o.0 p o.1 at_p)

-- a list that is out goes on
pub out_on : (old new : List Member) (b : BatchView) (kept now : RepliesView) (stage next : EachStage) → SameSpots old new → AreOut old b kept stage → WaitsEach old new b now next → AreOut new b now next
out_on old new b kept now stage next same out waits = record {
  polled = λ j q at. let p = was_at old new same j q at in subst (λ c. IsPolled q.seat c b now (stage_at next j)) (sym (same_caller old new same j p.0 q p.1 at)) (waits j p.0 q p.1 at).polled;
  ascend = ascend_on old new same (λ j p at. known_in p.seat p.caller b kept (stage_at stage j) (out.polled j p at)) (λ j p q a c. (waits j p q a c).session) out.ascend;
  requests = requests_on old new same (λ j p at. known_in p.seat p.caller b kept (stage_at stage j) (out.polled j p at)) (λ j p q a c. (waits j p q a c).session) b out.requests;
}

-- its sessions have their shelf and their catalogue still
pub on_after : (shared : Shared) (old new : List Member) (b : BatchView) (kept now : RepliesView) (stage next : EachStage) → SameSpots old new → AreOut old b kept stage → AreOut new b now next → WaitsEach old new b now next → AreOn shared old → AreOn shared new
on_after shared old new b kept now stage next same out out2 waits on j q at =
    let p = was_at old new same j q at in
    let k = known_in p.0.seat p.0.caller b kept (stage_at stage j) (out.polled j p.0 p.1) in
    let f = known_in q.seat q.caller b now (stage_at next j) (out2.polled j q at) in
    let grown = subst (λ (z : SessionView × SessionView). Extends z.0.progress z.1.progress) (λ i. (seen_as p.0.seat k.0 k.1 i, seen_as q.seat f.0 f.1 i)) (waits j p.0 q p.1 at).extends in
    (f.0, f.1, shelf_then _ _ _ _ k.0 f.0 grown (on_known shared p.0.seat k.0 k.1 (on j p.0 p.1)))

pub stays_each : (members : List Member) (b : BatchView) (kept : RepliesView) (stage : EachStage) → AreOut members b kept stage → WaitsEach members members b kept stage
stays_each members b kept stage out j p q at_p at_q =
    stays_at p q b kept (stage_at stage j) (stage_out stage j) (ap (λ (z : Member). z.seat) (at_one members j q p at_q at_p)) (out.polled j p at_p)

-- ---- the members post

pub idle_looked : (old new : List Member) → SameSpots old new → LooksEach old new → AreIdle old → AreIdle new
idle_looked old new same looks idle j q at =
    let p = was_at old new same j q at in
    let i = idle j p.0 p.1 in
    let l = looks j i.known (p.0, p.1, i.is) in
    record {
      known = l.0;
      is = known_as new j l.0 q at l.1;
      free = subst (λ z. IsFree z l.0) (sym (same_caller old new same j p.0 q p.1 at)) (free_by p.0.caller i.known l.0 l.2.session (l.2.held ∙ i.free.held) l.2.extends i.free);
      pending = ap (λ (n : SessionNote). n.pending) l.2.note ∙ i.pending;
      unread = ap (λ (n : SessionNote). n.begun) l.2.note ∙ i.unread;
      batch = ap (λ (n : SessionNote). n.batch) l.2.note ∙ i.batch;
      well_formed = l.2.well_formed i.well_formed;
      within = let long = grown_long store_meaning i.known.progress l.0.progress l.2.extends in let low = i.within in subst (λ (n : SessionNote). length n.answered ≤ length l.0.progress.history) (sym l.2.note) (omega (arith, long, low));
    }

module _ (shared : Shared) (old new : List Member) (calls : List Question) (b : BatchView) (kept : RepliesView) (same : SameSpots old new) (count : length old ≡ length calls) (may : (j : ℕ) → MayAskAt shared old j) (idle : AreIdle old) (posts : PostsEach old new calls b) where
  few : (j : ℕ) (p : Member) (at : At j p old) → suc (length (idle j p at).known.note.answered) < 2 ^ 64
  few j p at = let m = may j p at in subst (λ (k : K). suc (length k.note.answered) < 2 ^ 64) (one_known p.seat m.0 (idle j p at).known m.1 (idle j p at).is) m.3.few

  pub begins_each : BeginsEach old new calls b kept Claimed
  begins_each zero p q asked at_p at_q at_c =
      let i = idle 0 p at_p in
      let c = posts.first i.known asked at_c (p, at_p, i.is) in
      let is = known_as new 0 c.after q at_q c.is in
      begun_combining p.seat q.seat p.caller i (few 0 p at_p) c.asked c.after (asked_op asked) c.posted c.posts is b kept c.turned c.turns
  begins_each (suc j) p q asked at_p at_q at_c =
      let i = idle (suc j) p at_p in
      let c = posts.others (suc j) i.known asked (omega arith) at_c (p, at_p, i.is) in
      let is = known_as new (suc j) c.0 q at_q c.1 in
      begun_waiting p.seat q.seat p.caller i (few (suc j) p at_p) c.0 c.0 (asked_op asked) c.2 c.3 is b kept
      (record { back = record { session = refl; held = c.2.back.held; extends = store_laws.extends_self c.0.progress; stands = c.2.back.stands }; turns = refl }) (Rests c.0)

  call_at : (j : ℕ) (p : Member) → At j p old → (c : Question) × At j c calls
  call_at j p at = let lt = at_below old j p at in at_there calls j (omega (arith, lt, count))

  pub begins_out : AscendEach old → AreOut new b kept Claimed
  begins_out up =
      let has : (j : ℕ) (p : Member) → At j p old → (k : K) × IsSession p.seat k × (k.held ≡ []) = λ j p at. ((idle j p at).known, (idle j p at).is, (idle j p at).free.held) in
      let sessions : (j : ℕ) (p q : Member) → At j p old → At j q new → (session_view q.seat).session ≡ (session_view p.seat).session = λ j p q at_p at_q. let c = call_at j p at_p in (begins_each j p q c.0 at_p at_q c.1).session in
      record {
        polled = λ j q at.
            let p = was_at old new same j q at in
            let c = call_at j p.0 p.1 in
            subst (λ z. IsPolled q.seat z b kept (stage_at Claimed j)) (sym (same_caller old new same j p.0 q p.1 at)) (begins_each j p.0 q c.0 p.1 at c.1).polled;
        ascend = ascend_on old new same has sessions up;
        requests = requests_on old new same has sessions b posts.requests;
      }

-- ---- the first member combines

module _ (old : List Member) (b : BatchView) (kept : RepliesView) (out : AreOut old b kept Claimed) (own : Member) (at_own : At 0 own old) (seat : S) (spot : seat.shelf ≡ own.seat.shelf) (now : RepliesView) where
  abbrev pub set_first : List Member
  set_first = set old 0 (record own { seat = seat })

  pub first_spots : SameSpots old set_first
  first_spots = map_set spot_of old 0 own (record own { seat = seat }) at_own (λ i. (own.caller, spot i))

  first_at : At 0 (record own { seat = seat }) set_first
  first_at = set_here old 0 (record own { seat = seat }) (at_below old 0 own at_own)

  first_waits : (next : EachStage) → Waits own (record own { seat = seat }) b now (stage_at next 0) → WaitsEach old set_first b now next
  first_waits next first zero p q at_p at_q =
      subst (λ (z : Member × Member). Waits z.0 z.1 b now (stage_at next 0)) (λ i. (at_one old 0 own p at_own at_p i, at_one set_first 0 (record own { seat = seat }) q first_at at_q i)) first
  first_waits next first (suc j) p q at_p at_q =
      stays_at p q b now Asked tt (ap (λ (z : Member). z.seat) (at_one old (suc j) q p (sym (set_else old 0 (suc j) (record own { seat = seat }) (λ e. omega (arith, e))) ∙ at_q) at_p)) (out.polled (suc j) p at_p)

  -- another session holds a place
  pub held_waits : (learns : (k : K) → IsSession own.seat k → (m : K) × IsSession seat m × IsStill k m) → WaitsEach old set_first b now Claimed
  held_waits learns =
      let v = out.polled 0 own at_own in
      let t = learns v.0 v.2.is in
      first_waits Claimed (held_gone DeedsGo own.seat seat own.caller b now v.0 v.1 v.2 t.0 t.1 v.3 t.2 (one_deed v.0 t.0 (Tries t.2.tries t.2.nothing t.2.did t.2.note)))

  -- the requests have run
  pub ran_waits : SessionAnswers own.caller.node own.seat seat b now → WaitsEach old set_first b now Ready
  ran_waits learns =
      let v = out.polled 0 own at_own in
      let t = learns v.0 v.2.is in
      first_waits Ready (gone_busy own.seat seat own.caller b now StageReady (ran_gone DeedsGo own.seat seat own.caller b now v.0 v.1 v.2 t.0 t.1 t.2 (one_deed v.0 t.0 (Answers own.caller.node b now v.3.noted t.3 t.2.ready))))

-- ---- the members collect

pub may_give_out : (shared : Shared) (members : List Member) (b : BatchView) (kept : RepliesView) → AreOut members b kept Ready → AreOn shared members → MayGive shared members b kept
may_give_out shared members b kept out on = record {
  ready = λ m at.
      let v = out.polled 0 m at in
      (v.0, v.2.is, (v.2.free, v.3, on_known shared m.seat v.0 v.2.is (on 0 m at), v.4, (v.1, (v.2.pending, v.2.few))));
  waits = waits;
  ascend = out.ascend;
  requests = out.requests;
}
  where
    waits : (j : ℕ) → 0 < j → (m : Member) → At j m members → AwaitsAnswer m.seat m.caller shared
    waits zero lt m at = absurd (omega (arith, lt))
    waits (suc j) lt m at = let v = out.polled (suc j) m at in (v.0, v.1, v.2.is, v.2.free, asked_of m.seat m.caller v.0 v.1 v.2 v.3, on_known shared m.seat v.0 v.2.is (on (suc j) m at))

-- a turn that collects has no batch
any_batch : (k after : K) (o : Pending) (b c : BatchView) (reply : Reply) → HasTurned k after o b (Collects reply) → HasTurned k after o c (Collects reply)
any_batch k after o b c reply h = record { back = h.back; turns = h.turns }

pub gives_each : (old new : List Member) (b c : BatchView) (kept : RepliesView) (replies : List Reply) → AreOut old b kept Ready → GivesEach old new b kept replies → CompletesEach old new c kept replies
gives_each old new b c kept replies out g zero p q at_p at_q =
    let v = out.polled 0 p at_p in
    let d = g.first p v.0 v.1 at_p (p, at_p, v.2.is) (v.2.pending, v.2.few) in
    let e = d.5 in
    let is = known_as new 0 e.after q at_q e.is in (
      d.1,
      d.2,
      gone_after p.seat (seat_of p.seat d.0) q.seat p.caller b c kept kept Asked Idle (Collected d.1) (gave p.seat p.caller v.0 d.0 v.1 v.2 b kept v.3 d.3 d.4)
          (collects_gone DeedsGo (seat_of p.seat d.0) q.seat p.caller c kept d.0 v.1 (asking_still p.seat p.caller v.0 d.0 v.1 v.2 d.3) e.after d.1 is (ap (λ (n : SessionNote). n.batch) d.3.note) (any_batch d.0 e.after v.1 e.batch c d.1 e.turned)
          (d.0, Rests d.0, (e.batch, e.turns))),
    )
gives_each old new b c kept replies out g (suc j) p q at_p at_q =
    let v = out.polled (suc j) p at_p in
    let d = g.others (suc j) v.0 v.1 (omega arith) (p, at_p, v.2.is) (asked_of p.seat p.caller v.0 v.1 v.2 v.3) in
    let e = d.2 in
    let is = known_as new (suc j) e.after q at_q e.is in (
      d.0,
      d.1,
      collects_gone DeedsGo p.seat q.seat p.caller c kept v.0 v.1 v.2 e.after d.0 is v.3 (any_batch v.0 e.after v.1 e.batch c d.0 e.turned) (v.0, Rests v.0, (e.batch, e.turns)),
    )

-- they waited before
pub completes_after : (old mid new : List Member) (b c : BatchView) (kept now : RepliesView) (stage : EachStage) (replies : List Reply) → SameSpots old mid → SameSpots mid new → WaitsEach old mid b kept stage → CompletesEach mid new c now replies
    → CompletesEach old new c now replies
completes_after old mid new b c kept now stage replies first last waits completes j p q at_p at_q =
    let m = was_at mid new last j q at_q in
    let w = waits j p m.0 at_p m.1 in
    let d = completes j m.0 q m.1 at_q in
    (d.0, d.1, gone_after p.seat m.0.seat q.seat p.caller b c kept now (stage_at stage j) Idle (Collected d.0) w (subst (λ z. HasGone DeedsGo m.0.seat q.seat z c now Idle (Collected d.0)) (same_caller old mid first j p m.0 at_p m.1) d.2))

-- what each of them did before it collects
pub deeds_between : (old mid : List Member) (b : BatchView) (kept now : RepliesView) (stage next : EachStage) → SameSpots old mid → AreOut old b kept stage → AreOut mid b now next → WaitsEach old mid b now next → (j : ℕ) → j < length old → Deeds (session_at old j) (session_at mid j)
deeds_between old mid b kept now stage next same out out2 waits j lt =
    let p = at_there old j lt in
    let q = at_there mid j (spots_below old mid same j lt) in
    let k = known_in p.0.seat p.0.caller b kept (stage_at stage j) (out.polled j p.0 p.1) in
    let f = known_in q.0.seat q.0.caller b now (stage_at next j) (out2.polled j q.0 q.1) in
    subst (λ (z : K × K). Deeds z.0 z.1) (λ i. (sym (known_session old j k.0 (p.0, p.1, k.1) ∙ known_seen p.0.seat k.0 k.1 k.2) i, sym (known_session mid j f.0 (q.0, q.1, f.1) ∙ known_seen q.0.seat f.0 f.1 f.2) i)) (waits j p.0 q.0 p.1 q.1).goes
