-- What a post with its claim leaves, and answers with the turn behind them.
use Rattle.std.proofs.Common.{◌≡◌, Option, None, Some, IfNone, IfSome, ℕ, suc, ◌<◌, ◌≤◌, ◌^◌, [], ◌∷◌, length, sym, refl, ap, ◌∙◌, subst, arith}
use Rattle.ownlock.specs.Seats.{IsSession}
use Rattle.oplog.specs.Operations.{Operation}
use Rattle.oplog.specs.declared.records.Record.{Record}
use Rattle.combiner.specs.Desks.{BatchView, only}
use Rattle.replica.specs.StoreMeaning.{store_meaning}
use Rattle.replica.specs.Views.{RepliesView}
use Rattle.accounts.specs.declared.sessions.Pending.{Pending}
use Rattle.accounts.specs.declared.sessions.SessionNote.{SessionNote}
use Rattle.accounts.specs.Accounts.{Extends}
use Rattle.accounts.specs.Moves.{answered_with, posted_with}
use Rattle.accounts.specs.Told.{Tells}
use Rattle.accounts.proofs.Export.{grown_long}
use Rattle.store_steps.specs.declared.deeds.Deed.{Deed}
use Rattle.store_steps.specs.declared.deeds.Deed.TheVariants.{Busy, Went, Collected}
use Rattle.store_steps.specs.declared.deeds.Stage.{Stage}
use Rattle.store_steps.specs.declared.deeds.Stage.TheVariants.{Idle, Asked, Claimed, Ready}
use Rattle.store_steps.specs.declared.desks.Turn.{Turn}
use Rattle.store_steps.specs.declared.desks.Turn.TheVariants.{Collects, Combines, Waits}
use Rattle.store_steps.specs.declared.polling.Came.{Came}
use Rattle.store_steps.specs.declared.polling.Came.TheVariants.{Posted, Went as WentOn}
use Rattle.store_steps.specs.declared.steps.Caller.{Caller}
use Rattle.store_steps.specs.declared.steps.Shared.{Shared}
use Rattle.store_steps.specs.AtDesk.{IsReady}
use Rattle.store_steps.specs.AtOnce.{FoundNoAnswer, GivesAndTurns, PostsAndTurns}
use Rattle.store_steps.specs.Combining.{HasAnswered, HasClaimed, HasCombined}
use Rattle.store_steps.specs.Knowing.{IsOn, Knows}
use Rattle.store_steps.specs.Polling.{BeginsBy, BeginsInOneHold, DeedsGo, HasBegun, HasCome}
use Rattle.store_steps.specs.Requests.{HasPosted, HasTurned}
use Rattle.store_steps.specs.Stages.{HasDone, HasGone, IsAsking, IsOnItsWay, IsPolled, deed_after, stage_after}
use Rattle.store_steps.specs.Standing.{IsFree, SessionKnown, StoreSeat}
use Rattle.store_steps.specs.Updating.{Answers, ClaimsIt, DeedBy, DeedGoes, Deeds, Gives, Looks, PostsBy, Rests, Then, TurnsBy}
use Rattle.store_steps.specs.Whole.{AnswersBy, HandsOver}
use Rattle.store_steps.specs.Views.{IsIdle, SessionView, known_of, session_view}
use Rattle.store_steps.proofs.Gone.{asking_on, claims_gone, collects_gone, gave_gone, moved_answered, moved_combined, ran_gone, waits_gone}
use Rattle.store_steps.proofs.Resumed.{free_by, shelf_then}
use Rattle.store_steps.proofs.StoreLaws.{store_laws}
use Rattle.store_steps.proofs.Taken.{known_as, well_formed}
use Rattle.store_steps.proofs.Views.{goes_seen, seen_as, view_known}

abbrev K : Type 0
K = SessionKnown

abbrev S : Type 0
S = StoreSeat

-- a seat of the same shelf that is this session
abbrev pub seat_of : S → K → S
seat_of s k = record { shelf = s.shelf; sessions = k ∷ [] }

-- ---- deeds

pub one_deed : (k after : K) → DeedBy k after → Deeds k after
one_deed k after d = Then k k after (Rests k) d

pub deeds_on : (k m after : K) → Deeds k m → Deeds m after → Deeds k after
deeds_on k m after first (Rests j) = first
deeds_on k m after first (Then j n next more d) = Then k n next (deeds_on k m n first more) d

pub go_deeds : (k after : K) (deed : Deed) → DeedGoes k after deed → DeedsGo k after deed
go_deeds k after Busy d = one_deed k after d
go_deeds k after Went d = one_deed k after d
go_deeds k after (Collected reply) d = (k, Rests k, d)

pub deeds_after : (k m after : K) (deed : Deed) → Deeds k m → DeedsGo m after deed → DeedsGo k after deed
deeds_after k m after Busy first d = deeds_on k m after first d
deeds_after k m after Went first d = deeds_on k m after first d
deeds_after k m after (Collected reply) first d = (d.0, deeds_on k m d.0 first d.1, d.2)

-- ---- behind a post

pub begun_held : (old new : S) (caller : Caller) (i : IsIdle old caller) (op : Operation) (b : BatchView) (turn : Turn) → PostsAndTurns old new i.known op b turn → FoundNoAnswer turn → BeginsInOneHold (known_of (session_view old)) (known_of (session_view new)) op
begun_held old new caller i op b turn p none =
    goes_seen (λ x y. BeginsInOneHold x y op) old new (session_view old) i.known p.after i.is i.free.held refl p.is p.turned.back.held
    (record { asked = p.asked; posts = p.posts; again = p.again; batch = b; turn = turn; turns = p.turns; fresh = none })

module _ (old new : S) (caller : Caller) (i : IsIdle old caller) (few : suc (length i.known.note.answered) < 2 ^ 64) (m after : K) (op : Operation) (p : HasPosted i.known m op) (posts : PostsBy i.known m op) (is : IsSession new after) (b : BatchView) (kept : RepliesView) where
  asking : IsAsking (seat_of old m) caller m p.request
  asking =
      let long = grown_long store_meaning i.known.progress m.progress p.back.extends in
      let low = i.within in
      let seen = p.seen in
      record {
        is = refl;
        free = free_by caller i.known m p.back.session p.back.held p.back.extends i.free;
        pending = ap (λ (n : SessionNote). n.pending) p.note;
        unread = ap (λ (n : SessionNote). n.begun) p.note ∙ i.unread;
        few = subst (λ (n : SessionNote). suc (length n.answered) < 2 ^ 64) (sym p.note) few;
        well_formed = well_formed m.progress p.back.stands.notes p.back.stands.accounts;
        within = subst (λ (n : SessionNote). length n.answered ≤ length m.progress.history) (sym p.note) (omega (arith, long, low));
        before = subst (λ (n : SessionNote). length n.answered ≤ p.request.seen) (sym p.note) (omega (arith, seen, low));
      }

  begun : (stage : Stage) (deed : Deed) → IsOnItsWay (view_known old.shelf m) (session_view new) → HasGone DeedsGo (seat_of old m) new caller b kept stage deed → after.held ≡ [] → Deeds m after → HasBegun old new caller op b kept stage
  begun stage deed way h held deeds =
      let was = seen_as old i.known i.is in
      record {
        asked = subst (λ (z : SessionView). (o : Pending) × (o.op ≡ op) × (length z.progress.history ≤ o.seen) × (record (session_view new).note { batch = [] } ≡ record (posted_with z.note o) { batch = [] })) (sym was) (
          p.request,
          p.op_is,
          p.seen,
          way ∙ ap (λ (n : SessionNote). record n { batch = [] }) p.note,
        );
        goes = goes_seen (λ x y. BeginsBy x y op) old new (session_view old) i.known after i.is i.free.held refl is held (m, posts, deeds);
        session = h.session ∙ (p.back.session ∙ sym (ap (λ (z : SessionView). z.session) was));
        extends = subst (λ (z : SessionView). Extends z.progress (session_view new).progress) (sym was) (store_laws.extends_on i.known.progress m.progress (session_view new).progress p.back.extends h.extends);
        well_formed = h.well_formed;
        polled = h.polled;
      }

  alone : m.note.batch ≡ []
  alone = ap (λ (n : SessionNote). n.batch) p.note ∙ i.batch

  pub begun_waiting : HasTurned m after p.request b Waits → Deeds m after → HasBegun old new caller op b kept Asked
  begun_waiting h deeds = let g = waits_gone DeedsGo (seat_of old m) new caller b kept m p.request asking after is alone h deeds in begun Asked Busy g.done g h.back.held deeds

  pub begun_combining : HasTurned m after p.request b Combines → TurnsBy m after b Combines → HasBegun old new caller op b kept Claimed
  begun_combining h turns =
      let deeds = one_deed m after (ClaimsIt b alone turns h.turns.0) in
      let g = claims_gone DeedsGo (seat_of old m) new caller b kept m p.request asking after is h deeds in
      begun Claimed Went g.done g h.back.held deeds

  -- by any turn that found no answer
  pub begun_turned : (turn : Turn) → FoundNoAnswer turn → HasTurned m after p.request b turn → TurnsBy m after b turn
      → HasBegun old new caller op b kept (stage_after turn)
  begun_turned (Collects reply) none h turns = absurd none
  begun_turned Combines none h turns = begun_combining h turns
  begun_turned Waits none h turns = begun_waiting h (one_deed m after (Looks b alone turns h.turns))

-- so it is with whatever it did in the hold of its post
pub begun_by : (old new : S) (caller : Caller) (i : IsIdle old caller)
    → Knows old (λ k. suc (length k.note.answered) < 2 ^ 64) → (op : Operation) (b : BatchView) (kept : RepliesView)
    (turn : Turn) → PostsAndTurns old new i.known op b turn → FoundNoAnswer turn
    → HasBegun old new caller op b kept (stage_after turn)
begun_by old new caller i few op b kept turn p none =
    begun_turned old new caller i (known_as old (λ k. suc (length k.note.answered) < 2 ^ 64) few i.known i.is) p.asked
    p.after op p.posted p.posts p.is b kept turn none p.turned p.turns

-- ---- deed after deed

done_after : (old mid new : SessionView) → IsOnItsWay old mid → mid.session ≡ old.session → (deed : Deed) (o : Pending)
    → HasDone mid new o deed → HasDone old new o deed
done_after old mid new way same Busy o d = d ∙ way
done_after old mid new way same Went o d = d ∙ way
done_after old mid new way same (Collected reply) o d = (
  subst (λ (z : ℕ × SessionNote). Tells store_meaning new.progress z.0 (length z.1.answered) o reply)
      (λ j. (same j, way j)) d.0,
  d.1 ∙ (λ j. answered_with (way j) o.op reply),
)

pub gone_after : (old mid new : S) (caller : Caller) (b c : BatchView) (kept now : RepliesView) (stage next : Stage)
    (deed : Deed) → HasGone DeedsGo old mid caller b kept stage Busy → HasGone DeedsGo mid new caller c now next deed
    → HasGone DeedsGo old new caller c now next deed
gone_after old mid new caller b c kept now stage next deed g h = record {
  request = h.request;
  waited = sym (ap (λ (n : SessionNote). n.pending) g.done) ∙ h.waited;
  session = h.session ∙ g.session;
  extends = store_laws.extends_on _ _ _ g.extends h.extends;
  well_formed = h.well_formed;
  done = done_after (session_view old) (session_view mid) (session_view new) g.done g.session deed h.request h.done;
  goes = deeds_after _ (known_of (session_view mid)) _ deed g.goes h.goes;
  polled = h.polled;
}

pub gone_busy : (old new : S) (caller : Caller) (b : BatchView) (kept : RepliesView) (stage : Stage)
    → HasGone DeedsGo old new caller b kept stage Went → HasGone DeedsGo old new caller b kept stage Busy
gone_busy old new caller b kept stage g = record {
  request = g.request;
  waited = g.waited;
  session = g.session;
  extends = g.extends;
  well_formed = g.well_formed;
  done = g.done;
  goes = g.goes;
  polled = g.polled;
}

pub gone_by : (old new : S) (caller : Caller) (b : BatchView) (kept : RepliesView) (stage : Stage) (deed : Deed)
    → HasGone DeedGoes old new caller b kept stage deed → HasGone DeedsGo old new caller b kept stage deed
gone_by old new caller b kept stage deed g = record {
  request = g.request;
  waited = g.waited;
  session = g.session;
  extends = g.extends;
  well_formed = g.well_formed;
  done = g.done;
  goes = go_deeds (known_of (session_view old)) (known_of (session_view new)) deed g.goes;
  polled = g.polled;
}

-- a turn of an update that is posted
module _ (old new : S) (caller : Caller) (b : BatchView) (room : RepliesView) (k : K) (o : Pending)
    (a : IsAsking old caller k o) (alone : k.note.batch ≡ []) (after : K) (is : IsSession new after) where
  pub turned_gone : (turn : Turn) → HasTurned k after o b turn → TurnsBy k after b turn
      → HasGone DeedGoes old new caller b room (stage_after turn) (deed_after turn)
  turned_gone (Collects reply) h turns =
      collects_gone DeedGoes old new caller b room k o a after reply is alone h (b, turns)
  turned_gone Combines h turns =
      claims_gone DeedGoes old new caller b room k o a after is h (ClaimsIt b alone turns h.turns.0)
  turned_gone Waits h turns = waits_gone DeedGoes old new caller b room k o a after is alone h (Looks b alone turns h.turns)

-- ---- behind the answers of a batch

module _ (old : S) (caller : Caller) (k m : K) (o : Pending) (a : IsAsking old caller k o) where
  pub asking_still : HasCombined k m → IsAsking (seat_of old m) caller m o
  asking_still h = asking_on old (seat_of old m) caller k m o a refl (moved_combined k m h)

  -- the answers are handed over
  pub gave : (given : BatchView) (kept : RepliesView) → IsReady k given kept → (h : HasCombined k m)
      → HandsOver caller.node k m given kept → HasGone DeedsGo old (seat_of old m) caller given kept Asked Busy
  gave given kept ready h by = gone_busy old (seat_of old m) caller given kept Asked
      (gave_gone DeedsGo old (seat_of old m) caller given kept k o a m refl h
      (one_deed k m (Gives caller.node given kept ready by h.note)))

-- and the session has had a turn in the same hold
module _ (old new : S) (caller : Caller) (k : K) (o : Pending) (a : IsAsking old caller k o) (given : BatchView)
    (kept : RepliesView) (ready : IsReady k given kept) (b : BatchView) (room : RepliesView) where
  pub gave_and_turned : (turn : Turn) → GivesAndTurns caller.node new k o given kept b turn
      → HasGone DeedsGo old new caller b room (stage_after turn) (deed_after turn)
  gave_and_turned turn t =
      let mid = seat_of old t.combined in
      gone_after old mid new caller given b kept room Asked (stage_after turn) (deed_after turn)
      (gave old caller k t.combined o a given kept ready t.has t.gives)
      (gone_by mid new caller b room (stage_after turn) (deed_after turn)
      (turned_gone mid new caller b room t.combined o (asking_still old caller k t.combined o a t.has)
      (ap (λ (n : SessionNote). n.batch) t.has.note) t.after t.is turn t.turned t.turns))

-- ---- an update whose session claimed it alone

module _ (old mid new : S) (caller : Caller) (k m : K) (o : Pending) (a : IsAsking old caller k o)
    (is : IsSession mid m) (r : Record) (kept : RepliesView) (claimed : HasClaimed k (only r))
    (h : HasAnswered k m (only r) kept) (by : AnswersBy caller.node k m (only r) kept) where
  ran : (s : S) → IsSession s m → HasGone DeedsGo old s caller (only r) kept Ready Went
  ran s at = ran_gone DeedsGo old s caller (only r) kept k o a m at h
      (one_deed k m (Answers caller.node (only r) kept claimed.noted by h.ready))

  -- its answer is kept
  pub ran_alone : new ≡ mid → HasGone DeedsGo old new caller (only r) kept Ready Went
  ran_alone stays = ran new (ap (λ (s : S). s.sessions) stays ∙ is)

  -- its answer is handed over
  pub gave_alone : (b : BatchView) (room : RepliesView) (turn : Turn)
      → GivesAndTurns caller.node new m o (only r) kept b turn
      → HasGone DeedsGo old new caller b room (stage_after turn) (deed_after turn)
  gave_alone b room turn t =
      gone_after old mid new caller (only r) b kept room Ready (stage_after turn) (deed_after turn)
      (gone_busy old mid caller (only r) kept Ready (ran mid is))
      (gave_and_turned mid new caller m o (asking_on old mid caller k m o a is (moved_answered k m (only r) kept h))
      (only r) kept h.ready b room turn t)

-- ---- behind a call that asked

-- the session holds nothing, and is of this store
abbrev Idles : Shared → Caller → S → Type 0
Idles shared caller s = Knows s (λ k. IsFree caller k × IsOn shared k)

module _ (shared : Shared) (caller : Caller) (old new : S) (idle : Idles shared caller old) where
  on_then : (m : K) → IsSession new m → Extends (session_view old).progress (session_view new).progress
      → IsFree caller m → Idles shared caller new
  on_then m is grown free =
      let grew = subst (λ (z : SessionView × SessionView). Extends z.0.progress z.1.progress)
      (λ j. (seen_as old idle.0 idle.1 j, seen_as new m is j)) grown in
      (m, is, (free, shelf_then _ _ _ _ idle.0 m grew idle.2.1))

  idles_then : (b : BatchView) (kept : RepliesView) (stage : Stage) → IsPolled new caller b kept stage
      → Extends (session_view old).progress (session_view new).progress → Idles shared caller new
  idles_then b kept Idle v grown = on_then v.known v.is grown v.free
  idles_then b kept Asked v grown = on_then v.0 v.2.is grown v.2.free
  idles_then b kept Claimed v grown = on_then v.0 v.2.is grown v.2.free
  idles_then b kept Ready v grown = on_then v.0 v.2.is grown v.2.free

  pub idles_after : (op : Operation) (b : BatchView) (kept : RepliesView) (came : Option Came)
      → IfNone came (new ≡ old) → IfSome came (HasCome old new caller op b kept) → Idles shared caller new
  idles_after op b kept None same has = subst (Idles shared caller) (sym same) idle
  idles_after op b kept (Some (Posted stage)) same has = idles_then b kept stage has.0.polled has.0.extends
  idles_after op b kept (Some (WentOn stage deed)) same has = idles_then b kept stage has.gone.polled
      (store_laws.extends_on _ _ _ (has.begun kept).extends has.gone.extends)
