-- What a deed leaves of an update that is out.
use Rattle.std.proofs.Common.{◌≡◌, suc, ◌<◌, ◌≤◌, ◌^◌, [], ◌∷◌, length, length-append, sym, refl, ap, ◌∙◌, subst, arith, Some, None}
use Rattle.ownlock.specs.Seats.{IsSession}
use Rattle.ownlock.proofs.Export.{one_known}
use Rattle.combiner.specs.Desks.{BatchView}
use Rattle.combiner.specs.declared.slots.Reply.{Reply}
use Rattle.combiner.specs.declared.slots.Reply.TheVariants.{Placed, Ended}
use Rattle.replica.specs.StoreMeaning.{store_meaning}
use Rattle.replica.specs.Views.{RepliesView}
use Rattle.accounts.specs.declared.sessions.Pending.{Pending}
use Rattle.accounts.specs.declared.sessions.SessionNote.{SessionNote}
use Rattle.accounts.specs.Accounts.{Extends, IsWellFormed}
use Rattle.accounts.specs.Moves.{answered_with}
use Rattle.accounts.specs.Told.{Tells}
use Rattle.accounts.proofs.Export.{grown_long}
use Rattle.store_steps.specs.declared.deeds.Deed.{Deed}
use Rattle.store_steps.specs.declared.deeds.Deed.TheVariants.{Busy, Went, Collected}
use Rattle.store_steps.specs.declared.deeds.Stage.{Stage}
use Rattle.store_steps.specs.declared.deeds.Stage.TheVariants.{Idle, Asked, Claimed, Ready}
use Rattle.store_steps.specs.declared.desks.Turn.TheVariants.{Collects, Combines, Waits}
use Rattle.store_steps.specs.declared.steps.Caller.{Caller}
use Rattle.store_steps.specs.declared.steps.Shared.{Shared}
use Rattle.store_steps.specs.AtDesk.{HasAsked}
use Rattle.store_steps.specs.Combining.{HasAnswered, HasClaimed, HasCombined}
use Rattle.store_steps.specs.Knowing.{IsOn, Knows}
use Rattle.store_steps.specs.Requests.{HasTurned, IsBack}
use Rattle.store_steps.specs.Stages.{HasDone, HasGone, IsAsking, IsOnItsWay, IsPolled}
use Rattle.store_steps.specs.Views.{SessionView, session_view}
use Rattle.store_steps.specs.Standing.{SessionKnown, StoreSeat}
use Rattle.store_steps.specs.Trying.{IsStill}
use Rattle.store_steps.proofs.Views.{both, goes_seen, seen_as, view_known}
use Rattle.store_steps.proofs.Resumed.{free_by, has_claimed}
use Rattle.store_steps.proofs.StoreLaws.{store_laws}
use Rattle.store_steps.proofs.Taken.{well_formed}
use Rattle.store_steps.proofs.Tried.{claimed_still}

abbrev K : Type 0
K = SessionKnown

abbrev S : Type 0
S = StoreSeat

pub asks : (s : S) (caller : Caller) (k : K) (o : Pending) → IsAsking s caller k o
    → (session_view s).note.pending ≡ Some o
asks s caller k o a = ap (λ (z : SessionView). z.note.pending) (seen_as s k a.is) ∙ a.pending

pub on_known : (shared : Shared) (s : S) (k : K) → IsSession s k → Knows s (IsOn shared) → IsOn shared k
on_known shared s k is on = subst (λ z. IsOn shared z) (one_known s on.0 k on.1 is) on.2

-- ---- it waits for the same answer, and knows more

pub record Moved (k m : K) : Type 0 where
  pub session : m.session ≡ k.session
  pub held : m.held ≡ []
  pub extends : Extends k.progress m.progress
  pub well : IsWellFormed store_meaning m.progress
  pub way : record m.note { batch = [] } ≡ record k.note { batch = [] }

pub asking_on : (old new : S) (caller : Caller) (k m : K) (o : Pending) → IsAsking old caller k o → IsSession new m
    → Moved k m → IsAsking new caller m o
asking_on old new caller k m o a is v = record {
  is = is;
  free = free_by caller k m v.session v.held v.extends a.free;
  pending = ap (λ (n : SessionNote). n.pending) v.way ∙ a.pending;
  unread = ap (λ (n : SessionNote). n.begun) v.way ∙ a.unread;
  few = subst (λ z. suc (length z) < 2 ^ 64) (sym answered) a.few;
  well_formed = v.well;
  within = let long = grown_long store_meaning k.progress m.progress v.extends in let low = a.within in subst (λ z. length z ≤ length m.progress.history) (sym answered) (omega (arith, long, low));
  before = subst (λ z. length z ≤ o.seen) (sym answered) a.before;
}
  where
    answered : m.note.answered ≡ k.note.answered
    answered = ap (λ (n : SessionNote). n.answered) v.way

pub asked_of : (s : S) (caller : Caller) (k : K) (o : Pending) → IsAsking s caller k o → k.note.batch ≡ []
    → HasAsked k o
asked_of s caller k o a alone = record { pending = a.pending; alone = alone; few = a.few }

moved_back : (k m : K) → IsBack k m → record m.note { batch = [] } ≡ record k.note { batch = [] } → Moved k m
moved_back k m b way = record { session = b.session; held = b.held; extends = b.extends; well = well_formed m.progress b.stands.notes b.stands.accounts; way = way }

-- who has what the programs of its batch answer has moved, and so has who handed that over
pub moved_answered : (k m : K) (b : BatchView) (kept : RepliesView) → HasAnswered k m b kept → Moved k m
moved_answered k m b kept h = record { session = h.session; held = h.held; extends = h.extends; well = well_formed m.progress h.stands.notes h.stands.accounts; way = h.note }

pub moved_combined : (k m : K) → HasCombined k m → Moved k m
moved_combined k m h = record { session = h.session; held = h.held; extends = h.extends; well = well_formed m.progress h.stands.notes h.stands.accounts; way = ap (λ (n : SessionNote). record n { batch = [] }) h.note }

-- ---- what a deed leaves

module _ (Goes : K → K → Deed → Type 0) (old new : S) (caller : Caller) (b : BatchView) (kept : RepliesView) (k : K) (o : Pending) (a : IsAsking old caller k o) where
  abbrev Leaves : Stage → Deed → Type 0
  Leaves stage deed = HasGone Goes old new caller b kept stage deed

  gone : (m : K) (stage : Stage) (deed : Deed) → IsSession new m → m.session ≡ k.session → m.held ≡ []
      → Extends k.progress m.progress → IsWellFormed store_meaning m.progress
      → HasDone (view_known old.shelf k) (view_known new.shelf m) o deed → IsPolled new caller b kept stage
      → Goes k m deed → Leaves stage deed
  gone m stage deed is session held extends well done polled goes = record {
    request = o;
    waited = asks old caller k o a;
    session = both old new k m a.is is (λ x y. y.session ≡ x.session) session;
    extends = both old new k m a.is is (λ x y. Extends x.progress y.progress) extends;
    well_formed = both old new k m a.is is (λ x y. IsWellFormed store_meaning y.progress) well;
    done = both old new k m a.is is (λ x y. HasDone x y o deed) done;
    goes = goes_seen (λ x y. Goes x y deed) old new (session_view old) k m a.is a.free.held refl is held goes;
    polled = polled;
  }

  -- the session waits on
  on_way : (m : K) (stage : Stage) (deed : Deed)
      → (IsOnItsWay (view_known old.shelf k) (view_known new.shelf m) → HasDone (view_known old.shelf k) (view_known new.shelf m) o deed) → IsSession new m → Moved k m → IsPolled new caller b kept stage → Goes k m deed → Leaves stage deed
  on_way m stage deed told is v polled goes = gone m stage deed is v.session v.held v.extends v.well (told v.way) polled goes

  -- the seat is as it was
  pub stays_gone : new ≡ old → (stage : Stage) → IsPolled old caller b kept stage → Goes k k Busy → Leaves stage Busy
  stays_gone e stage v goes = gone k stage Busy (ap (λ (z : S). z.sessions) e ∙ a.is) refl a.free.held (store_laws.extends_self k.progress) a.well_formed refl (subst (λ z. IsPolled z caller b kept stage) (sym e) v) goes

  pub waits_gone : (m : K) → IsSession new m → k.note.batch ≡ [] → HasTurned k m o b Waits → Goes k m Busy
      → Leaves Asked Busy
  waits_gone m is alone h goes =
      let v = moved_back k m h.back (ap (λ (n : SessionNote). record n { batch = [] }) h.turns) in
      on_way m Asked Busy (λ w. w) is v (m, o, asking_on old new caller k m o a is v, ap (λ (n : SessionNote). n.batch) h.turns ∙ alone) goes

  pub claims_gone : (m : K) → IsSession new m → HasTurned k m o b Combines → Goes k m Went → Leaves Claimed Went
  claims_gone m is h goes =
      let v = moved_back k m h.back (ap (λ (n : SessionNote). record n { batch = [] }) h.turns.0) in
      on_way m Claimed Went (λ w. w) is v (m, o, asking_on old new caller k m o a is v, has_claimed k m o b h) goes

  pub held_gone : (m : K) → IsSession new m → HasClaimed k b → IsStill k m → Goes k m Busy → Leaves Claimed Busy
  held_gone m is claimed s goes =
      let v : Moved k m = record { session = s.session; held = s.held; extends = s.extends; well = s.well_formed a.well_formed; way = ap (λ (n : SessionNote). record n { batch = [] }) s.note } in
      on_way m Claimed Busy (λ w. w) is v (m, o, asking_on old new caller k m o a is v, claimed_still k m b s claimed) goes

  pub ran_gone : (m : K) → IsSession new m → HasAnswered k m b kept → Goes k m Went → Leaves Ready Went
  ran_gone m is h goes =
      let v = moved_answered k m b kept h in
      on_way m Ready Went (λ w. w) is v (m, o, asking_on old new caller k m o a is v, h.ready, h.stands) goes

  pub gave_gone : (m : K) → IsSession new m → HasCombined k m → Goes k m Went → Leaves Asked Went
  gave_gone m is h goes =
      let v = moved_combined k m h in
      on_way m Asked Went (λ w. w) is v (m, o, asking_on old new caller k m o a is v, ap (λ (n : SessionNote). n.batch) h.note) goes

  -- the session has its answer
  pub collects_gone : (m : K) (reply : Reply) → IsSession new m → k.note.batch ≡ []
      → HasTurned k m o b (Collects reply) → Goes k m (Collected reply) → Leaves Idle (Collected reply)
  collects_gone m reply is alone h goes =
      let well = well_formed m.progress h.back.stands.notes h.back.stands.accounts in
      gone m Idle (Collected reply) is h.back.session h.back.held h.back.extends well (h.turns.1, h.turns.0 ∙ (λ i. answered_with (record k.note { batch = alone i }) o.op reply))
      (record {
        known = m;
        is = is;
        free = free_by caller k m h.back.session h.back.held h.back.extends a.free;
        pending = ap (λ (n : SessionNote). n.pending) h.turns.0 ∙ none_pending reply;
        unread = ap (λ (n : SessionNote). n.begun) h.turns.0 ∙ same_begun reply;
        batch = ap (λ (n : SessionNote). n.batch) h.turns.0 ∙ same_batch reply;
        well_formed = well;
        within = subst (λ (n : SessionNote). length n.answered ≤ length m.progress.history) (sym h.turns.0) (fits reply h.turns.1);
      })
      goes
    where
      none_pending : (reply : Reply) → (answered_with k.note o.op reply).pending ≡ None
      none_pending (Placed i x) = refl
      none_pending Ended = refl

      same_begun : (reply : Reply) → (answered_with k.note o.op reply).begun ≡ None
      same_begun (Placed i x) = a.unread
      same_begun Ended = a.unread

      same_batch : (reply : Reply) → (answered_with k.note o.op reply).batch ≡ []
      same_batch (Placed i x) = alone
      same_batch Ended = alone

      fits : (reply : Reply) → Tells store_meaning m.progress k.session (length k.note.answered) o reply
          → length (answered_with k.note o.op reply).answered ≤ length m.progress.history
      fits (Placed i x) t = let more = length-append k.note.answered (record { index = i; op = o.op; reply = x } ∷ []) in let far = t.0 in let lt = t.1.0 in let top = h.back.stands.accounts.completed in let small = a.before in omega (arith, more, far, lt, top, small)
      fits Ended t = let long = grown_long store_meaning k.progress m.progress h.back.extends in let small = a.within in omega (arith, long, small)
