-- A call adds what it tells.
use Rattle.std.proofs.Common.{◌≡◌, ◌++◌, [], ◌∷◌, append_assoc, refl, sym, ap, ◌∙◌, subst, Option, Some, None}
use Rattle.std.specs.Prelude.{MatchOption}
use Rattle.verifier.specs.declared.refusal.Mode.TheVariants.{Update}
use Rattle.oplog.specs.Operations.{Operation}
use Rattle.combiner.specs.declared.slots.Reply.TheVariants.{Ended, Placed}
use Rattle.replica.specs.declared.refusals.StoreRefused.{StoreRefused}
use Rattle.accounts.specs.declared.sessions.Pending.{Pending}
use Rattle.accounts.specs.declared.sessions.SessionNote.{SessionNote}
use Rattle.schedule.specs.Trace.{Call}
use Rattle.store_steps.specs.Views.{SessionView}
use Rattle.store_laws.specs.RunEvents.{own_trace}
use Rattle.store.specs.Linear.{Adds}
use Rattle.store.proofs.Export.{Notes, adds_noted, adds_still, answered_notes, posts_notes, quiet, reads_notes, still, waits_notes}
use Rattle.host_calls.specs.declared.attached.CallResult.{CallResult}
use Rattle.host_calls.specs.declared.attached.CallResult.TheVariants.{Busy, Again, Answered, Refused, NotOpen, IsOut, NoWord, Allowed}
use Rattle.host_calls.specs.Adding.{CallsAdd, answer_event, call_events, posted_events, read_events, reply_told, update_events}
use Rattle.host_calls.specs.CallResults.{HasGrown, TellsNew, TellsOut, TellsPostedAlone, TellsPosting, TellsRefused, TellsSeen}
use Rattle.host_calls.specs.CallResults.{posted_as}
use Rattle.host_calls.specs.Calls.{Asks, Checks, Nothing, Posts, Reads, TellsAttached, TellsCall, Updates, asks}

-- ---- an update

-- one that is out
out : (old new : SessionView) (o : Pending) (told : CallResult) → TellsOut old new o told
    → Notes old new (answer_event old.session (reply_told told))
out old new o Again t = waits_notes old new t
out old new o (Answered point reply) t = answered_notes old new o (Placed point reply) t.1
out old new o (Refused why) t = subst (λ z. Notes old new (answer_event old.session (reply_told (Refused z)))) (sym t.0)
    (answered_notes old new o Ended t.1.1)
out old new o Busy t = absurd t
out old new o NotOpen t = absurd t
out old new o IsOut t = absurd t
out old new o NoWord t = absurd t
out old new o Allowed t = absurd t

-- one that is posted now
after_post : (op : Operation) (old new : SessionView) (told : CallResult) → TellsNew op old new told
    → Notes old new (Call old.session Update op ∷ answer_event old.session (reply_told told))
after_post op old new told t =
    let o = t.0 in
    let events = answer_event old.session (reply_told told) in
    out (posted_as old o) new o told t.3
    ∙ (ap (λ z. z ++ events) (posts_notes old (posted_as old o) o op t.1 refl)
    ∙ append_assoc (own_trace old.session old.note) (Call old.session Update op ∷ []) events)

posting : (op : Operation) (old new : SessionView) (told : CallResult) → TellsPosting op old new told
    → Notes old new (posted_events old.session op told)
posting op old new Busy t = still old new t
posting op old new Again t = after_post op old new Again t
posting op old new (Answered point reply) t = after_post op old new (Answered point reply) t
posting op old new (Refused why) t =
    let is = t.3.0 in
    subst (λ z. Notes old new (posted_events old.session op (Refused z))) (sym is)
    (subst (λ z. Notes old new (Call old.session Update op ∷ answer_event old.session (reply_told (Refused z)))) is
    (after_post op old new (Refused why) t))
posting op old new NotOpen t = absurd t.3
posting op old new IsOut t = absurd t.3
posting op old new NoWord t = absurd t.3
posting op old new Allowed t = absurd t.3

posted_alone : (op : Operation) (old new : SessionView) (told : CallResult) → TellsPostedAlone op old new told
    → Notes old new (posted_events old.session op told)
posted_alone op old new Busy t = still old new t
posted_alone op old new Again t = posts_notes old new t.0 op t.1 (ap (λ (n : SessionNote). n.events) t.3)
posted_alone op old new (Answered point reply) t = absurd t
posted_alone op old new (Refused why) t = absurd t
posted_alone op old new NotOpen t = absurd t
posted_alone op old new IsOut t = absurd t
posted_alone op old new NoWord t = absurd t
posted_alone op old new Allowed t = absurd t

-- by why it is refused, if it is, and by what the session waited for
module _ (op : Operation) (old new : SessionView) (told : CallResult) where
  by_refused : (refused : Option StoreRefused) (posts : Type 0)
      → MatchOption refused posts (λ why. TellsRefused old new told why)
      → (posts → Notes old new (posted_events old.session op told))
      → Notes old new (update_events old.session op refused None told)
  by_refused None posts is told_of = told_of is
  by_refused (Some why) posts is told_of = still old new is.1

  by_pending : (refused : Option StoreRefused) (posts : Type 0) (pending : Option Pending)
      → MatchOption pending (MatchOption refused posts (λ why. TellsRefused old new told why))
      (λ o. TellsOut old new o told)
      → (posts → Notes old new (posted_events old.session op told))
      → Notes old new (update_events old.session op refused pending told)
  by_pending refused posts None is told_of = by_refused refused posts is told_of
  by_pending refused posts (Some o) is told_of = out old new o told is

-- ---- a call

read_seen : (op : Operation) (old new : SessionView) (told : CallResult) → TellsSeen op old new told
    → Notes old new (read_events old.session op None told)
read_seen op old new Busy t = quiet old new t
read_seen op old new Again t = absurd t
read_seen op old new (Answered point reply) t = reads_notes old new op (record { point = point; reply = reply }) t.0
read_seen op old new (Refused why) t = absurd t
read_seen op old new NotOpen t = absurd t
read_seen op old new IsOut t = absurd t
read_seen op old new NoWord t = absurd t
read_seen op old new Allowed t = absurd t

-- what is refused is no answer
read_refused : (op : Operation) (old new : SessionView) (told : CallResult) (why : StoreRefused)
    → TellsRefused old new told why
    → Notes old new (read_events old.session op None told)
read_refused op old new told why t = subst (λ z. Notes old new (read_events old.session op None z)) (sym t.0) (still old new t.1)

module _ (op : Operation) (old new : SessionView) (told : CallResult) (same : new.session ≡ old.session) where
  by_verdict : (refused : Option StoreRefused)
      → MatchOption refused (TellsSeen op old new told) (λ why. TellsRefused old new told why)
      → Notes old new (read_events old.session op None told)
  by_verdict None t = read_seen op old new told t
  by_verdict (Some why) t = read_refused op old new told why t

  by_read : (refused : Option StoreRefused) (pending : Option Pending)
      → MatchOption pending (HasGrown old new × MatchOption refused (TellsSeen op old new told) (λ why. TellsRefused old new told why))
      (λ o. (told ≡ IsOut) × (new ≡ old)) → Adds old new (read_events old.session op pending told)
  by_read refused None is = adds_noted old new _ same is.0.gone (by_verdict refused is.1)
  by_read refused (Some o) is = adds_still old new is.1

call_adds : (asked : Asks) (old new : SessionView) (told : CallResult) → new.session ≡ old.session
    → TellsCall asked old new told → Adds old new (call_events old.session asked old.note.pending told)
call_adds (Updates op refused) old new told same t = adds_noted old new _ same t.0.gone
    (by_pending op old new told refused _ old.note.pending t.1 (posting op old new told))
call_adds (Posts op refused) old new told same t = adds_noted old new _ same t.0.gone
    (by_pending op old new told refused _ old.note.pending t.1 (posted_alone op old new told))
call_adds (Reads op refused) old new told same t = by_read op old new told same refused old.note.pending t
call_adds (Checks refused) old new told same t = adds_still old new t.1
call_adds Nothing old new told same t = adds_still old new t.1

pub calls_add : CallsAdd
calls_add bytes before after g a b has had =
    let t = subst (λ z. MatchOption z ((g.told ≡ NotOpen) × (after.own ≡ None))
    (λ x. MatchOption after.own ⊥ (λ y. TellsAttached before.asked bytes x y g.told))) has g.tells in
    let is = subst (λ z. MatchOption z ⊥ (λ y. TellsAttached before.asked bytes a y g.told)) had t in
    call_adds (asks a.store before.asked bytes) a.session b.session g.told is.same.session is.tells
