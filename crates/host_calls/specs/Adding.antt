-- Which calls and answers a call of a host adds to those of its session.
use Rattle.std.specs.Prelude.{◌≡◌, ℕ, List, [], ◌∷◌, Option, Some, None}
use Rattle.verifier.specs.declared.refusal.Mode.TheVariants.{Read, Update}
use Rattle.oplog.specs.Operations.{Operation}
use Rattle.combiner.specs.declared.slots.Reply.{Reply}
use Rattle.combiner.specs.declared.slots.Reply.TheVariants.{Ended, Placed}
use Rattle.replica.specs.declared.refusals.StoreRefused.{StoreRefused}
use Rattle.replica.specs.declared.refusals.StoreRefused.TheVariants.{Ended as TheEnd}
use Rattle.accounts.specs.declared.sessions.Pending.{Pending}
use Rattle.schedule.specs.Trace.{Back, Call, ReadBack, Trace, Updated}
use Rattle.store.specs.Linear.{Adds}
use Rattle.host_calls.specs.declared.attached.CallResult.{CallResult}
use Rattle.host_calls.specs.declared.attached.CallResult.TheVariants.{Again, Answered as Answers, Refused}
use Rattle.host_calls.specs.declared.handles.SessionHandle.{SessionHandle}
use Rattle.host_calls.specs.Calls.{Asks, Checks, Goes, Nothing, Posts, Reads, Updates, asks}
use Rattle.host_calls.specs.Views.{AttachedView}

-- what a session is told of its update, where that is answered
abbrev pub reply_told : CallResult → Option Reply
reply_told (Answers point reply) = Some (Placed point reply)
reply_told (Refused TheEnd) = Some Ended
reply_told told = None

abbrev pub answer_event : (session : ℕ) → Option Reply → Trace
answer_event session None = []
answer_event session (Some reply) = Back session (Updated reply) ∷ []

-- of an update that isn't refused, of a session that waited for nothing: it is posted, or answered too, or neither
abbrev pub posted_events : (session : ℕ) → Operation → CallResult → Trace
posted_events session op Again = Call session Update op ∷ []
posted_events session op (Answers point reply) =
    Call session Update op ∷ Back session (Updated (Placed point reply)) ∷ []
posted_events session op (Refused TheEnd) = Call session Update op ∷ Back session (Updated Ended) ∷ []
posted_events session op told = []

-- The same by why the store refuses it, if it does, and by the request that the session waited for. A session that waited goes on with that request, so
-- what comes is that one's answer.
abbrev pub update_events : (session : ℕ) → Operation → Option StoreRefused → Option Pending → CallResult → Trace
update_events session op refused (Some o) told = answer_event session (reply_told told)
update_events session op (Some why) None told = []
update_events session op None None told = posted_events session op told

-- of a read, if it is answered
abbrev pub read_events : (session : ℕ) → Operation → Option Pending → CallResult → Trace
read_events session op None (Answers point reply) =
    Call session Read op ∷ Back session (ReadBack (record { point = point; reply = reply })) ∷ []
read_events session op out told = []

abbrev pub call_events : (session : ℕ) → Asks → Option Pending → CallResult → Trace
call_events session (Updates op refused) out told = update_events session op refused out told
call_events session (Posts op refused) out told = update_events session op refused out told
call_events session (Reads op refused) out told = read_events session op out told
call_events session (Checks refused) out told = []
call_events session Nothing out told = []

-- so it is of each call at an open handle
abbrev pub CallsAdd : Type 0
CallsAdd =
    (bytes : List ℕ) (before after : SessionHandle) (g : Goes bytes before after) (a b : AttachedView)
    → before.own ≡ Some a → after.own ≡ Some b
    → Adds a.session b.session
    (call_events a.session.session (asks a.store before.asked bytes) a.session.note.pending g.told)
