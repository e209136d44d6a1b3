-- An update on its way: the four stages in which it stands between two deeds, and what a deed leaves.
use Rattle.std.specs.Prelude.{◌≡◌, suc, ◌≤◌, ◌<◌, ◌^◌, [], length, Some, None}
use Rattle.ownlock.specs.Seats.{IsSession}
use Rattle.combiner.specs.Desks.{BatchView}
use Rattle.combiner.specs.declared.slots.Reply.{Reply}
use Rattle.replica.specs.StoreMeaning.{store_meaning}
use Rattle.replica.specs.Views.{RepliesView}
use Rattle.accounts.specs.declared.sessions.Pending.{Pending}
use Rattle.accounts.specs.Accounts.{Extends, IsWellFormed}
use Rattle.accounts.specs.Moves.{answered_with}
use Rattle.accounts.specs.Told.{Tells}
use Rattle.store_steps.specs.declared.deeds.Deed.{Deed}
use Rattle.store_steps.specs.declared.deeds.Deed.TheVariants.{Busy, Went, Collected}
use Rattle.store_steps.specs.declared.deeds.Stage.{Stage}
use Rattle.store_steps.specs.declared.deeds.Stage.TheVariants.{Idle, Asked, Claimed, Ready}
use Rattle.store_steps.specs.declared.desks.Turn.{Turn}
use Rattle.store_steps.specs.declared.desks.Turn.TheVariants.{Collects, Combines, Waits}
use Rattle.store_steps.specs.declared.steps.Caller.{Caller}
use Rattle.store_steps.specs.AtDesk.{IsReady}
use Rattle.store_steps.specs.Combining.{HasClaimed}
use Rattle.store_steps.specs.Views.{IsIdle, SessionView, known_of, session_view}
use Rattle.store_steps.specs.Standing.{IsFree, SessionKnown, StoreSeat, Stands}

-- ---- between its calls

-- the session of that slot holds nothing, and waits for the answer to this request
pub record IsAsking (s : StoreSeat) (caller : Caller) (k : SessionKnown) (o : Pending) : Type 0 where
  pub is : IsSession s k
  pub free : IsFree caller k
  pub pending : k.note.pending ≡ Some o
  pub unread : k.note.begun ≡ None
  pub few : suc (length k.note.answered) < 2 ^ 64
  pub well_formed : IsWellFormed store_meaning k.progress
  pub within : length k.note.answered ≤ length k.progress.history
  pub before : length k.note.answered ≤ o.seen

-- the session waits, and combines for nobody
abbrev pub IsAsked : StoreSeat → Caller → Type 0
IsAsked s caller = (k : SessionKnown) × (o : Pending) × IsAsking s caller k o × (k.note.batch ≡ [])

-- no update is out; or one is posted; or the session has claimed the requests of its node besides, and has them in the batch; or it has
-- what their programs answer too
abbrev pub IsPolled : StoreSeat → Caller → BatchView → RepliesView → Stage → Type 0
IsPolled s caller b kept Idle = IsIdle s caller
IsPolled s caller b kept Asked = IsAsked s caller
IsPolled s caller b kept Claimed = (k : SessionKnown) × (o : Pending) × IsAsking s caller k o × HasClaimed k b
IsPolled s caller b kept Ready = (k : SessionKnown) × (o : Pending) × IsAsking s caller k o × IsReady k b kept × Stands k

-- an update is out
abbrev pub IsOut : Stage → Type 0
IsOut Idle = ⊥
IsOut Asked = Unit {0}
IsOut Claimed = Unit {0}
IsOut Ready = Unit {0}

-- how an update stands after a turn of its session, and what became of the deed
abbrev pub stage_after : Turn → Stage
stage_after (Collects reply) = Idle
stage_after Combines = Claimed
stage_after Waits = Asked

abbrev pub deed_after : Turn → Deed
deed_after (Collects reply) = Collected reply
deed_after Combines = Went
deed_after Waits = Busy

-- ---- what a deed tells

-- the session waits for the same answer still: its note has changed in nothing but its batch
abbrev pub IsOnItsWay : (old new : SessionView) → Type 0
IsOnItsWay old new = record new.note { batch = [] } ≡ record old.note { batch = [] }

-- the session has its answer, has noted it, and waits for nothing
abbrev pub TellsDone : (old new : SessionView) → Pending → Reply → Type 0
TellsDone old new o reply = Tells store_meaning new.progress old.session (length old.note.answered) o reply × (new.note ≡ answered_with (record old.note { batch = [] }) o.op reply)

abbrev pub HasDone : (old new : SessionView) → Pending → Deed → Type 0
HasDone old new o Busy = IsOnItsWay old new
HasDone old new o Went = IsOnItsWay old new
HasDone old new o (Collected reply) = TellsDone old new o reply

-- ---- one deed

-- what a deed of an update that was out leaves, as the session is seen, by which steps, and what may stand between its calls then
pub record HasGone (Goes : SessionKnown → SessionKnown → Deed → Type 0) (old new : StoreSeat) (caller : Caller) (b : BatchView) (kept : RepliesView) (stage : Stage) (deed : Deed) : Type 0 where
  pub request : Pending
  pub waited : (session_view old).note.pending ≡ Some request
  pub session : (session_view new).session ≡ (session_view old).session
  pub extends : Extends (session_view old).progress (session_view new).progress
  pub well_formed : IsWellFormed store_meaning (session_view new).progress
  pub done : HasDone (session_view old) (session_view new) request deed
  pub goes : Goes (known_of (session_view old)) (known_of (session_view new)) deed
  pub polled : IsPolled new caller b kept stage
