-- What a session does at its desk with a request of its own, from its post to its answer.
use Rattle.std.specs.Prelude.{◌≡◌, ◌<◌, ◌≤◌, [], length}
use Rattle.oplog.specs.Operations.{Operation}
use Rattle.combiner.specs.Desks.{BatchView}
use Rattle.combiner.specs.declared.slots.Reply.{Reply}
use Rattle.replica.specs.StoreMeaning.{store_meaning}
use Rattle.accounts.specs.declared.sessions.Pending.{Pending}
use Rattle.accounts.specs.Accounts.{Extends}
use Rattle.accounts.specs.Batches.{Ascend}
use Rattle.accounts.specs.Moves.{answered_with, posted_with, unplaced}
use Rattle.accounts.specs.Told.{Tells}
use Rattle.store_steps.specs.declared.desks.Turn.{Turn}
use Rattle.store_steps.specs.declared.desks.Turn.TheVariants.{Collects, Combines, Waits}
use Rattle.store_steps.specs.Standing.{SessionKnown, Stands}

-- ---- what its calls leave

-- the session holds nothing, and what it knows has grown
pub record IsBack (k after : SessionKnown) : Type 0 where
  pub session : after.session ≡ k.session
  pub held : after.held ≡ []
  pub extends : Extends k.progress after.progress
  pub stands : Stands after

-- the session has posted the operation, and waits for its answer; when it did, the history was no shorter than it had known
pub record HasPosted (k after : SessionKnown) (op : Operation) : Type 0 where
  pub back : IsBack k after
  pub request : Pending
  pub op_is : request.op ≡ op
  pub seen : length k.progress.history ≤ request.seen
  pub note : after.note ≡ posted_with k.note request

-- what the session notes of its turn, and what it may say of an answer
abbrev pub Turns : SessionKnown → SessionKnown → Pending → BatchView → Turn → Type 0
Turns k after o batch (Collects reply) = (after.note ≡ answered_with k.note o.op reply) × Tells store_meaning after.progress k.session (length k.note.answered) o reply
Turns k after o batch Combines = (after.note ≡ record k.note { batch = unplaced batch.records }) × (0 < length batch.records) × Ascend batch.records
Turns k after o batch Waits = after.note ≡ k.note

pub record HasTurned (k after : SessionKnown) (o : Pending) (batch : BatchView) (turn : Turn) : Type 0 where
  pub back : IsBack k after
  pub turns : Turns k after o batch turn

-- the session has its answer
pub record HasCompleted (k after : SessionKnown) (o : Pending) (reply : Reply) : Type 0 where
  pub back : IsBack k after
  pub note : after.note ≡ answered_with k.note o.op reply
  pub tells : Tells store_meaning after.progress k.session (length k.note.answered) o reply
