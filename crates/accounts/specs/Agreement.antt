-- How each value on a store's shelf fits the progress and the notes.
use Rattle.std.specs.Prelude.{◌≡◌, ◌≢◌, ℕ, ◌+◌, ◌<◌, ◌≤◌, List, length, drop, Some, None}
use Rattle.ownlock.specs.Rules.{leader}
use Rattle.ownlock.specs.Seats.{At}
use Rattle.oplog.specs.Operations.{Operation}
use Rattle.oplog.specs.declared.configuration.Sizes.{Sizes}
use Rattle.oplog.specs.History.{Meaning, state_after, reply_at}
use Rattle.accounts.specs.declared.sessions.Progress.{Progress}
use Rattle.accounts.specs.declared.sessions.Pending.{Pending}
use Rattle.accounts.specs.declared.sessions.Claim.{Claim}
use Rattle.accounts.specs.declared.sessions.SessionNote.{SessionNote}
use Rattle.combiner.specs.Desks.{DeskView}
use Rattle.combiner.specs.declared.slots.Slot.{Slot}
use Rattle.combiner.specs.declared.slots.Stage.{Stage}
use Rattle.combiner.specs.declared.slots.Stage.TheVariants.{Empty, Posted, Claimed, Answered}
use Rattle.combiner.specs.declared.slots.Reply.{Reply}
use Rattle.combiner.specs.declared.slots.Reply.TheVariants.{Placed, Ended}
use Rattle.accounts.specs.Values.{LogValue, ReplicaValue, StoreValue, TheLog, TheReplica, TheDesk}
use Rattle.oplog.specs.Sessions.{session}
use Rattle.accounts.specs.Accounts.{HasNoRecord, IsInBatch}

-- the places of the shelf: the log, then each node's replica, then each node's desk
abbrev pub log_place : ℕ
log_place = leader

abbrev pub replica_place : Sizes → ℕ → ℕ
replica_place config node = 1 + node

abbrev pub desk_place : Sizes → ℕ → ℕ
desk_place config node = 1 + config.nodes + node

-- no batch has a request of session a
abbrev pub IsUnclaimed : List SessionNote → ℕ → Type 0
IsUnclaimed ns a = (c k : ℕ) (t : Claim) → IsInBatch ns c k t → t.request.author ≢ a

-- the batch of session c has a request of session a
abbrev pub IsClaimedBy : List SessionNote → ℕ → ℕ → Type 0
IsClaimedBy ns c a = (k : ℕ) × (t : Claim) × IsInBatch ns c k t × (t.request.author ≡ a)

module _ {C M : Type 0} (E : Meaning C M) where
  -- the answer is right for the request op, of that number, of session a
  abbrev pub Answers : Progress C → ℕ → ℕ → Operation → Reply → Type 0
  Answers l a seq op (Placed i reply) = (i < l.completed) × At i (record { author = a; seq = seq; op = op }) l.history × (reply_at E l.catalogue l.history i op ≡ Some reply)
  Answers l a seq op Ended = (l.completed ≡ l.config.limit) × HasNoRecord l.history a seq

  -- the stage of the slot of session a, whose note is n; who combines for the desk is session c
  abbrev pub StageAgrees : Progress C → List SessionNote → ℕ → ℕ → SessionNote → Stage → Type 0
  StageAgrees l ns c a n Empty = n.pending ≡ None
  StageAgrees l ns c a n (Posted op) = (o : Pending) × (n.pending ≡ Some o) × (op ≡ o.op) × HasNoRecord l.history a (length n.answered) × IsUnclaimed ns a
  StageAgrees l ns c a n Claimed = (o : Pending) × (n.pending ≡ Some o) × IsClaimedBy ns c a
  StageAgrees l ns c a n (Answered answer) = (o : Pending) × (n.pending ≡ Some o) × Answers l a (length n.answered) o.op answer × IsUnclaimed ns a

  abbrev pub SlotAgrees : Progress C → List SessionNote → ℕ → ℕ → Slot → Type 0
  SlotAgrees l ns c a slot = (n : SessionNote) × At a n ns × (slot.count ≡ length n.answered) × StageAgrees l ns c a n slot.stage

  pub record DeskAgrees (l : Progress C) (ns : List SessionNote) (x : DeskView) : Type 0 where
    pub slots : length x.slots ≡ l.config.slots
    -- who combines for this desk, if its slots are claimed
    pub combiner : ℕ
    pub each : (s : ℕ) (slot : Slot) → At s slot x.slots → SlotAgrees l ns combiner (session l.config x.node s) slot

  -- a replica has applied no more than what is completed
  pub record ReplicaAgrees (l : Progress C) (x : ReplicaValue M) : Type 0 where
    pub tail : x.tail ≤ l.completed
    pub state : x.state ≡ state_after E l.catalogue l.history x.tail

  -- the log's own completed tail is one that was read from the lock's word, and the log keeps at least the records from there on
  pub record LogAgrees (l : Progress C) (x : LogValue M) : Type 0 where
    pub done : x.done ≤ l.completed
    pub base : x.base ≤ x.done
    pub base_state : x.base_state ≡ state_after E l.catalogue l.history x.base
    pub records : x.records ≡ drop x.base l.history

  abbrev pub AgreesWith : ℕ → Progress C → List SessionNote → StoreValue M → Type 0
  AgreesWith p l ns (TheLog x) = (p ≡ log_place) × LogAgrees l x
  AgreesWith p l ns (TheReplica x) = (node : ℕ) × (node < l.config.nodes) × (p ≡ replica_place l.config node) × ReplicaAgrees l x
  AgreesWith p l ns (TheDesk x) = (x.node < l.config.nodes) × (p ≡ desk_place l.config x.node) × DeskAgrees l ns x
