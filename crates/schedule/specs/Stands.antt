-- What holds of a store, its history and its trace at each moment.
use Rattle.std.specs.Prelude.{◌≡◌, ◌≢◌, ℕ, ◌+◌, ◌<◌, ◌≤◌, true, [], length, Option, Some, None, slice_get, if◌then◌else◌, nat_lt}
use Rattle.loader.specs.StoreState.{StoreState}
use Rattle.verifier.specs.declared.refusal.Mode.{Mode}
use Rattle.verifier.specs.declared.refusal.Mode.TheVariants.{Update, Read}
use Rattle.loader.specs.CatalogueView.{IsCatalogue, longest_part}
use Rattle.oplog.specs.declared.records.Op.TheVariants.{Run}
use Rattle.oplog.specs.declared.records.Record.{Record}
use Rattle.oplog.specs.Operations.{Operation}
use Rattle.oplog.specs.History.{Effect, History, state_after, effect_at, reply_at}
use Rattle.oplog.specs.Logs.{Log, HandView, tail_of}
use Rattle.oplog.specs.Sessions.{session, IsSessionOf}
use Rattle.combiner.specs.declared.slots.Reply.{Reply}
use Rattle.combiner.specs.declared.slots.Reply.TheVariants.{Placed, Ended}
use Rattle.combiner.specs.declared.slots.Stage.{Stage}
use Rattle.combiner.specs.declared.slots.Stage.TheVariants.{Empty, Posted, Claimed, Answered}
use Rattle.combiner.specs.declared.slots.Slot.{Slot}
use Rattle.combiner.specs.Desks.{BatchView, IsBatchOf}
use Rattle.replica.specs.StoreMeaning.{store_meaning, outcome_of, is_operation}
use Rattle.replica.specs.Views.{ReplicaView}
use Rattle.schedule.specs.declared.parts.BegunRead.{BegunRead}
use Rattle.node.specs.declared.parts.Written.{Written}
use Rattle.node.specs.declared.parts.NodeBatch.{NodeBatch}
use Rattle.node.specs.declared.parts.NodeBatch.TheVariants.{Absent, Held, InLog}
use Rattle.schedule.specs.Trace.{Answer, Call, Back, Trace, Positions, IsOpen, IsIdle, StampBefore, stamp}
use Rattle.schedule.specs.declared.parts.Opening.{Opening}
use Rattle.schedule.specs.Explains.{Explains, count_of}
use Rattle.schedule.specs.Worlds.{NodeView, WorldView}

-- the log is the history from the base on
pub record LogStands (m : Opening) (g : Log) (h : History) : Type 0 where
  pub ends : tail_of g ≡ length h
  pub kept : (j : ℕ) (r : Record) → slice_get g.records j ≡ Some r → slice_get h (g.base + j) ≡ Some r
  pub reclaimed : g.base ≤ g.done
  pub state : g.base_state ≡ state_after store_meaning m.catalogue h g.base
  pub done : g.done ≤ length h
  pub limit : g.limit ≡ m.config.limit
  pub within : length h ≤ m.config.limit
  pub window : g.window ≡ m.config.window
  pub long : g.long ≡ longest_part m.catalogue

-- the replica is at its tail, and the records copied for it are those that come next
pub record ReplicaStands (m : Opening) (h : History) (replica : ReplicaView) (hand : HandView) : Type 0 where
  pub tail : replica.tail ≤ length h
  pub state : replica.state ≡ state_after store_meaning m.catalogue h replica.tail
  pub begins : hand.begin ≡ replica.tail
  pub next : (j : ℕ) (r : Record) → slice_get hand.records j ≡ Some r → slice_get h (replica.tail + j) ≡ Some r
  pub window : hand.window ≡ m.config.window
  pub long : hand.long ≡ longest_part m.catalogue

-- the requests that a combiner has claimed, and their answers
abbrev pub batch_in : NodeBatch → BatchView
batch_in Absent = record { records = []; answers = [] }
batch_in (Held b) = b
batch_in (InLog b) = b.batch

-- the desk is this node's, with room for a read beside each slot; its claimed slots are those of the batch
pub record DeskStands (m : Opening) (n : ℕ) (node : NodeView) : Type 0 where
  pub number : node.desk.node ≡ n
  pub slots : length node.desk.slots ≡ m.config.slots
  pub reads : length node.reads ≡ m.config.slots
  pub own : IsBatchOf node.desk (batch_in node.batch)
  pub answers : length (batch_in node.batch).answers ≡ length (batch_in node.batch).records

-- the k-th request of a batch in the log, where it has an index, has its record there, and once the replica has come past it its outcome
pub record WrittenStands (m : Opening) (h : History) (replica : ReplicaView) (hand : HandView) (b : Written) : Type 0 where
  pub placed : (k : ℕ) (r : Record) → k < length b.replies.outcomes → slice_get b.batch.records k ≡ Some r → slice_get h (b.replies.first + k) ≡ Some r
  pub ahead : b.replies.first + length b.replies.outcomes ≤ replica.tail + length hand.records
  pub known : (k : ℕ) (r : Record) → k < length b.replies.outcomes → slice_get b.batch.records k ≡ Some r → b.replies.first + k < replica.tail
      → (e : Effect StoreState) × (effect_at store_meaning m.catalogue h (b.replies.first + k) r.op ≡ Some e) × (slice_get b.replies.outcomes k ≡ Some (Some (outcome_of e)))
  pub ended : length b.replies.outcomes < length b.batch.records → m.config.limit ≤ replica.tail + length hand.records

-- of a batch that is not in the log nothing is asked here
abbrev pub BatchStands : Opening → History → ReplicaView → HandView → NodeBatch → Type 0
BatchStands m h replica hand Absent = Unit {0}
BatchStands m h replica hand (Held b) = Unit {0}
BatchStands m h replica hand (InLog b) = WrittenStands m h replica hand b

-- the index of the k-th request of a batch, if it has one
abbrev pub index_in : NodeBatch → ℕ → Option ℕ
index_in Absent k = None
index_in (Held b) k = None
index_in (InLog b) k = if nat_lt k (length b.replies.outcomes) then Some (b.replies.first + k) else None

-- the call has this index, or no index
abbrev pub HasIndex : Positions → ℕ → Option ℕ → Type 0
HasIndex positions c None = (i : ℕ) → slice_get positions i ≢ Some c
HasIndex positions c (Some i) = slice_get positions i ≡ Some c

-- 1 where there is an index, else 0
abbrev pub one_if_placed : Option ℕ → ℕ
one_if_placed None = 0
one_if_placed (Some i) = 1

-- call c is open, with that index or none, and the history has beside it as many records of the session as its slot has counted
pub record OpenAt (m : Opening) (h : History) (positions : Positions) (t : Trace) (x count : ℕ) (mode : Mode) (op : Operation) (index : Option ℕ) (c : ℕ) : Type 0 where
  pub is_open : IsOpen t x mode op c
  pub may : is_operation mode m.catalogue op ≡ true
  pub has : HasIndex positions c index
  pub counts : count_of x h ≡ count + one_if_placed index

-- what a slot says of the open call of session x, where so many operations are completed
module _ (m : Opening) (done : ℕ) (h : History) (positions : Positions) (t : Trace) (x : ℕ) where
  abbrev Open : ℕ → Mode → Operation → Option ℕ → ℕ → Type 0
  Open = OpenAt m h positions t x

  -- the answer that waits for the session is the right one to its open call, and is completed
  abbrev pub ReplyStands : ℕ → Reply → Type 0
  ReplyStands count (Placed i reply) = (op : Operation) × (c : ℕ) × Open count Update op (Some i) c × (i < done) × (reply_at store_meaning m.catalogue h i op ≡ Some reply)
  ReplyStands count Ended = (op : Operation) × (c : ℕ) × Open count Update op None c × (m.config.limit ≤ done)

  -- the session's open call is where its slot says
  abbrev pub StageStands : NodeBatch → ℕ → Stage → Option BegunRead → Type 0
  StageStands batch count Empty None = IsIdle t x × (count_of x h ≡ count)
  StageStands batch count Empty (Some read) = (c : ℕ) × Open count Read (Run read.call) None c × (read.seen ≤ done) × ((s : ℕ) → StampBefore m.config.limit t c s → s ≤ read.seen)
  StageStands batch count (Posted op) None = (c : ℕ) × Open count Update op None c
  StageStands batch count Claimed None =
      (c k : ℕ) × (r : Record) × (slice_get (batch_in batch).records k ≡ Some r) × (r.author ≡ x) × (r.seq ≡ count) × Open count Update r.op (index_in batch k) c
  StageStands batch count (Answered reply) None = ReplyStands count reply
  StageStands batch count stage (Some read) = ⊥

-- the node stands for the history: its replica, its desk, its batch, and each of its slots
pub record NodeStands (m : Opening) (done : ℕ) (h : History) (positions : Positions) (t : Trace) (n : ℕ) (node : NodeView) : Type 0 where
  pub replica : ReplicaStands m h node.replica node.hand
  pub desk : DeskStands m n node
  pub batch : BatchStands m h node.replica node.hand node.batch
  pub seats : (s : ℕ) (x : Slot) (read : Option BegunRead) → slice_get node.desk.slots s ≡ Some x → slice_get node.reads s ≡ Some read
      → StageStands m done h positions t (session m.config n s) node.batch x.count x.stage read

-- the history stands for the store: it explains the trace, the log and the nodes agree with it, each call is one of a session of the
-- store, and what was answered is completed
pub record Stands (m : Opening) (w : WorldView) (h : History) (positions : Positions) (t : Trace) : Type 0 where
  pub catalogue : IsCatalogue m.catalogue
  pub explains : Explains m h positions t
  pub log : LogStands m w.log h
  -- as many nodes as it was opened with, and who has called is the session of a slot of one of them
  pub count : length w.nodes ≡ m.config.nodes
  pub callers : (c x : ℕ) (mode : Mode) (op : Operation) → slice_get t c ≡ Some (Call x mode op) → (n : ℕ) × IsSessionOf m.config n x
  pub stamps : (b x : ℕ) (answer : Answer) → slice_get t b ≡ Some (Back x answer) → stamp m.config.limit answer ≤ w.log.done
  pub nodes : (n : ℕ) (node : NodeView) → slice_get w.nodes n ≡ Some node → NodeStands m w.log.done h positions t n node
