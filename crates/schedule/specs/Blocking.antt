-- Why a step of a store may not be taken: the first of its conditions that fails, with the numbers that it compares. The conditions are those of
-- the steps, in their order.
use Rattle.std.specs.Prelude.{ℕ, length, Option, Some, None, option_map, slice_get, nat_lt, nat_le, if◌then◌else◌}
use Rattle.verifier.specs.declared.refusal.Mode.TheVariants.{Update, Read}
use Rattle.oplog.specs.Logs.{Log, tail_of, room_in}
use Rattle.combiner.specs.declared.slots.Stage.{Stage}
use Rattle.combiner.specs.declared.slots.Stage.TheVariants.{Answered}
use Rattle.combiner.specs.declared.slots.Slot.{Slot}
use Rattle.combiner.specs.Desks.{has_request}
use Rattle.replica.specs.declared.refusals.StoreRefused.{StoreRefused}
use Rattle.replica.specs.Refusals.{early_refusal, install_refusal}
use Rattle.node.specs.declared.following.NodeReplica.{NodeReplica}
use Rattle.node.specs.declared.parts.NodeBatch.{NodeBatch}
use Rattle.node.specs.declared.parts.NodeBatch.TheVariants.{Absent, Held, InLog}
use Rattle.node.specs.Following.{no_records, room_for, is_above}
use Rattle.schedule.specs.declared.parts.BegunRead.{BegunRead}
use Rattle.schedule.specs.declared.parts.Opening.{Opening}
use Rattle.schedule.specs.declared.steps.Step.{Step}
use Rattle.schedule.specs.declared.steps.Step.TheVariants.{Post, Install, Claim, Append, Replay, Finish, Reply, Collect, ReadBegin, ReadAnswer, Reclaim, Rebase}
use Rattle.schedule.specs.declared.blocking.Blocked.{Blocked}
use Rattle.schedule.specs.declared.blocking.Blocked.TheVariants.{NoNode, NoSlot, HasRequest, HasRead, Refused, HasBatch, NothingPosted, NoBatch, BatchInLog, BatchNotInLog, BelowBase, NoRoom, NothingToReplay, NothingToFinish, HandNotEmpty, NotCompleted, NoAnswer, NoRead, BehindRead, NotPastBase, NotBelowBase}
use Rattle.schedule.specs.Worlds.{NodeView, WorldView, own_of}
use Rattle.schedule.specs.Steps.{is_free, no_batch, node_of}

-- ---- the conditions of slots

-- a call: the slot is there, it has no request and no answer, no read was begun there, and the call is not refused
abbrev pub slot_block : ℕ → ℕ → Option Slot → Option (Option BegunRead) → Option StoreRefused → Option Blocked
slot_block count s (Some x) (Some None) refusal = if is_free (Some x) then option_map Refused refusal else Some HasRequest
slot_block count s (Some x) (Some (Some read)) refusal = if is_free (Some x) then Some HasRead else Some HasRequest
slot_block count s o read refusal = Some (NoSlot count)

abbrev pub call_block : ℕ → NodeView → Option StoreRefused → Option Blocked
call_block s node refusal = slot_block (length node.reads) s (slice_get node.desk.slots s) (slice_get node.reads s) refusal

-- collect: the slot is there, and an answer waits in it
abbrev pub stage_block : Stage → Option Blocked
stage_block (Answered reply) = None
stage_block stage = Some NoAnswer

abbrev pub collect_block : ℕ → Option Slot → Option Blocked
collect_block count (Some x) = stage_block x.stage
collect_block count None = Some (NoSlot count)

-- readanswer: the slot is there, a read was begun at it, the replica has come to what the read saw completed, and all that the replica has
-- applied is completed
abbrev pub read_block : ℕ → ℕ → ℕ → Option (Option BegunRead) → Option Blocked
read_block count tail done None = Some (NoSlot count)
read_block count tail done (Some None) = Some NoRead
read_block count tail done (Some (Some read)) =
    if nat_le read.seen tail then (if nat_le tail done then None else Some (NotCompleted tail done)) else Some (BehindRead tail read.seen)

-- ---- the conditions of combiners and replicas

-- claim: the node has no batch, and a request is posted
abbrev pub claim_block : NodeView → Option Blocked
claim_block node = if no_batch node.batch then (if has_request node.desk then None else Some NothingPosted) else Some HasBatch

-- append: a batch is claimed, and is not yet in the log; the log has what the replica lacks, and room
abbrev pub append_block : NodeBatch → Log → NodeReplica → Option Blocked
append_block Absent g n = Some NoBatch
append_block (InLog b) g n = Some BatchInLog
append_block (Held b) g n =
    if is_above g n then (if nat_le (room_for b.records g) (room_in g) then None else Some (NoRoom (room_for b.records g) (room_in g)))
    else Some (BelowBase n.replica.tail g.base)

-- replay: the hand has records; or the log has what the replica lacks, and that is something
abbrev pub replay_block : Log → NodeReplica → Option Blocked
replay_block g n =
    if no_records n.hand.records
    then (if is_above g n then (if nat_lt n.replica.tail (tail_of g) then None else Some (NothingToReplay n.replica.tail)) else Some (BelowBase n.replica.tail g.base))
    else None

-- finish: the replica is past what is completed
abbrev pub finish_block : ℕ → NodeReplica → Option Blocked
finish_block done n = if nat_lt done n.replica.tail then None else Some (NothingToFinish n.replica.tail done)

-- reply: the batch is in the log, no copied record is left, and all that the replica has applied is completed
abbrev pub reply_block : NodeBatch → ℕ → NodeReplica → Option Blocked
reply_block (InLog b) done n =
    if no_records n.hand.records then (if nat_le n.replica.tail done then None else Some (NotCompleted n.replica.tail done)) else Some (HandNotEmpty (length n.hand.records))
reply_block (Held b) done n = Some BatchNotInLog
reply_block Absent done n = Some NoBatch

-- reclaim: the replica is past the log's base, and all that it has applied is completed
abbrev pub reclaim_block : Log → NodeReplica → Option Blocked
reclaim_block g n =
    if nat_lt g.base n.replica.tail then (if nat_le n.replica.tail g.done then None else Some (NotCompleted n.replica.tail g.done)) else Some (NotPastBase n.replica.tail g.base)

-- rebase: the replica is behind the log's base, and no copied record is left
abbrev pub rebase_block : Log → NodeReplica → Option Blocked
rebase_block g n =
    if nat_lt n.replica.tail g.base then (if no_records n.hand.records then None else Some (HandNotEmpty (length n.hand.records))) else Some (NotBelowBase n.replica.tail g.base)

-- ---- a step

-- of a step at its node
abbrev pub node_block : Opening → Step → Log → NodeView → Option Blocked
node_block m (Post n s program argument) g node = call_block s node (early_refusal m.catalogue Update program argument.items)
node_block m (Install n s mode arg_len bytes) g node =
    call_block s node (install_refusal m.catalogue.shapes m.catalogue.long (record { mode = mode; arg_len = arg_len; bytes = bytes.items }))
node_block m (ReadBegin n s program argument) g node = call_block s node (early_refusal m.catalogue Read program argument.items)
node_block m (Claim n) g node = claim_block node
node_block m (Append n) g node = append_block node.batch g (own_of node)
node_block m (Replay n) g node = replay_block g (own_of node)
node_block m (Finish n) g node = finish_block g.done (own_of node)
node_block m (Reply n) g node = reply_block node.batch g.done (own_of node)
node_block m (Collect n s) g node = collect_block (length node.reads) (slice_get node.desk.slots s)
node_block m (ReadAnswer n s) g node = read_block (length node.reads) node.replica.tail g.done (slice_get node.reads s)
node_block m (Reclaim n) g node = reclaim_block g (own_of node)
node_block m (Rebase n) g node = rebase_block g (own_of node)

-- where its node is there
abbrev pub block_at : Opening → Step → WorldView → Option NodeView → Option Blocked
block_at m step w None = Some (NoNode (length w.nodes))
block_at m step w (Some node) = node_block m step w.log node

abbrev pub blocked : Opening → WorldView → Step → Option Blocked
blocked m w step = block_at m step w (slice_get w.nodes (node_of step))

-- what nothing blocks may be taken, and nothing else
abbrev pub IsTakenUnless : {A : Type 0} → Option Blocked → Option A → Type 0
IsTakenUnless None (Some a) = Unit {0}
IsTakenUnless None None = ⊥
IsTakenUnless (Some why) None = Unit {0}
IsTakenUnless (Some why) (Some a) = ⊥
