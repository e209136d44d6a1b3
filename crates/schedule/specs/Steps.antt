-- The steps of a store: when each may be taken, what it makes of the log and of its node, and which event it is.
use Rattle.std.specs.Prelude.{ℕ, ◌+◌, Bool, true, false, ◌&&◌, List, [], ◌∷◌, ◌++◌, Option, Some, None, option_map, slice_get, slice_set, cond}
use Rattle.std.specs.Option.{option_and_then}
use Rattle.verifier.specs.declared.refusal.Mode.TheVariants.{Update, Read}
use Rattle.oplog.specs.Calls.{Call as ProgramCall}
use Rattle.oplog.specs.Operations.{Operation}
use Rattle.oplog.specs.declared.records.Op.TheVariants.{Run}
use Rattle.oplog.specs.declared.records.Op.TheVariants as operations
use Rattle.oplog.specs.Logs.{Log}
use Rattle.combiner.specs.declared.slots.Slot.{Slot}
use Rattle.combiner.specs.Slots.{is_empty}
use Rattle.combiner.specs.Desks.{first_author, posted, has_request, batch_of, claimed, collected}
use Rattle.replica.specs.StoreMeaning.{store_meaning, is_operation}
use Rattle.node.specs.Following.{may_answer}
use Rattle.node.specs.Steps.{NodeStep, Appends, Replays, Finishes, Reclaims, Rebases, Replies, Seen, may, next}
use Rattle.schedule.specs.declared.parts.BegunRead.{BegunRead}
use Rattle.node.specs.declared.parts.NodeBatch.{NodeBatch}
use Rattle.node.specs.declared.parts.NodeBatch.TheVariants.{Absent, Held}
use Rattle.schedule.specs.declared.steps.Step.{Step}
use Rattle.schedule.specs.declared.steps.Step.TheVariants.{Post, Install, Claim, Append, Replay, Finish, Reply, Collect, ReadBegin, ReadAnswer, Reclaim, Rebase}
use Rattle.schedule.specs.Trace.{Updated, ReadBack, Event, Call, Back, Trace}
use Rattle.schedule.specs.declared.parts.Opening.{Opening}
use Rattle.schedule.specs.Worlds.{NodeView, WorldView, own_of}

-- what a step makes of the log and of its node, and the event that it is
pub record Part : Type 0 where
  pub log : Log
  pub node : NodeView
  pub event : Option Event

-- no call is made or answered
abbrev pub silent : Log → NodeView → Part
silent g node = record { log = g; node = node; event = None }

-- a call is made or answered
abbrev pub with_call_or_back : Event → Log → NodeView → Part
with_call_or_back e g node = record { log = g; node = node; event = Some e }

-- ---- what guards ask

-- the session of a slot of the node
abbrev pub session_of_slot : NodeView → ℕ → ℕ
session_of_slot node s = first_author node.desk + s

-- the slot is there, and has no request
abbrev pub is_free : Option Slot → Bool
is_free (Some x) = is_empty x.stage
is_free None = false

-- the slot is there, and no read was begun at it
abbrev pub no_read : Option (Option BegunRead) → Bool
no_read (Some None) = true
no_read (Some (Some read)) = false
no_read None = false

-- the slot is there, has no request, and no read was begun there
abbrev pub is_idle : NodeView → ℕ → Bool
is_idle node s = is_free (slice_get node.desk.slots s) && no_read (slice_get node.reads s)

-- the node's combiner has no batch
abbrev pub no_batch : NodeBatch → Bool
no_batch Absent = true
no_batch batch = false

-- the read that was begun at a slot
abbrev pub begun_at : ℕ → List (Option BegunRead) → Option BegunRead
begun_at s reads = option_and_then (λ read. read) (slice_get reads s)

abbrev pub read_at : NodeView → ℕ → Option BegunRead
read_at node s = begun_at s node.reads

-- the node with this read, or none, at the slot
abbrev pub with_read : NodeView → ℕ → Option BegunRead → NodeView
with_read node s read = record node { reads = slice_set node.reads s read }

-- ---- the steps of one node, over the log and the node; none where the step may not be taken

-- post: the slot is idle, and the operation is an update of the catalogue; it is called, and its request is posted at the slot
abbrev pub post : Opening → ℕ → Operation → Log → NodeView → Option Part
post m s op g node =
    cond (is_idle node s && is_operation Update m.catalogue op)
    (option_map (λ desk. with_call_or_back (Call (session_of_slot node s) Update op) g (record node { desk = desk })) (posted s op node.desk))
    None

-- claim: the node has no batch, and a request is posted at its desk; the posted requests are claimed as its batch
abbrev pub claim : Log → NodeView → Option Part
claim g node =
    cond (no_batch node.batch && has_request node.desk)
    (Some (silent g (record node { desk = claimed node.desk; batch = Held (batch_of node.desk) })))
    None

-- collect: an answer waits at the slot; the slot's session takes it
abbrev pub collect : ℕ → Log → NodeView → Option Part
collect s g node = option_map (λ c. with_call_or_back (Back (session_of_slot node s) (Updated c.reply)) g (record node { desk = c.desk })) (collected s node.desk)

-- readbegin: the slot is idle, and the call is a read of the catalogue; it is called, with the completed tail of that moment
abbrev pub read_begin : Opening → ℕ → ProgramCall → Log → NodeView → Option Part
read_begin m s call g node =
    cond (is_idle node s && is_operation Read m.catalogue (Run call))
    (Some (with_call_or_back (Call (session_of_slot node s) Read (Run call)) g (with_read node s (Some (record { call = call; seen = g.done })))))
    None

-- readanswer: a read was begun at the slot, the replica has come to what the read saw completed, and all that the replica has applied
-- is completed; the replica answers the read, at its own tail
abbrev pub read_answer : Opening → ℕ → Log → NodeView → Option Part
read_answer m s g node =
    option_and_then (λ read.
    cond (may_answer read.seen g.done (own_of node))
    (option_map (λ e. with_call_or_back (Back (session_of_slot node s) (ReadBack (record { point = node.replica.tail; reply = e.reply }))) g (with_read node s None))
    (store_meaning.read m.catalogue (Run read.call) node.replica.state))
    None)
    (read_at node s)

-- what node's steps see of the log and the node
abbrev pub seen_of : Log → NodeView → Seen
seen_of g node = record { log = g; own = own_of node; batch = node.batch; desk = node.desk }

-- the log and the node with it
abbrev pub put_seen : NodeView → Seen → Part
put_seen node s = silent s.log (record node { replica = s.own.replica; hand = s.own.hand; desk = s.desk; batch = s.batch })

-- the steps that no client sees, which are node's:
-- append: a batch is claimed, what the replica lacks is still in the log, and the log has room for as many of the batch's records as the
-- history may still have; the log gets them, and the records that the replica lacks are copied
-- replay: there is a record to apply; the replica applies the copied records, or where there are none those of the log that it lacks
-- finish: the replica is past the completed tail, which becomes the replica's tail
-- reply: a batch is appended, no copied record is left to apply, and all that the replica has applied is completed; the batch's requests
-- are answered at the desk, and the node has no batch then
-- reclaim: the replica is past the log's base, and all that it has applied is completed; it becomes the base
-- rebase: the replica is behind the log's base, and has no copied record left to apply; it becomes a copy of the base
abbrev pub inner : Opening → NodeStep → Log → NodeView → Option Part
inner m step g node = cond (may step (seen_of g node)) (Some (put_seen node (next m.catalogue step (seen_of g node)))) None

-- ---- the steps of a store

-- the node that the step names
abbrev pub node_of : Step → ℕ
node_of (Post n s program argument) = n
node_of (Install n s mode arg_len bytes) = n
node_of (Claim n) = n
node_of (Append n) = n
node_of (Replay n) = n
node_of (Finish n) = n
node_of (Reply n) = n
node_of (Collect n s) = n
node_of (ReadBegin n s program argument) = n
node_of (ReadAnswer n s) = n
node_of (Reclaim n) = n
node_of (Rebase n) = n

-- what the step makes of the log and of its node
abbrev pub part_of : Opening → Step → Log → NodeView → Option Part
part_of m (Post n s program argument) = post m s (Run (record { program = program; argument = argument.items }))
part_of m (Install n s mode arg_len bytes) = post m s (operations.Install (record { mode = mode; arg_len = arg_len; bytes = bytes.items }))
part_of m (Claim n) = claim
part_of m (Append n) = inner m Appends
part_of m (Replay n) = inner m Replays
part_of m (Finish n) = inner m Finishes
part_of m (Reply n) = inner m Replies
part_of m (Collect n s) = collect s
part_of m (ReadBegin n s program argument) = read_begin m s (record { program = program; argument = argument.items })
part_of m (ReadAnswer n s) = read_answer m s
part_of m (Reclaim n) = inner m Reclaims
part_of m (Rebase n) = inner m Rebases

-- a store after a step, and the event that the step is
pub record Took : Type 0 where
  pub world : WorldView
  pub event : Option Event

-- the node's part of a step, in its store
abbrev pub put_part : WorldView → ℕ → Part → Took
put_part w n p = record { world = record { log = p.log; nodes = slice_set w.nodes n p.node }; event = p.event }

-- what is done at node n of a store; none where it may not be done
abbrev pub done_at : ℕ → (Log → NodeView → Option Part) → WorldView → Option Took
done_at n part w = option_and_then (λ node. option_map (put_part w n) (part w.log node)) (slice_get w.nodes n)

-- the step of a store; none where it may not be taken
abbrev pub took : Opening → WorldView → Step → Option Took
took m w step = done_at (node_of step) (part_of m step) w

-- a step that may not be taken changes nothing
abbrev pub world_after : WorldView → Option Took → WorldView
world_after w None = w
world_after w (Some r) = r.world

-- the trace with the event, if there is one
abbrev pub with_event : Trace → Option Event → Trace
with_event t None = t
with_event t (Some e) = t ++ e ∷ []

-- the trace with the event that the step is, if it may be taken
abbrev pub trace_after : Trace → Option Took → Trace
trace_after t None = t
trace_after t (Some r) = with_event t r.event

-- the store after these steps
abbrev pub world_of : Opening → WorldView → List Step → WorldView
world_of m w [] = w
world_of m w (step ∷ steps) = world_of m (world_after w (took m w step)) steps

-- the trace t with their events
abbrev pub trace_of : Opening → WorldView → Trace → List Step → Trace
trace_of m w t [] = t
trace_of m w t (step ∷ steps) = trace_of m (world_after w (took m w step)) (trace_after t (took m w step)) steps
