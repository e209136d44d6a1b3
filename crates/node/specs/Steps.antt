-- The steps of a node that no client sees, on the log, the node's replica, its batch and its desk.
use Rattle.std.specs.Prelude.{Bool, true, false, ◌&&◌}
use Rattle.loader.specs.CatalogueView.{CatalogueView}
use Rattle.oplog.specs.Logs.{Log}
use Rattle.combiner.specs.Desks.{DeskView, replied}
use Rattle.node.specs.declared.following.NodeReplica.{NodeReplica}
use Rattle.node.specs.declared.parts.NodeBatch.{NodeBatch}
use Rattle.node.specs.declared.parts.NodeBatch.TheVariants.{Absent, Held, InLog}
use Rattle.node.specs.Following.{may_append, grown, copied, replies_for, has_next, with_next, replayed, replies_after, may_finish, told, may_reclaim, reclaimed, may_rebase, rebased, may_reply}
use Rattle.node.specs.Answering.{answered_batch}

pub data NodeStep : Type 0 where
  Appends : NodeStep
  Replays : NodeStep
  Finishes : NodeStep
  Reclaims : NodeStep
  Rebases : NodeStep
  Replies : NodeStep

-- what one of the node's threads sees: the log, which knows how much is completed, the node's replica with its hand, its batch, its desk
pub record Seen : Type 0 where
  pub log : Log
  pub own : NodeReplica
  pub batch : NodeBatch
  pub desk : DeskView

-- ---- the batch

-- a batch is claimed, and may be appended
abbrev pub may_append_batch : NodeBatch → Log → NodeReplica → Bool
may_append_batch (Held b) g n = may_append b.records g n
may_append_batch batch g n = false

-- the batch is claimed: it is appended, and the records that the replica lacks are copied
abbrev pub append_batch : NodeBatch → Seen → Seen
append_batch (Held b) s =
    let g = grown b.records s.log in
    record s { log = g; own = copied g s.own; batch = InLog (record { batch = b; replies = replies_for b.records s.log }) }
append_batch batch s = s

-- the batch keeps its own outcomes of the records that this replica has in its hand and applies
abbrev pub batch_after : CatalogueView → NodeReplica → NodeBatch → NodeBatch
batch_after c n (InLog b) = InLog (record b { replies = replies_after c n b.replies })
batch_after c n batch = batch

-- the batch is in the log
abbrev pub is_in_log : NodeBatch → Bool
is_in_log (InLog b) = true
is_in_log batch = false

-- the batch is in the log: its requests are answered at the desk, and the node has no batch then
abbrev pub reply_batch : NodeBatch → Seen → Seen
reply_batch (InLog b) s = record s { desk = replied (answered_batch b.replies b.batch) s.desk; batch = Absent }
reply_batch batch s = s

-- ---- the steps

-- when each may be taken
abbrev pub may : NodeStep → Seen → Bool
may Appends s = may_append_batch s.batch s.log s.own
may Replays s = has_next s.log s.own
may Finishes s = may_finish s.log.done s.own
may Reclaims s = may_reclaim s.log.done s.log s.own
may Rebases s = may_rebase s.log s.own
may Replies s = is_in_log s.batch && may_reply s.log.done s.own

-- what each makes of what is seen
abbrev pub next : CatalogueView → NodeStep → Seen → Seen
next c Appends s = append_batch s.batch s
next c Replays s =
    let n = with_next s.log s.own in
    record s { own = replayed c n; batch = batch_after c n s.batch }
next c Finishes s = record s { log = told s.own s.log }
next c Reclaims s = record s { log = reclaimed s.own s.log }
next c Rebases s = record s { own = rebased s.log s.own }
next c Replies s = reply_batch s.batch s
