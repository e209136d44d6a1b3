-- What the rooms of a node have in them. No public clause cites this module.
use Rattle.std.specs.Prelude.{ℕ, Bool, Option, Some, None, if◌then◌else◌}
use Rattle.oplog.specs.Calls.{Call}
use Rattle.combiner.specs.Desks.{BatchView}
use Rattle.node.specs.declared.parts.NodeBatch.{NodeBatch}
use Rattle.node.specs.declared.parts.NodeBatch.TheVariants as batches
use Rattle.schedule.specs.declared.parts.BegunRead.{BegunRead}
use Rattle.schedule.specs.declared.rooms.BatchStage.{BatchStage}
use Rattle.schedule.specs.declared.rooms.BatchStage.TheVariants.{Absent, Held, InLog}

-- the read of this call, when so many operations were completed, if it was begun
abbrev pub read_in : Bool → Call → ℕ → Option BegunRead
read_in begun call seen = if begun then Some (record { call = call; seen = seen }) else None

-- the batch of these requests, at a stage
abbrev pub batch_at : BatchView → BatchStage → NodeBatch
batch_at b Absent = batches.Absent
batch_at b Held = batches.Held b
batch_at b (InLog replies) = batches.InLog (record { batch = b; replies = replies })
