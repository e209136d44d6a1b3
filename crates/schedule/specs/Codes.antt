-- How nodes and stores are told apart, which a model asks for. No public clause cites this module.
use Rattle.std.specs.Prelude.{List, Option, refl}
use Rattle.std.specs.Coded.{Coded, code_by, coded×, coded_list}
use Rattle.oplog.specs.Codes.{log_code}
use Rattle.oplog.specs.Logs.{Log, HandView}
use Rattle.oplog.specs.contracts.hand.Hand as hand_row
use Rattle.combiner.specs.Desks.{DeskView}
use Rattle.combiner.specs.contracts.desks.Desk as desk_row
use Rattle.replica.specs.Views.{ReplicaView, replica_code}
use Rattle.schedule.specs.declared.parts.BegunRead.{BegunRead}
use Rattle.node.specs.declared.parts.NodeBatch.{NodeBatch}
use Rattle.node.specs.contracts.parts.NodeBatch as batch_row
use Rattle.schedule.specs.contracts.rooms.ReadRoom as read_row
use Rattle.schedule.specs.declared.parts.Opening.{Opening}
use Rattle.schedule.specs.contracts.parts.Opening as opening_row
use Rattle.schedule.specs.Worlds.{NodeView, WorldView}
use Rattle.schedule.specs.Taking.{WorldState}

-- nodes by their five parts
abbrev pub node_code : Coded NodeView
node_code =
    code_by (ReplicaView × (HandView × (DeskView × (NodeBatch × List (Option BegunRead)))))
    (coded× replica_code (coded× hand_row.the_row.coded (coded× desk_row.the_row.coded (coded× batch_row.the_row.coded (coded_list read_row.the_row.coded)))))
    (λ n. (n.replica, (n.hand, (n.desk, (n.batch, n.reads)))))
    (λ p. record { replica = p.0; hand = p.1.0; desk = p.1.1.0; batch = p.1.1.1.0; reads = p.1.1.1.1 })
    (λ _. refl)

-- logs with their nodes
abbrev pub world_code : Coded WorldView
world_code = code_by (Log × List NodeView) (coded× log_code (coded_list node_code)) (λ w. (w.log, w.nodes)) (λ p. record { log = p.0; nodes = p.1 }) (λ _. refl)

-- stores by what they were opened with, their logs and their nodes
abbrev pub store_code : Coded WorldState
store_code = code_by (Opening × WorldView) (coded× opening_row.the_row.coded world_code) (λ s. (s.opening, s.world)) (λ p. record { opening = p.0; world = p.1 }) (λ _. refl)
