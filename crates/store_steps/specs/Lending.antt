-- A value of the shelf as the part that it has: the log, a node's replica with its hand, or a node's desk.
use Rattle.std.specs.Prelude.{Option, Some, None}
use Rattle.std.specs.Borrow.{Lends, MutBor, Fml}
use Rattle.oplog.specs.Logs.{Log as LogView}
use Rattle.oplog.specs.contracts.log_state.LogState.{the_row as log_row}
use Rattle.combiner.specs.Desks.{DeskView}
use Rattle.combiner.specs.contracts.desks.Desk.{the_row as desk_row}
use Rattle.node.specs.declared.following.NodeReplica.{NodeReplica}
use Rattle.node.specs.contracts.following.NodeReplica.{the_row as node_row}
use Rattle.store_steps.specs.declared.values.Value.{Value}
use Rattle.store_steps.specs.declared.values.Value.TheVariants.{Log, Replica, Desk}
use Rattle.store_steps.specs.contracts.values.Value.{the_row}

-- the part that it has, if it has one of that kind
abbrev pub log_of : Value → Option LogView
log_of (Log g) = Some g.value
log_of (Replica n) = None
log_of (Desk d) = None

abbrev pub replica_of : Value → Option NodeReplica
replica_of (Log g) = None
replica_of (Replica n) = Some n.value
replica_of (Desk d) = None

abbrev pub desk_of : Value → Option DeskView
desk_of (Log g) = None
desk_of (Replica n) = None
desk_of (Desk d) = Some d.value

-- the value with another part of that kind
abbrev pub with_log : Value → LogView → Value
with_log (Log g) h = Log (record g { value = h })
with_log (Replica n) h = Replica n
with_log (Desk d) h = Desk d

abbrev pub with_replica : Value → NodeReplica → Value
with_replica (Log g) m = Log g
with_replica (Replica n) m = Replica (record n { value = m })
with_replica (Desk d) m = Desk d

abbrev pub with_desk : Value → DeskView → Value
with_desk (Log g) e = Log g
with_desk (Replica n) e = Replica n
with_desk (Desk d) e = Desk (record d { value = e })

-- the part is lent: what it becomes, the value has
abbrev pub LendsLog : MutBor Value → MutBor LogView → Fml
LendsLog v r = Lends the_row log_row v r (with_log v.now)

abbrev pub LendsReplica : MutBor Value → MutBor NodeReplica → Fml
LendsReplica v r = Lends the_row node_row v r (with_replica v.now)

abbrev pub LendsDesk : MutBor Value → MutBor DeskView → Fml
LendsDesk v r = Lends the_row desk_row v r (with_desk v.now)
