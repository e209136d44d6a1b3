-- A store as one value: its log and its nodes.
use Rattle.std.specs.Prelude.{ℕ, zero, suc, List, [], ◌∷◌, replicate, Option, None}
use Rattle.loader.specs.CatalogueView.{CatalogueView, longest_part, opened_on, opening_state, with_long_places}
use Rattle.loader.specs.StoreState.{StoreState}
use Rattle.oplog.specs.declared.configuration.Sizes.{Sizes}
use Rattle.oplog.specs.Logs.{Log, HandView, opened_log, opened_hand}
use Rattle.combiner.specs.Desks.{DeskView, opened_desk}
use Rattle.replica.specs.StoreMeaning.{store_meaning}
use Rattle.replica.specs.Views.{ReplicaView}
use Rattle.node.specs.declared.following.NodeReplica.{NodeReplica}
use Rattle.schedule.specs.declared.parts.BegunRead.{BegunRead}
use Rattle.node.specs.declared.parts.NodeBatch.{NodeBatch}
use Rattle.node.specs.declared.parts.NodeBatch.TheVariants.{Absent}
use Rattle.schedule.specs.declared.parts.Opening.{Opening}

-- a node: its replica, the records copied for it, its desk, its batch, and for each slot the read that was begun there
pub record NodeView : Type 0 where
  pub replica : ReplicaView
  pub hand : HandView
  pub desk : DeskView
  pub batch : NodeBatch
  pub reads : List (Option BegunRead)

-- the node's replica, with its hand
abbrev pub own_of : NodeView → NodeReplica
own_of node = record { replica = node.replica; hand = node.hand }

-- the log, and the nodes in the order of their numbers
pub record WorldView : Type 0 where
  pub log : Log
  pub nodes : List NodeView

-- ---- the opening

-- what opens a store of these sizes with the maps and programs of a catalogue
abbrev pub opening_of : Sizes → CatalogueView → Opening
opening_of config c = record { config = config; catalogue = with_long_places c config.spare config.long }

-- `opening_of`, but on a state
abbrev pub opening_on : Sizes → CatalogueView → StoreState → Opening
opening_on config c s = record { config = config; catalogue = opened_on (with_long_places c config.spare config.long) s }

-- a new node of this number: in the opening state, with nothing copied, nobody at its desk, no batch and no read
abbrev pub opened_node : Opening → ℕ → NodeView
opened_node m n = record {
  replica = record { tail = 0; state = store_meaning.opening m.catalogue };
  hand = opened_hand m.config.window (longest_part m.catalogue);
  desk = opened_desk n m.config.slots;
  batch = Absent;
  reads = replicate m.config.slots None;
}

-- so many nodes, from number n on
abbrev pub opened_nodes : Opening → ℕ → ℕ → List NodeView
opened_nodes m n zero = []
opened_nodes m n (suc count) = opened_node m n ∷ opened_nodes m (suc n) count

-- a new log, with room for what is too long for a record
abbrev pub new_log : Opening → Log
new_log m = opened_log (opening_state m.catalogue) m.config.window (longest_part m.catalogue) m.config.limit

-- a new store: its log is empty, and its nodes are new
abbrev pub opened : Opening → WorldView
opened m = record { log = new_log m; nodes = opened_nodes m 0 m.config.nodes }
