-- What the values on a store's shelf have to do with the progress and the notes of its sessions.
use Rattle.std.specs.Prelude.{◌≡◌, ℕ, ◌+◌, ◌*◌, List, [], length, replicate}
use Rattle.ownlock.specs.Rules.{Rules}
use Rattle.ownlock.specs.Seats.{Opened, opened_with}
use Rattle.loader.specs.StoreState.{StoreState, sizes_of}
use Rattle.loader.specs.CatalogueView.{CatalogueView, longest_part, opening_state, sizes_for}
use Rattle.oplog.specs.declared.configuration.Sizes.{Sizes}
use Rattle.oplog.specs.Logs.{Log as LogView, HandView, opened_log, opened_hand}
use Rattle.replica.specs.Views.{ReplicaView}
use Rattle.replica.specs.StoreMeaning.{store_meaning}
use Rattle.accounts.specs.declared.sessions.Progress.{Progress}
use Rattle.accounts.specs.declared.sessions.SessionNote.{SessionNote}
use Rattle.accounts.specs.Values.{LogValue, ReplicaValue, StoreValue, TheLog, TheReplica, TheDesk}
use Rattle.accounts.specs.LogSteps.{first_progress, fresh_note}
use Rattle.accounts.specs.StoreRules.{Noting}
use Rattle.accounts.specs.DeskNotes.{Looked, desk_noting}
use Rattle.accounts.specs.Moves.{desk_rules}
use Rattle.accounts.specs.Putting.{the_rules}
use Rattle.store_steps.specs.declared.values.Setup.{Setup}
use Rattle.node.specs.declared.following.NodeReplica.{NodeReplica}
use Rattle.store_steps.specs.declared.values.Value.{Value}
use Rattle.store_steps.specs.declared.values.Value.TheVariants.{Log, Replica, Desk}

-- what the rules see of a log, of a replica, and of a value: of a desk all
abbrev pub log_value : LogView → LogValue StoreState
log_value g = record { base = g.base; base_state = g.base_state; records = g.records; done = g.done }

abbrev pub replica_value : ReplicaView → ReplicaValue StoreState
replica_value r = record { tail = r.tail; state = r.state }

abbrev pub view_of : Value → StoreValue StoreState
view_of (Log g) = TheLog (log_value g.value)
view_of (Replica n) = TheReplica (replica_value n.value.replica)
view_of (Desk d) = TheDesk d.value

-- the log has the window, the limit and the sizes that the store was opened with, and room for what is too long for a record
abbrev pub HasLogSizes : Sizes → CatalogueView → LogView → Type 0
HasLogSizes config c g = (g.window ≡ config.window) × (g.limit ≡ config.limit) × (sizes_of g.base_state ≡ sizes_for c) × (g.long ≡ longest_part c)

-- a hand that has no record, and begins at the tail of its replica
abbrev pub resting_hand : Sizes → CatalogueView → ℕ → HandView
resting_hand config c tail = record { begin = tail; records = []; window = config.window; long = longest_part c }

-- the replica has the sizes of the catalogue, and its hand, of the configuration's window and with room for what is too long for a record, is empty
abbrev pub HasReplicaSizes : Sizes → CatalogueView → NodeReplica → Type 0
HasReplicaSizes config c n = (sizes_of n.replica.state ≡ sizes_for c) × (n.hand ≡ resting_hand config c n.replica.tail)

-- the sizes of a value are those of the configuration and the catalogue, and a hand on the shelf is empty
abbrev pub IsSized : Sizes → CatalogueView → Value → Type 0
IsSized config c (Log g) = HasLogSizes config c g.value
IsSized config c (Replica n) = HasReplicaSizes config c n.value
IsSized config c (Desk d) = length d.value.slots ≡ config.slots

-- what sessions may do that share the desks of their nodes, and what they note but at their desk: of what they append from their batch
-- the places
abbrev pub session_rules : Rules (Progress CatalogueView) SessionNote (StoreValue StoreState)
session_rules = desk_rules store_meaning

abbrev pub session_noting : Noting CatalogueView Value
session_noting = desk_noting view_of Looked

abbrev pub store_rules : Rules (Progress CatalogueView) SessionNote Value
store_rules = the_rules store_meaning session_rules view_of IsSized

-- how many sessions there are: one for each slot of each node
abbrev pub sessions_of : Sizes → ℕ
sessions_of config = config.nodes * config.slots

-- how many places its shelf has: one for the log, and for each node one for its replica and one for its desk
abbrev pub places_of : Sizes → ℕ
places_of config = 1 + config.nodes + config.nodes

abbrev pub opening_progress : Setup → Progress CatalogueView
opening_progress s = first_progress s.config s.catalogue

abbrev pub opening_notes : Setup → List SessionNote
opening_notes s = replicate (sessions_of s.config) fresh_note

-- what its shelf is opened with
abbrev pub store_opening : Setup → Opened (Progress CatalogueView) SessionNote
store_opening s = opened_with (opening_progress s) (places_of s.config) (opening_notes s)

-- a new log on what a catalogue opens on, and a new replica of it with its empty hand
abbrev pub IsOpenedLog : CatalogueView → (window limit : ℕ) → Value → Type 0
IsOpenedLog c window limit (Log g) = g.value ≡ opened_log (opening_state c) window (longest_part c) limit
IsOpenedLog c window limit (Replica n) = ⊥
IsOpenedLog c window limit (Desk n) = ⊥

abbrev pub opened_node : CatalogueView → (window : ℕ) → NodeReplica
opened_node c window = record { replica = record { tail = 0; state = opening_state c }; hand = opened_hand window (longest_part c) }

abbrev pub IsOpenedReplica : CatalogueView → (window : ℕ) → Value → Type 0
IsOpenedReplica c window (Log g) = ⊥
IsOpenedReplica c window (Desk g) = ⊥
IsOpenedReplica c window (Replica n) = n.value ≡ opened_node c window
