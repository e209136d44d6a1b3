-- What a shelf with desks is opened with, place by place.
use Rattle.std.specs.Prelude.{◌≡◌, ℕ, ◌+◌, ◌<◌, List, length, Option, Some}
use Rattle.ownlock.specs.Seats.{At}
use Rattle.loader.specs.CatalogueView.{CatalogueView}
use Rattle.oplog.specs.declared.configuration.Sizes.{Sizes}
use Rattle.combiner.specs.Desks.{opened_desk}
use Rattle.store_steps.specs.declared.values.Value.{Value}
use Rattle.store_steps.specs.declared.values.Value.TheVariants.{Log, Replica, Desk}
use Rattle.store_steps.specs.Shelving.{IsOpenedLog, IsOpenedReplica}

-- a node's desk, at which nobody has a request
abbrev pub IsOpenedDesk : ℕ → ℕ → Value → Type 0
IsOpenedDesk slots node (Desk d) = d.value ≡ opened_desk node slots
IsOpenedDesk slots node (Log g) = ⊥
IsOpenedDesk slots node (Replica n) = ⊥

-- so many places from that one on have a value each, the i-th of them one of which P i holds
abbrev pub AreFilled : ℕ → ℕ → (ℕ → Value → Type 0) → List (Option Value) → Type 0
AreFilled from count P values = (i : ℕ) → i < count → (v : Value) × At (from + i) (Some v) values × P i v

-- with replicas as they are opened on what this catalogue opens on
abbrev pub HaveReplicas : ℕ → ℕ → CatalogueView → ℕ → List (Option Value) → Type 0
HaveReplicas from count c window = AreFilled from count (λ i v. IsOpenedReplica c window v)

-- the values that there were stand where they stood
abbrev pub AreKept : List (Option Value) → List (Option Value) → Type 0
AreKept old new = (p : ℕ) (a : Option Value) → At p a old → At p a new

-- the log, then each node's replica, then each node's desk
pub record AreShelved (config : Sizes) (c : CatalogueView) (values : List (Option Value)) : Type 0 where
  pub count : length values ≡ 1 + config.nodes + config.nodes
  pub log : (v : Value) × At 0 (Some v) values × IsOpenedLog c config.window config.limit v
  pub replicas : AreFilled 1 config.nodes (λ i v. IsOpenedReplica c config.window v) values
  pub desks : AreFilled (1 + config.nodes) config.nodes (λ i v. IsOpenedDesk config.slots i v) values
