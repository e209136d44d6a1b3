-- The seat of one session, by what that session knows: what a call on the shelf asks of it, and what it leaves.
use Rattle.std.specs.Prelude.{◌≡◌}
use Rattle.ownlock.specs.Seats.{IsSession}
use Rattle.loader.specs.CatalogueView.{CatalogueView}
use Rattle.oplog.specs.Logs.{Log as LogView}
use Rattle.accounts.specs.Accounts.{IsWellFormed}
use Rattle.replica.specs.StoreMeaning.{store_meaning}
use Rattle.node.specs.declared.following.NodeReplica.{NodeReplica}
use Rattle.store_steps.specs.declared.steps.Shared.{Shared}
use Rattle.store_steps.specs.declared.values.Value.{Value}
use Rattle.store_steps.specs.Standing.{SessionKnown, StoreSeat, Stands, IsLogOf, Follows, Agrees, HoldsLog, HoldsReplica, IsOnShelf}

-- the seat is one session, and P holds of what that knows
abbrev pub Knows : StoreSeat → (SessionKnown → Type 0) → Type 0
Knows s P = (k : SessionKnown) × IsSession s k × P k

-- a seat that was one session is one now, and P holds of what that knew and what it knows
abbrev pub Learns : (old new : StoreSeat) → (SessionKnown → SessionKnown → Type 0) → Type 0
Learns old new P = (k : SessionKnown) → IsSession old k → (after : SessionKnown) × IsSession new after × P k after

-- `Learns` of what the session was told, and of the steps that it took
abbrev pub LearnsBy : (old new : StoreSeat) → (Told Goes : SessionKnown → SessionKnown → Type 0) → Type 0
LearnsBy old new Told Goes = (k : SessionKnown) → IsSession old k → (after : SessionKnown) × IsSession new after × Told k after × Goes k after

-- the session's store has this shelf and this catalogue
abbrev pub IsOn : Shared → SessionKnown → Type 0
IsOn shared k = IsOnShelf shared.shelf.now.places shared.nodes shared.slots shared.catalogue.now k

-- the session holds the log, which is g, with the history that it knows, which n follows; its store has the catalogue c
pub record HasLog (k : SessionKnown) (g : LogView) (n : NodeReplica) (c : CatalogueView) : Type 0 where
  pub holds : HoldsLog k
  pub log : IsLogOf k.progress g
  pub follows : Follows k.progress n
  pub well : IsWellFormed store_meaning k.progress
  pub catalogue : k.progress.catalogue ≡ c

-- the session holds its node's replica alone, which is n, and agrees with what it knows; its store has the catalogue c
pub record HasReplica (k : SessionKnown) (n : NodeReplica) (c : CatalogueView) : Type 0 where
  -- as which value it took that
  pub value : Value
  pub holds : HoldsReplica k value
  pub agrees : Agrees k.progress n
  pub stands : Stands k
  pub catalogue : k.progress.catalogue ≡ c
