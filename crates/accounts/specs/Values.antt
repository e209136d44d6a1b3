-- What the laws see of the values on a store's shelf.
use Rattle.std.specs.Prelude.{ℕ}
use Rattle.oplog.specs.History.{History}
use Rattle.combiner.specs.Desks.{DeskView}

-- the log: the index of the first record that it keeps, the state before that, the records from there on, and its completed tail
pub record LogValue (M : Type 0) : Type 0 where
  pub base : ℕ
  pub base_state : M
  pub records : History
  pub done : ℕ

-- a replica: how many operations it has applied, and the state after these
pub record ReplicaValue (M : Type 0) : Type 0 where
  pub tail : ℕ
  pub state : M

-- the log, a node's replica, or a node's desk
pub data StoreValue (M : Type 0) : Type 0 where
  TheLog : LogValue M → StoreValue M
  TheReplica : ReplicaValue M → StoreValue M
  TheDesk : DeskView → StoreValue M
