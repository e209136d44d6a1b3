-- A node whose replica may have changed places with the log's base, until it is again what it was.
use Rattle.std.specs.Prelude.{◌≡◌, ◌⊎◌, ℕ, ◌+◌, ◌*◌, ◌-◌, ◌<◌, ◌≤◌, [], length, drop, min}
use Rattle.loader.specs.CatalogueView.{CatalogueView}
use Rattle.oplog.specs.Logs.{Log as LogView, tail_of, left_of, records_from, room_in}
use Rattle.node.specs.Following.{IsNext, replayed_first}
use Rattle.node.specs.declared.following.NodeReplica.{NodeReplica}

-- the node once its replica has applied the first of the records in its hand, so many, and has let go of the others
abbrev pub caught_up : CatalogueView → ℕ → NodeReplica → NodeReplica
caught_up c owed n = let m = replayed_first c owed n in record m { hand = record m.hand { records = [] } }

-- once the replica has applied the first of the records in its hand, so many, it lacks the others: those that the log has from there on
pub record Owes (c : CatalogueView) (g : LogView) (n : NodeReplica) (owed : ℕ) : Type 0 where
  pub next : IsNext c n
  pub within : owed ≤ length n.hand.records
  pub above : g.base ≤ n.replica.tail + owed
  pub tail : n.replica.tail + owed ≤ tail_of g
  pub rest : drop owed n.hand.records ≡ records_from g (n.replica.tail + owed)
  pub window : n.hand.window ≡ g.window
  pub long : n.hand.long ≡ g.long

-- the replica is above the log's base, and without the records before it the log has room for so many, if the history may have them
abbrev pub FreesRoom : ℕ → LogView → NodeReplica → Type 0
FreesRoom want g n = (g.base < n.replica.tail) × (min want (left_of g) ≤ g.window - (tail_of g - n.replica.tail))

-- more than half of the log's window are records before the replica
abbrev pub IsHalfBefore : LogView → NodeReplica → Type 0
IsHalfBefore g n = g.window < 2 * (n.replica.tail - g.base)

-- another base is due: the log has no room for so many records, of those that the history may still have, or more than half of its window are
-- records before the replica
abbrev pub IsBaseDue : ℕ → LogView → NodeReplica → Type 0
IsBaseDue want g n = (room_in g < min want (left_of g)) ⊎ IsHalfBefore g n
