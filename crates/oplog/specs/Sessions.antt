-- Sessions, and their numbers: the authors of records.
use Rattle.std.specs.Prelude.{◌≡◌, ℕ, ◌+◌, ◌*◌, ◌<◌}
use Rattle.oplog.specs.declared.configuration.Sizes.{Sizes}

-- the session of a slot of a node, by its number among all
abbrev pub session : Sizes → ℕ → ℕ → ℕ
session config node slot = node * config.slots + slot

-- the session a is one of that node
abbrev pub IsSessionOf : Sizes → ℕ → ℕ → Type 0
IsSessionOf config node a = (slot : ℕ) × (slot < config.slots) × (a ≡ session config node slot) × (node < config.nodes)
