-- The sizes that a store may have.
use Rattle.std.specs.Prelude.{ℕ, ◌≤◌}
use Rattle.loader.specs.declared.installed.TheConstants.{MAX_SPARE, MOST_LONG, MOST_SPARE}
use Rattle.oplog.specs.declared.configuration.Config.{Config}
use Rattle.oplog.specs.declared.configuration.OpenError.{OpenError}
use Rattle.oplog.specs.declared.configuration.OpenError.TheVariants.{OutOfLimits, NoMemory, OtherState}
use Rattle.oplog.specs.declared.configuration.Sizes.{Sizes}
use Rattle.oplog.specs.declared.configuration.TheConstants.{MAX_NODES, MAX_NODE_SLOTS, MIN_WINDOW, MAX_WINDOW, MOST_WINDOW, MAX_LIMIT, ENDLESS}

-- records that a log keeps at once
abbrev pub IsWindow : ℕ → Type 0
IsWindow n = (MIN_WINDOW ≤ n) × (n ≤ MOST_WINDOW)

-- records that a history may have
abbrev pub IsLimit : ℕ → Type 0
IsLimit n = (1 ≤ n) × (n ≤ ENDLESS)

-- each size of a store is within its limits
pub record AreSizes (z : Sizes) : Type 0 where
  pub nodes : (1 ≤ z.nodes) × (z.nodes ≤ MAX_NODES)
  pub slots : (1 ≤ z.slots) × (z.slots ≤ MAX_NODE_SLOTS)
  pub window : IsWindow z.window
  pub limit : IsLimit z.limit
  pub spare : z.spare ≤ MOST_SPARE
  pub long : z.long ≤ MOST_LONG

-- the sizes of a configuration
abbrev pub sizes_in : Config → Sizes
sizes_in c = record { nodes = c.nodes; slots = c.slots; window = c.window; limit = c.limit; spare = c.spare; long = 0 }

-- each number of a configuration is within its limits
pub record IsConfig (c : Config) : Type 0 where
  pub nodes : (1 ≤ c.nodes) × (c.nodes ≤ MAX_NODES)
  pub slots : (1 ≤ c.slots) × (c.slots ≤ MAX_NODE_SLOTS)
  pub window : (MIN_WINDOW ≤ c.window) × (c.window ≤ MAX_WINDOW)
  pub limit : (1 ≤ c.limit) × (c.limit ≤ MAX_LIMIT)
  pub spare : c.spare ≤ MAX_SPARE

-- the number that a refusal shows after its letter O
abbrev pub open_fault_number : OpenError → ℕ
open_fault_number OutOfLimits = 1
open_fault_number NoMemory = 2
open_fault_number OtherState = 3
