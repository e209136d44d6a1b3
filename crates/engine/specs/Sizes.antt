-- The sizes of a store that a command opens.
use Rattle.std.specs.Prelude.{ℕ, Bool, ◌&&◌, codes, Option, Some, None, nat_le, if◌then◌else◌}
use Rattle.loader.specs.declared.installed.TheConstants.{MAX_SPARE}
use Rattle.oplog.specs.declared.configuration.Config.{Config}
use Rattle.oplog.specs.declared.configuration.TheConstants.{MAX_NODES, MAX_NODE_SLOTS, MIN_WINDOW, MAX_WINDOW, MAX_LIMIT}
use Rattle.engine.specs.declared.replies.Verdict.TheVariants as verdicts
use Rattle.engine.specs.Answer.{Answer}

-- each size is within its limits
abbrev pub are_sizes : Config → Bool
are_sizes c =
    (nat_le 1 c.nodes && nat_le c.nodes MAX_NODES) && ((nat_le 1 c.slots && nat_le c.slots MAX_NODE_SLOTS)
    && ((nat_le MIN_WINDOW c.window && nat_le c.window MAX_WINDOW) && ((nat_le 1 c.limit && nat_le c.limit MAX_LIMIT) && nat_le c.spare MAX_SPARE)))

-- how many places its programs have behind them; none where a size is out of its limits
abbrev pub places_in : Config → Option ℕ
places_in c = if are_sizes c then Some c.spare else None

-- O1: a size is out of its limits
abbrev pub sizes_refused : Answer
sizes_refused = record { text = codes "refused O1\n"; verdict = verdicts.Refused }
