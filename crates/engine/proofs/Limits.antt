-- The limits of the maps that a manifest names.
use Rattle.std.proofs.Common.{◌≤◌, arith}
use Rattle.maps.specs.Shapes.{AreLimits}
use Rattle.engine.specs.declared.reading.MapSizes.{MapSizes}
use Rattle.engine.specs.declared.reading.MapSizes.TheVariants.{Standard, Large}
use Rattle.engine.specs.Reading.{limits_of}

-- none is wider than the widest
pub are_limits : (z : MapSizes) → AreLimits (limits_of z)
are_limits Standard = record { key = (omega arith, omega arith); value = omega arith; entries = omega arith; bytes = omega arith; argument = omega arith }
are_limits Large = record { key = (omega arith, omega arith); value = omega arith; entries = omega arith; bytes = omega arith; argument = omega arith }
