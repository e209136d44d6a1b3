-- What the values that `decode` writes say.
use Rattle.std.specs.Prelude.{◌≡◌, ℕ, ◌≤◌, List, [], length, Some, Ok}
use Rattle.std.specs.List.{AllZip, concat}
use Rattle.hex.specs.Hex.{IsBytes}
use Rattle.encoding.specs.declared.arguments.TheConstants.{ARGUMENT_BYTES}
use Rattle.encoding.specs.declared.layouts.Part.{Part}
use Rattle.encoding.specs.Calls.{IsValue}
use Rattle.encoding.specs.Decoded.{values_of}
use Rattle.encoding.specs.Encoded.{argument_from}

-- each value spells some bytes, and one behind the other these are the bytes
pub record AreValuesOf (bytes : List ℕ) (values : List (List ℕ)) : Type 0 where
  pub cuts : List (List ℕ)
  pub each : AllZip IsValue values cuts
  pub joined : concat cuts ≡ bytes

-- so it is of the values of some parts that take just these bytes
abbrev pub ValuesAreOfTheirBytes : Type 0
ValuesAreOfTheirBytes = (parts : List Part) (bytes : List ℕ) (values : List (List ℕ)) → IsBytes bytes → values_of parts bytes ≡ Some values → AreValuesOf bytes values

-- and `encode` makes these bytes of them, where an argument has room
abbrev pub ValuesAreEncoded : Type 0
ValuesAreEncoded =
    (column : ℕ) (parts : List Part) (bytes : List ℕ) (values : List (List ℕ)) → IsBytes bytes → length bytes ≤ ARGUMENT_BYTES
    → values_of parts bytes ≡ Some values → argument_from column [] values ≡ Ok bytes
