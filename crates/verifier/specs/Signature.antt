-- What a program is checked for.
use Rattle.std.specs.Prelude.{ℕ, ◌≤◌, List}
use Rattle.maps.specs.declared.shapes.Shape.{Shape}
use Rattle.maps.specs.Shapes.{AreShapesSupported}
use Rattle.verifier.specs.declared.refusal.Mode.{Mode}
use Rattle.maps.specs.declared.shapes.TheConstants.{MOST_ARG_LEN}

-- the program's maps, the length of its argument, and its mode
pub record Signature : Type 0 where
  pub shapes : List Shape
  pub arg_len : ℕ
  pub mode : Mode

-- the signature of shapes, an argument length and a mode
abbrev pub signature : List Shape → ℕ → Mode → Signature
signature shapes arg_len mode = record { shapes = shapes; arg_len = arg_len; mode = mode }

-- the maps of a signature have allowed shapes, and its argument is within the limit
pub record IsSignatureOk (l : Signature) : Type 0 where
  pub shapes : AreShapesSupported l.shapes
  pub argument : l.arg_len ≤ MOST_ARG_LEN
