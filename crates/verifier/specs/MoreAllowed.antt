-- What is accepted for less is accepted for more.
use Rattle.std.specs.Prelude.{◌≡◌, ℕ, List, ◌++◌, Some, slice_get}
use Rattle.insn.specs.declared.instruction.Form.{Form}
use Rattle.maps.specs.declared.shapes.Shape.{Shape}
use Rattle.maps.specs.Shapes.{key_size, value_size}
use Rattle.verifier.specs.declared.refusal.Mode.{Mode}
use Rattle.verifier.specs.declared.refusal.Mode.TheVariants.{Read}
use Rattle.verifier.specs.Signature.{signature}
use Rattle.verifier.specs.Typing.{IsTypable}

-- what is typable in the mode that changes no map is typable in each mode
abbrev pub ReadersAreTypable : Type 0
ReadersAreTypable =
    (p : List Form) (shapes : List Shape) (arg_len : ℕ) (mode : Mode) → IsTypable p (signature shapes arg_len Read) → IsTypable p (signature shapes arg_len mode)

-- these maps come first among the others: each has there one of its number, with keys and values of the same sizes
abbrev pub ComeFirst : List Shape → List Shape → Type 0
ComeFirst shapes others =
    (m : ℕ) (s : Shape) → slice_get shapes m ≡ Some s
    → (t : Shape) × (slice_get others m ≡ Some t) × (key_size t ≡ key_size s) × (value_size t ≡ value_size s)

-- what is typable for some maps is typable where these come first
abbrev pub FirstMapsAreEnough : Type 0
FirstMapsAreEnough =
    (p : List Form) (shapes others : List Shape) (arg_len : ℕ) (mode : Mode) → ComeFirst shapes others
    → IsTypable p (signature shapes arg_len mode) → IsTypable p (signature others arg_len mode)

-- and so where more come after them
abbrev pub MoreMapsAreTypable : Type 0
MoreMapsAreTypable =
    (p : List Form) (shapes more : List Shape) (arg_len : ℕ) (mode : Mode)
    → IsTypable p (signature shapes arg_len mode) → IsTypable p (signature (shapes ++ more) arg_len mode)
