-- What the script that `encode` writes means.
use Rattle.std.specs.Prelude.{◌≡◌, ◌⊎◌, ℕ, List, Some, Ok}
use Rattle.std.specs.List.{AllZip}
use Rattle.hex.specs.Hex.{IsBytes}
use Rattle.text.specs.Lines.{lines_of}
use Rattle.encoding.specs.Calls.{CallsWith}
use Rattle.encoding.specs.Encoded.{encoded_text}
use Rattle.scripts.specs.Script.{Comment, Call, line_meaning}

-- the line calls a program of this name with values, and what was written means that call, its argument the bytes of the values
pub record MeansItsCall (line written : List ℕ) : Type 0 where
  pub name : List ℕ
  pub argument : List ℕ
  pub calls : CallsWith line name argument
  pub means : line_meaning written ≡ Some (Call (record { name = name; argument = argument }))

-- line N of the script means the call of line N of the text; a comment and an empty line stay as they are
abbrev pub EncodedLinesMean : Type 0
EncodedLinesMean =
    (text script : List ℕ) → IsBytes text → encoded_text text ≡ Ok script
    → AllZip (λ line written. ((line_meaning line ≡ Some Comment) × (written ≡ line)) ⊎ MeansItsCall line written) (lines_of text) (lines_of script)
