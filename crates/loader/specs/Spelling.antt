-- How a meaning is spelled in a line.
use Rattle.std.specs.Prelude.{◌≡◌, ◌≤◌, ◌⊎◌, ◌↔◌, ℕ, true, List, [], ◌∷◌, ◌++◌, length, codes, decimal, Some}
use Rattle.maps.specs.declared.shapes.Shape.{Shape}
use Rattle.maps.specs.declared.shapes.Shape.TheVariants.{Array, Hash}
use Rattle.verifier.specs.declared.refusal.Mode.{Mode}
use Rattle.verifier.specs.declared.refusal.Mode.TheVariants.{Update, Read}
use Rattle.text.specs.declared.lines.TheConstants.{LINE_BYTES}
use Rattle.maps.specs.declared.shapes.MapLimits.{MapLimits}
use Rattle.maps.specs.Shapes.{AreLimits}
use Rattle.text.specs.Words.{IsFrom, is_name}
use Rattle.loader.specs.Grammar.{is_path, ProgramLine, Meaning, Comment, Map, Program, line_meaning}

-- how a map is spelled
abbrev pub SpellsMap : MapLimits → Shape → List ℕ → Type 0
SpellsMap l (Array value entries) line =
    (line ≡ codes "map array " ++ (decimal value ++ (codes " " ++ decimal entries))) × IsFrom 1 l.value value × IsFrom 1 l.entries entries
SpellsMap l (Hash key value entries) line =
    (line ≡ codes "map hash " ++ (decimal key ++ (codes " " ++ (decimal value ++ (codes " " ++ decimal entries)))))
    × IsFrom 1 l.key key
    × IsFrom 1 l.value value
    × IsFrom 1 l.entries entries

abbrev pub mode_word : Mode → List ℕ
mode_word Update = codes "update"
mode_word Read = codes "read"

abbrev pub program_spelling : ProgramLine → List ℕ
program_spelling p =
    codes "program " ++ (p.name ++ (codes " " ++ (mode_word p.mode ++ (codes " " ++ (decimal p.arg_len ++ (codes " " ++ p.file))))))

-- how a program is spelled
abbrev pub SpellsProgram : MapLimits → ProgramLine → List ℕ → Type 0
SpellsProgram l p line = (line ≡ program_spelling p) × (is_name p.name ≡ true) × (p.arg_len ≤ l.argument) × (is_path p.file ≡ true)

-- the line spells this
abbrev pub Spells : MapLimits → Meaning → List ℕ → Type 0
Spells l Comment line = (line ≡ []) ⊎ ((rest : List ℕ) × (line ≡ 35 ∷ rest))
Spells l (Map shape) line = SpellsMap l shape line
Spells l (Program p) line = SpellsProgram l p line

-- a line means this exactly where it is spelled so, in at most 512 bytes
abbrev pub EachLineIsItsSpelling : Type 0
EachLineIsItsSpelling = (l : MapLimits) (line : List ℕ) (x : Meaning) → AreLimits l → (line_meaning l line ≡ Some x) ↔ ((length line ≤ LINE_BYTES) × Spells l x line)
