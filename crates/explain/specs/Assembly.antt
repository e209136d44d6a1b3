-- What is told of assembler text.
use Rattle.std.specs.Prelude.{◌≡◌, ℕ, ◌+◌, ◌-◌, ◌&&◌, ◌==◌, nat_le, List, [], ◌∷◌, ◌++◌, length, take, slice_index, codes, decimal, Result, MatchResult, if◌then◌else◌}
use Rattle.std.specs.List.{concat, flat_map}
use Rattle.text.specs.Lines.{lines_of, next_line}
use Rattle.insn.specs.declared.instruction.Form.{Form}
use Rattle.asm.specs.declared.refusals.AsmRefusal.{AsmRefusal}
use Rattle.asm.specs.Refusal.{fault_number}
use Rattle.asm.specs.Places.{place_in}

-- the line that is wrong, and by which rule: line N: A4
abbrev pub fault_text : AsmRefusal → List ℕ
fault_text e = concat (codes "line " ∷ decimal e.line ∷ codes ": A" ∷ decimal (fault_number e.why) ∷ codes "," ∷ [])

-- ---- the line

-- the line of this number, of lines of which the first has number n; empty where none has it
abbrev pub line_from : ℕ → ℕ → List (List ℕ) → List ℕ
line_from wanted n [] = []
line_from wanted n (line ∷ lines) = if n == wanted then line else line_from wanted (next_line n) lines

abbrev pub line_in : List ℕ → ℕ → List ℕ
line_in text wanted = line_from wanted 1 (lines_of text)

-- a line without the carriage return at its end
abbrev pub shown : List ℕ → List ℕ
shown line = if slice_index line (length line - 1) == 13 then take (length line - 1) line else line

-- ---- the mark

-- below a tab a tab, below a byte within a character of UTF-8 nothing, and below each other byte a blank
abbrev pub below : ℕ → List ℕ
below c = if c == 9 then codes "\t" else if nat_le 128 c && nat_le c 191 then [] else codes " "

-- ---- what is told

-- the column, what is wanted there, the line, and a mark below the column
abbrev pub wanted_text : ℕ → List ℕ → List ℕ → List ℕ
wanted_text at wanted line =
    concat
    (codes " column " ∷ decimal (at + 1) ∷ codes ": wanted " ∷ wanted ∷ codes "\n    " ∷ shown line ∷ codes "\n    " ∷ flat_map below (take at line) ∷ codes "^\n" ∷ [])

-- what is told of a line by the rule that it breaks: the place that is wrong, some words, the line, and a mark
pub record TellsFault (e : AsmRefusal) (line told : List ℕ) : Type 0 where
  pub wanted : List ℕ
  pub whole : told ≡ fault_text e ++ wanted_text (place_in e.why line).at wanted line

-- nothing is told of a program; of a text that is refused its first bad line, by the rule that it breaks
abbrev pub IsToldOfText : List ℕ → Result (List Form) AsmRefusal → List ℕ → Type 0
IsToldOfText text read told = MatchResult read (λ _. told ≡ []) (λ e. TellsFault e (line_in text e.line) told)
