-- The program that a text says, as a function of the text.
use Rattle.std.specs.Prelude.{ℕ, ◌+◌, ◌≤◌, Bool, false, not, ◌==◌, nat_lt, List, [], ◌∷◌, ◌++◌, length, Option, Some, None, Result, Ok, Err, if◌then◌else◌}
use Rattle.std.specs.Option.{ok_or}
use Rattle.insn.specs.declared.instruction.Form.{Form}
use Rattle.insn.specs.declared.instruction.TheConstants.{MAX_SLOTS}
use Rattle.insn.specs.Layout.{slot_count}
use Rattle.text.specs.Lines.{lines_of, next_line}
use Rattle.asm.specs.declared.refusals.AsmFault.{AsmFault}
use Rattle.asm.specs.declared.refusals.AsmFault.TheVariants.{UnknownWord, LabelTwice, TooLong, TextBehind}
use Rattle.asm.specs.declared.refusals.AsmRefusal.{AsmRefusal}
use Rattle.asm.specs.declared.labels.Mark.{Mark}
use Rattle.asm.specs.declared.tokens.Stop.TheVariants.{Visible}
use Rattle.asm.specs.Tokens.{◌>>=◌, result_map, rest_from, operands_of}
use Rattle.asm.specs.Words.{meaning_of, operand_count}
use Rattle.asm.specs.Labels.{Marks, Held, Blank, Label, Word, line_of, marks_from}
use Rattle.asm.specs.Forms.{form_of}

-- the label stands on another line
abbrev pub stands_elsewhere : ℕ → Option Mark → Bool
stands_elsewhere line None = false
stands_elsewhere line (Some m) = not (m.line == line)

-- a label stands on no earlier line, and alone
abbrev pub label_of : Marks → ℕ → List ℕ → Bool → Result (Unit {0}) AsmFault
label_of marks line name is_followed =
    if stands_elsewhere line (marks name) then Err LabelTwice else if is_followed then Err TextBehind else Ok tt

-- the instruction ends within the slots of a program, and its line with it
abbrev pub ended : ℕ → Form → List ℕ → Result Form AsmFault
ended slot i rest =
    if nat_lt MAX_SLOTS (slot + slot_count i) then Err TooLong else if nat_lt 0 (length (rest_from Visible rest)) then Err TextBehind else Ok i

-- the instruction with this word, at this slot
unfoldable pub word_of_line : Marks → ℕ → List ℕ → List ℕ → Result Form AsmFault
word_of_line marks slot word rest = do
  m ← ok_or (meaning_of word) UnknownWord
  operands ← operands_of (operand_count m) rest
  i ← form_of marks slot m operands
  ended slot i operands.rest

abbrev pub held_instruction : Marks → ℕ → ℕ → Held → Result (Option Form) AsmFault
held_instruction marks line slot Blank = Ok None
held_instruction marks line slot (Label name is_followed) = result_map (λ _. None) (label_of marks line name is_followed)
held_instruction marks line slot (Word word rest) = result_map Some (word_of_line marks slot word rest)

-- the instruction on a line, if there is one
abbrev pub instruction_of : Marks → ℕ → ℕ → List ℕ → Result (Option Form) AsmFault
instruction_of marks line slot text = held_instruction marks line slot (line_of text)

-- an instruction, if there is one, ends within the slots of a program
abbrev pub MayFollow : ℕ → Result (Option Form) AsmFault → Type 0
MayFollow slot (Ok (Some i)) = slot + slot_count i ≤ MAX_SLOTS
MayFollow slot _ = Unit {0}

-- these instructions before a program
abbrev pub onto : List Form → Result (List Form) AsmRefusal → Result (List Form) AsmRefusal
onto before read = result_map (λ p. before ++ p) read

-- how many slots an instruction takes, if there is one
abbrev pub slots_taken : Option Form → ℕ
slots_taken None = 0
slots_taken (Some i) = slot_count i

abbrev pub listed : Option Form → List Form
listed None = []
listed (Some i) = i ∷ []

-- a bad line, or what the line has before what is behind
abbrev pub behind : ℕ → Result (Option Form) AsmFault → (Option Form → Result (List Form) AsmRefusal) → Result (List Form) AsmRefusal
behind line (Err why) later = Err (record { line = line; why = why })
behind line (Ok o) later = onto (listed o) (later o)

-- the program in these lines behind so many slots, of which the first has this number; or the first bad line
unfoldable pub assembled_from : Marks → ℕ → ℕ → List (List ℕ) → Result (List Form) AsmRefusal
assembled_from marks n slot [] = Ok []
assembled_from marks n slot (line ∷ lines) =
    behind n (instruction_of marks n slot line) (λ o. assembled_from marks (next_line n) (slot + slots_taken o) lines)

-- the program that a text says, or the first bad line and of its faults the one of lowest number
unfoldable pub assembled : List ℕ → Result (List Form) AsmRefusal
assembled text = assembled_from (marks_from 1 0 (lines_of text)) 1 0 (lines_of text)
