-- The text of a program without labels: each jump to a label says its distance instead.
use Rattle.std.specs.Prelude.{ℕ, ◌+◌, pos, ◌-ℤ◌, Bool, true, false, List, [], ◌∷◌, Option, Some, None, Result, Ok, Err, if◌then◌else◌}
use Rattle.asm.specs.declared.refusals.AsmFault.{AsmFault}
use Rattle.asm.specs.declared.words.Mnemonic.{Mnemonic}
use Rattle.asm.specs.declared.words.Mnemonic.TheVariants.{Ja, Branch}
use Rattle.asm.specs.declared.labels.Mark.{Mark}
use Rattle.asm.specs.Tokens.{tokens_behind}
use Rattle.asm.specs.Operands.{Goal, By, target_of}
use Rattle.asm.specs.Operands as goals
use Rattle.asm.specs.Words.{meaning_of}
use Rattle.asm.specs.Labels.{Marks, Held, Blank, Label, Word, slots_behind, line_of}
use Rattle.asm.specs.Text.{with_sign}

-- the distance to a mark, counted from the slot behind the jump; where there is none, the target as it is
abbrev pub said : ℕ → List ℕ → Option Mark → List ℕ
said slot target None = target
said slot target (Some mark) = with_sign (pos mark.slot -ℤ pos (slot + 1))

-- what is said for a target that is a label
abbrev pub named : Marks → ℕ → List ℕ → Result Goal AsmFault → List ℕ
named marks slot target (Ok (goals.Label name)) = said slot target (marks name)
named marks slot target (Ok (By distance)) = target
named marks slot target (Err why) = target

-- the target of a jump at this slot: a label by its distance, and a distance as it is
abbrev pub distanced : Marks → ℕ → List ℕ → List ℕ
distanced marks slot target = named marks slot target (target_of target)

-- whether the last operand behind this word is the target of a jump
abbrev pub is_jump : Option Mnemonic → Bool
is_jump (Some (Ja long)) = true
is_jump (Some (Branch w64 cond)) = true
is_jump _ = false

-- the last one changed
abbrev pub change_last : (List ℕ → List ℕ) → List (List ℕ) → List (List ℕ)
change_last f [] = []
change_last f (token ∷ []) = f token ∷ []
change_last f (token ∷ next ∷ tokens) = token ∷ change_last f (next ∷ tokens)

-- the tokens of a line at this slot: a label's line has none, and a jump says its distance
abbrev pub unlabelled : Marks → ℕ → Held → List (List ℕ)
unlabelled marks slot Blank = []
unlabelled marks slot (Label name is_followed) = []
unlabelled marks slot (Word word rest) =
    word ∷ (if is_jump (meaning_of word) then change_last (distanced marks slot) (tokens_behind [] rest) else tokens_behind [] rest)

-- the tokens of lines behind so many slots
abbrev pub unlabelled_lines : Marks → ℕ → List (List ℕ) → List (List (List ℕ))
unlabelled_lines marks slot [] = []
unlabelled_lines marks slot (line ∷ lines) = unlabelled marks slot (line_of line) ∷ unlabelled_lines marks (slots_behind (line_of line) slot) lines
