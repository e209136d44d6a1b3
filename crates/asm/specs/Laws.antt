-- What text and programs are to one another.
use Rattle.std.specs.Prelude.{◌≡◌, ◌≤◌, ◌↔◌, ℕ, List, map, Some, Ok}
use Rattle.std.specs.List.{AllByRecursion}
use Rattle.insn.specs.declared.instruction.Form.{Form}
use Rattle.insn.specs.declared.instruction.TheConstants.{MAX_SLOTS}
use Rattle.insn.specs.Encoding.{HasEncoding}
use Rattle.insn.specs.Layout.{size}
use Rattle.asm.specs.declared.words.Mnemonic.{Mnemonic}
use Rattle.text.specs.Lines.{lines_of}
use Rattle.asm.specs.Tokens.{tokens_of}
use Rattle.asm.specs.Words.{word_of, meaning_of, HasWord}
use Rattle.asm.specs.Text.{text_of}
use Rattle.asm.specs.Labels.{marks_from}
use Rattle.asm.specs.Assembled.{assembled}
use Rattle.asm.specs.Unlabelled.{unlabelled_lines}

-- the canonical text of a program says that program
abbrev pub IsReadBack : Type 0
IsReadBack = (p : List Form) → AllByRecursion HasEncoding p → size p ≤ MAX_SLOTS → assembled (text_of p) ≡ Ok p

-- a word says this exactly where it is the word for it
abbrev pub EachWordIsItsSpelling : Type 0
EachWordIsItsSpelling = (word : List ℕ) (m : Mnemonic) → (meaning_of word ≡ Some m) ↔ (HasWord m × (word ≡ word_of m))

-- texts that have the same tokens line by line say the same: white space between tokens and at the ends of lines, and comments, say nothing
abbrev pub TokensSayAll : Type 0
TokensSayAll = (text other : List ℕ) → map tokens_of (lines_of text) ≡ map tokens_of (lines_of other) → assembled text ≡ assembled other

-- a text that has the tokens of a program's text, with each label replaced by its distance, says the same program
abbrev pub LabelsAreDistances : Type 0
LabelsAreDistances =
    (text other : List ℕ) (p : List Form) → assembled text ≡ Ok p
    → map tokens_of (lines_of other) ≡ unlabelled_lines (marks_from 1 0 (lines_of text)) 0 (lines_of text) → assembled other ≡ Ok p
