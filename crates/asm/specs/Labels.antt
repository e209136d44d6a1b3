-- Lines by what they hold, and where labels stand.
use Rattle.std.specs.Prelude.{ℕ, ◌+◌, ◌-◌, ◌^◌, min, Bool, ◌&&◌, ◌||◌, ◌==◌, nat_lt, List, [], ◌∷◌, length, Option, Some, None, if◌then◌else◌}
use Rattle.std.specs.Ordering.{nat_cmp}
use Rattle.std.specs.Cmp.Lexicographic.{slice_cmp}
use Rattle.std.specs.Str.{bytes_eq}
use Rattle.std.specs.Option.{option_or}
use Rattle.std.specs.BTreeMap.{get_by}
use Rattle.text.specs.Lines.{next_line}
use Rattle.asm.specs.declared.words.Mnemonic.{Mnemonic}
use Rattle.asm.specs.declared.words.Mnemonic.TheVariants.{Imm64, MapRef}
use Rattle.asm.specs.declared.tokens.Stop.TheVariants.{Semicolon, Visible, TokenEnd, Colon}
use Rattle.asm.specs.declared.labels.Line.{Line}
use Rattle.asm.specs.declared.labels.Line.TheVariants as code
use Rattle.asm.specs.declared.labels.Mark.{Mark}
use Rattle.asm.specs.declared.labels.Labels.{Labels}
use Rattle.asm.specs.Tokens.{before, rest_from}
use Rattle.asm.specs.Operands.{is_label}
use Rattle.asm.specs.Words.{meaning_of}

-- what a line holds: nothing, a label and whether something stands behind it, or any other word and what stands behind it
pub data Held : Type 0 where
  Blank : Held
  Label : List ℕ → Bool → Held
  Word : List ℕ → List ℕ → Held

abbrev pub shown_line : Line → Held
shown_line code.Blank = Blank
shown_line (code.Label name is_followed) = Label name.now is_followed
shown_line (code.Word word rest) = Word word.now rest.now

-- a word that is a name and a colon is a label
unfoldable pub word_or_label : List ℕ → List ℕ → Held
word_or_label word rest =
    if nat_lt 0 (length (rest_from Colon word)) && is_label (before Colon word)
    then Label (before Colon word) (nat_lt 1 (length (rest_from Colon word)) || nat_lt 0 (length (rest_from Visible rest)))
    else Word word rest

-- a line up to its comment
unfoldable pub line_of : List ℕ → Held
line_of line =
    let text = rest_from Visible (before Semicolon line) in
    if length text == 0 then Blank else word_or_label (before TokenEnd text) (rest_from TokenEnd text)

-- how many slots an instruction with this word takes
abbrev pub slots_said : Option Mnemonic → ℕ
slots_said (Some Imm64) = 2
slots_said (Some MapRef) = 2
slots_said _ = 1

abbrev pub slots_of_word : List ℕ → ℕ
slots_of_word word = slots_said (meaning_of word)

abbrev pub mark : ℕ → ℕ → Mark
mark slot line = record { slot = slot; line = line }

-- where each label stands
abbrev pub Marks : Type 0
Marks = List ℕ → Option Mark

abbrev pub marks_of : Labels → Marks
marks_of labels q = get_by (λ k. slice_cmp nat_cmp q k.now) labels.marks

-- the mark of a line that holds this label
abbrev pub mark_here : Held → Mark → Marks
mark_here (Label name is_followed) here q = if bytes_eq name q then Some here else None
mark_here _ here q = None

-- how many slots stand before the next line
abbrev pub slots_behind : Held → ℕ → ℕ
slots_behind (Word word rest) slot = min (slot + slots_of_word word) (2 ^ 64 - 1)
slots_behind _ slot = slot

-- the first place where a label stands, in these lines behind so many slots, of which the first has this number
unfoldable pub marks_from : ℕ → ℕ → List (List ℕ) → Marks
marks_from n slot [] q = None
marks_from n slot (line ∷ lines) q =
    option_or (mark_here (line_of line) (mark slot n) q) (marks_from (next_line n) (slots_behind (line_of line) slot) lines q)

-- a label is where it stood before, or else here
abbrev pub noted : Option Mark → List ℕ → Mark → List ℕ → Option Mark
noted found name here q = option_or found (if bytes_eq name q then Some here else None)
