-- The lines of a text, and which of them say something.
use Rattle.std.specs.Prelude.{◌≡◌, ℕ, ◌+◌, ◌-◌, ◌^◌, min, ◌||◌, List, [], ◌∷◌, length, Option, Some, None, nat_lt, ◌==◌, if◌then◌else◌, slice_index}
use Rattle.std.specs.List.{onto_first}
use Rattle.text.specs.declared.lines.TheConstants.{LINE_BYTES}
use Rattle.text.specs.declared.lines.LineKind.{LineKind}
use Rattle.text.specs.declared.lines.LineKind.TheVariants as kinds

-- each line ends at a line feed, which the last may lack
abbrev pub lines_of : List ℕ → List (List ℕ)
lines_of [] = []
lines_of (c ∷ cs) = if c == 10 then [] ∷ lines_of cs else onto_first c (lines_of cs)

-- the number of the line behind line n, as far as 32 bits go
abbrev pub next_line : ℕ → ℕ
next_line n = min (n + 1) (2 ^ 32 - 1)

-- the lines that are left, and the number of the first of them
pub record LinesLeft : Type 0 where
  pub number : ℕ
  pub lines : List (List ℕ)

-- a line, and its number
abbrev pub Numbered : Type 0
Numbered = ℕ × List ℕ

-- the first of the lines was taken, or there is none
abbrev pub Takes : LinesLeft → LinesLeft → Option Numbered → Type 0
Takes old new None = (old.lines ≡ []) × (new ≡ old)
Takes old new (Some first) = (old.lines ≡ first.1 ∷ new.lines) × (first.0 ≡ old.number) × (new.number ≡ next_line old.number)

-- a line over 512 bytes is bad whatever it holds; an empty line and one that begins with # say nothing
unfoldable pub kind_of : List ℕ → LineKind
kind_of line =
    if nat_lt LINE_BYTES (length line) then kinds.TooLong
    else if length line == 0 || slice_index line 0 == 35 then kinds.Comment
    else kinds.Words

-- what a line of this kind means, where its words mean this
abbrev pub by_kind : {M : Type 0} → M → Option M → LineKind → Option M
by_kind nothing words kinds.TooLong = None
by_kind nothing words kinds.Comment = Some nothing
by_kind nothing words kinds.Words = words
