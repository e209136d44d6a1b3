-- The script that a text of calls says, as a function of the text.
use Rattle.std.specs.Prelude.{◌≡◌, ℕ, ◌+◌, ◌-◌, nat_lt, List, [], ◌∷◌, ◌++◌, length, codes, Option, Some, None, Result, Ok, Err, MatchResult, if◌then◌else◌}
use Rattle.hex.specs.Hex.{encode_lower}
use Rattle.text.specs.declared.lines.LineKind.{LineKind}
use Rattle.text.specs.declared.lines.LineKind.TheVariants as line_kinds
use Rattle.text.specs.declared.lines.TheConstants.{LINE_BYTES}
use Rattle.text.specs.Lines.{lines_of, next_line, kind_of}
use Rattle.text.specs.Fields.{cut_at, split_at_space}
use Rattle.text.specs.Words.{is_name}
use Rattle.encoding.specs.declared.arguments.TheConstants.{ARGUMENT_BYTES}
use Rattle.encoding.specs.declared.kinds.Kind.{Kind}
use Rattle.encoding.specs.declared.faults.Wanted.TheVariants as wanted
use Rattle.encoding.specs.declared.faults.LineFault.{LineFault}
use Rattle.encoding.specs.declared.faults.EncodeRefusal.{EncodeRefusal}
use Rattle.encoding.specs.Words.{words_of}
use Rattle.encoding.specs.Values.{kind_named, spelled}
use Rattle.encoding.specs.Faults.{fault}

-- the next step, where the one before gave something
infixl 10 ◌>>=◌
abbrev pub ◌>>=◌ : {A B E : Type 0} → Result A E → (A → Result B E) → Result B E
Ok x >>= f = f x
Err e >>= f = Err e

-- ---- values

-- what is there, or else this fault
abbrev pub or_fault : {A : Type 0} → LineFault → Option A → Result A LineFault
or_fault why (Some x) = Ok x
or_fault why None = Err why

-- the kind and the field of a value
unfoldable pub parts_of : ℕ → List ℕ → Result (Kind × List ℕ) LineFault
parts_of column word = do
  parts ← or_fault (fault column wanted.Kind) (cut_at 58 word)
  kind ← or_fault (fault column wanted.Kind) (kind_named parts.0)
  Ok (kind, parts.1)

-- the bytes of a value that stands at this column
unfoldable pub value_of : ℕ → List ℕ → Result (List ℕ) LineFault
value_of column word = do
  parts ← parts_of column word
  or_fault (fault (column + (length word - length parts.1)) (wanted.Value parts.0)) (spelled parts.0 parts.1)

-- these bytes behind those of an argument, where it has room
abbrev pub placed : ℕ → List ℕ → List ℕ → Result (List ℕ) LineFault
placed column so_far bytes = if nat_lt ARGUMENT_BYTES (length so_far + length bytes) then Err (fault column wanted.Room) else Ok (so_far ++ bytes)

-- a value behind the bytes of an argument
unfoldable pub added : ℕ → List ℕ → List ℕ → Result (List ℕ) LineFault
added column so_far word = value_of column word >>= placed column so_far

-- the answer is what was read; if it is an argument, the argument that was lent has become that
abbrev pub LeavesArgument : {T : Type 0} → Result (List ℕ) LineFault → Result T LineFault → List ℕ → Type 0
LeavesArgument read answer argument = MatchResult answer (λ _. read ≡ Ok argument) (λ e. read ≡ Err e)

-- ---- lines

-- the argument of the values in these words, of which the first stands at this column, behind what was there before
unfoldable pub argument_from : ℕ → List ℕ → List (List ℕ) → Result (List ℕ) LineFault
argument_from column so_far [] = Ok so_far
argument_from column so_far (word ∷ words) = added column so_far word >>= (λ more. argument_from (column + length word + 1) more words)

-- HEX: two digits a byte, or - for no bytes
abbrev pub digits_of : List ℕ → List ℕ
digits_of [] = codes "-"
digits_of (b ∷ bs) = encode_lower (b ∷ bs)

-- NAME HEX
abbrev pub script_line : List ℕ → List ℕ → List ℕ
script_line name argument = name ++ (codes " " ++ digits_of argument)

-- the call of this name with these values
unfoldable pub named_line : List ℕ → List (List ℕ) → Result (List ℕ) LineFault
named_line name values =
    if is_name name then (argument_from (length name + 2) [] values >>= (λ argument. Ok (script_line name argument))) else Err (fault 1 wanted.Name)

-- a line is a name, and behind a space values
abbrev pub cut_line : List ℕ → Option (List ℕ × List ℕ) → Result (List ℕ) LineFault
cut_line line None = named_line line []
cut_line line (Some parts) = named_line parts.0 (words_of parts.1)

unfoldable pub call_line : List ℕ → Result (List ℕ) LineFault
call_line line = cut_line line (split_at_space line)

abbrev pub encoded_by : List ℕ → LineKind → Result (List ℕ) LineFault
encoded_by line line_kinds.TooLong = Err (fault (LINE_BYTES + 1) wanted.LineEnd)
encoded_by line line_kinds.Comment = Ok line
encoded_by line line_kinds.Words = call_line line

-- the script's line: an empty line and a comment stay as they are
unfoldable pub encoded : List ℕ → Result (List ℕ) LineFault
encoded line = encoded_by line (kind_of line)

-- ---- texts

abbrev pub onto : List ℕ → Result (List ℕ) EncodeRefusal → Result (List ℕ) EncodeRefusal
onto before (Ok text) = Ok (before ++ text)
onto before (Err e) = Err e

-- a line that is wrong, or its line of the script before what is behind
abbrev pub behind : ℕ → Result (List ℕ) LineFault → Result (List ℕ) EncodeRefusal → Result (List ℕ) EncodeRefusal
behind n (Err why) later = Err (record { line = n; fault = why })
behind n (Ok line) later = onto (line ++ codes "\n") later

-- the script of these lines, of which the first has this number
unfoldable pub encoded_from : ℕ → List (List ℕ) → Result (List ℕ) EncodeRefusal
encoded_from n [] = Ok []
encoded_from n (line ∷ lines) = behind n (encoded line) (encoded_from (next_line n) lines)

-- the script of a text, or the first place that is wrong
unfoldable pub encoded_text : List ℕ → Result (List ℕ) EncodeRefusal
encoded_text text = encoded_from 1 (lines_of text)
