-- What was read of a line, without where its text lies. Clauses of private functions alone cite this.
use Rattle.std.specs.Prelude.{ℕ, List, [], Option, Some, None, Result, Ok, Err}
use Rattle.std.specs.Borrow.{Bor}
use Rattle.encoding.specs.declared.kinds.Kind.{Kind}
use Rattle.encoding.specs.declared.lines.Call.{Call}
use Rattle.encoding.specs.declared.lines.Line.{Line}
use Rattle.encoding.specs.declared.lines.Line.TheVariants as lines
use Rattle.encoding.specs.Words.{words_of}
use Rattle.encoding.specs.Encoded.{script_line}

-- the answer, its value seen by view
abbrev pub result_map : {A B E : Type 0} → (A → B) → Result A E → Result B E
result_map view (Ok x) = Ok (view x)
result_map view (Err e) = Err e

-- the words behind a word: none, where no space ended it
abbrev pub words_behind : Option (List ℕ) → List (List ℕ)
words_behind None = []
words_behind (Some text) = words_of text

abbrev pub shown_parts : Kind × Bor (List ℕ) → Kind × List ℕ
shown_parts p = (p.0, p.1.now)

-- the line of a call
abbrev pub call_text : Call → List ℕ
call_text c = script_line c.name.now c.argument.items

-- what becomes of this line
abbrev pub line_text : List ℕ → Line → List ℕ
line_text line lines.Silent = line
line_text line (lines.Call c) = call_text c
