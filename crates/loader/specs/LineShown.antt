-- What a line that was read means, without where its text lies. Clauses of private functions alone cite this.
use Rattle.std.specs.Prelude.{◌≤◌, length}
use Rattle.text.specs.declared.words.TheConstants.{NAME_BYTES}
use Rattle.maps.specs.declared.shapes.MapLimits.{MapLimits}
use Rattle.maps.specs.Shapes.{IsShapeWithin}
use Rattle.loader.specs.declared.grammar.ProgramLine.{ProgramLine as TheLine}
use Rattle.loader.specs.declared.grammar.Line.{Line}
use Rattle.loader.specs.declared.grammar.Line.TheVariants as lines
use Rattle.loader.specs.Grammar.{ProgramLine, Meaning, Comment, Map, Program}

abbrev pub program_of : TheLine → ProgramLine
program_of p = record { name = p.name.now; mode = p.mode; arg_len = p.arg_len; file = p.file.now }

abbrev pub meaning_of : Line → Meaning
meaning_of lines.Comment = Comment
meaning_of (lines.Map shape) = Map shape
meaning_of (lines.Program p) = Program (program_of p)

-- what a line names is within its limits
abbrev pub LineFits : MapLimits → Line → Type 0
LineFits l lines.Comment = Unit {0}
LineFits l (lines.Map shape) = IsShapeWithin l shape
LineFits l (lines.Program p) = (p.arg_len ≤ l.argument) × (length p.name.now ≤ NAME_BYTES)
