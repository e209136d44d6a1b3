-- What is known of the lines above. Clauses of private functions alone cite this.
use Rattle.std.specs.Prelude.{◌≡◌, ℕ, List, [], ◌∷◌, ◌++◌, map, Option, Some, None, option_map, MatchOption, Result, Ok, Err, MatchResult, Vec, if◌then◌else◌}
use Rattle.std.specs.Global.{Global}
use Rattle.insn.specs.declared.instruction.Form.{Form}
use Rattle.maps.specs.declared.shapes.Shape.{Shape}
use Rattle.maps.specs.declared.shapes.MapLimits.{MapLimits}
use Rattle.loader.specs.declared.refusals.LoadFault.{LoadFault}
use Rattle.loader.specs.declared.grammar.ProgramLine.{ProgramLine as TheLine}
use Rattle.loader.specs.Grammar.{Meaning, Program, ProgramLine}
use Rattle.loader.specs.LineShown.{program_of}
use Rattle.loader.specs.ProgramFiles.{files_of}
use Rattle.explain.specs.Explanation.{IsWithin}
use Rattle.explain.specs.Manifest.{Above, has_map, is_asked, map_fault, program_in, with_line}
use Rattle.json.specs.Token.{Token}
use Rattle.json.specs.Written.{Written}
use Rattle.findings.specs.declared.causes.Cause.{Cause}
use Rattle.findings.specs.declared.causes.Finding.{Finding as TheFinding}
use Rattle.findings.specs.declared.search.Search.{Search}
use Rattle.findings.specs.Findings.{Finding, finding_of, fault_of, of_asked, of_line, of_program, of_read}

abbrev pub above_of : Search → Above
above_of s = record { shapes = s.shapes.items; bad_map = s.bad_map; names = map (λ n. n.now) s.names.items }

abbrev pub name_of : Search → Option (List ℕ)
name_of s = option_map (λ n. n.now) s.name

-- these are found too, after what was found
abbrev pub Adds : List TheFinding → List TheFinding → List Finding → Type 0
Adds old new more = map finding_of new ≡ map finding_of old ++ more

-- `Adds`, of vectors
abbrev pub Finds : Vec TheFinding Global → Vec TheFinding Global → List Finding → Type 0
Finds old new more = Adds old.items new.items more

-- ---- of the program of the line that is looked at

-- what is wrong with it, if its file spells this
abbrev pub of_judged : Search → TheLine → List Form → List Finding
of_judged s line program = of_program s.line (above_of s) (program_of line) program

-- what is wrong with it or with its file, if a map is above
abbrev pub of_file : Search → TheLine → List Finding
of_file s line = if has_map (above_of s) then of_read s.line (above_of s) (program_of line) (program_in (files_of s.files.now) line.file.now) else []

-- all that is wrong with it, if it is asked for
abbrev pub of_named : Search → ProgramLine → List Finding
of_named s p = if is_asked (name_of s) (Some (Program p)) then of_asked (files_of s.files.now) s.line (above_of s) p else []

-- ---- of a line

-- what was read is the program that this reading gives, or why it gives none
abbrev pub IsRead : Result (List Form) LoadFault → Result (Vec Form Global) Cause → Type 0
IsRead reading read = MatchResult read (λ program. (reading ≡ Ok program.items)) (λ cause. reading ≡ Err (fault_of cause))

-- a map is taken, or this is what keeps it out
pub record TakesMap (limits : MapLimits) (a : Above) (shape : Shape) (b : Above) (fault : Option LoadFault) : Type 0 where
  pub taken : MatchOption (map_fault limits a shape) ((fault ≡ None) × (b ≡ record a { shapes = a.shapes ++ shape ∷ [] })) (λ why. (fault ≡ Some why) × (b ≡ a))
  pub within : IsWithin limits b

-- one line more: what is wrong with it is found, and it stands above the next
pub record TakesLine (n : ℕ) (line : List ℕ) (meaning : Option Meaning) (s t : Search) (old new : List TheFinding) : Type 0 where
  pub found : Adds old new (of_line s.limits (files_of s.files.now) (name_of s) n (above_of s) meaning)
  pub above : above_of t ≡ with_line s.limits n line meaning (above_of s)
  pub within : IsWithin s.limits (above_of t)
  pub limits : t.limits ≡ s.limits
  pub files : t.files ≡ s.files
  pub name : t.name ≡ s.name

-- `TakesLine`, but of the line that is looked at
abbrev pub TakesNext : List ℕ → Option Meaning → Search → Search → List TheFinding → List TheFinding → Type 0
TakesNext line meaning s t old new = TakesLine s.line line meaning s t old new

-- these tokens are written too, after what was written
abbrev pub Follows : Written → Written → List Token → Type 0
Follows old new more = (new.before ≡ old.before) × (new.tokens ≡ old.tokens ++ more)
