-- What is wrong with a manifest and its programs, line by line, by limits of maps.
use Rattle.std.specs.Prelude.{ℕ, Bool, true, false, not, ◌&&◌, List, [], ◌∷◌, ◌++◌, Option, Some, None, is_none, Result, Ok, Err, option_map, if◌then◌else◌}
use Rattle.text.specs.Lines.{lines_of, next_line}
use Rattle.insn.specs.declared.instruction.Form.{Form}
use Rattle.maps.specs.declared.shapes.Shape.{Shape}
use Rattle.maps.specs.declared.shapes.MapLimits.{MapLimits}
use Rattle.verifier.specs.declared.refusal.Refused.{Refused}
use Rattle.verifier.specs.Signature.{signature}
use Rattle.verifier.specs.Verdict.{verdict}
use Rattle.loader.specs.declared.refusals.LoadFault.{LoadFault}
use Rattle.loader.specs.declared.refusals.LoadFault.TheVariants.{BadLine, BadHex, Decode, Verify, TooMany}
use Rattle.loader.specs.declared.refusals.LoadRefusal.{LoadRefusal}
use Rattle.loader.specs.Grammar.{ProgramLine, Meaning, Comment, Map, Program, line_meaning}
use Rattle.loader.specs.LineShown.{program_of}
use Rattle.loader.specs.ProgramFiles.{Files}
use Rattle.explain.specs.Manifest.{Above, nothing_above, has_map, is_asked, is_full, is_misplaced, map_fault, program_in, with_line}
use Rattle.findings.specs.declared.causes.Cause.{Cause}
use Rattle.findings.specs.declared.causes.Cause.TheVariants as causes
use Rattle.findings.specs.declared.causes.Finding.{Finding as TheFinding}

-- a bad line, what is wrong with it, and its program, if it is that of one
pub record Finding : Type 0 where
  pub refusal : LoadRefusal
  pub program : Option ProgramLine

abbrev pub finding : ℕ → Option ProgramLine → LoadFault → Finding
finding n p why = record { refusal = record { line = n; why = why }; program = p }

-- it, if that is so
abbrev pub finding_if : Bool → Finding → List Finding
finding_if is f = if is then f ∷ [] else []

-- ---- of a program

-- why it is refused, if it is
abbrev pub of_verdict : ℕ → ProgramLine → Option Refused → List Finding
of_verdict n p None = []
of_verdict n p (Some e) = finding n (Some p) (Verify e) ∷ []

-- after the line of a bad map no program is judged
abbrev pub of_program : ℕ → Above → ProgramLine → List Form → List Finding
of_program n a p program = if is_none a.bad_map then of_verdict n p (verdict program (signature a.shapes p.arg_len p.mode)) else []

-- what is wrong with what was read: the program, or its file
abbrev pub of_read : ℕ → Above → ProgramLine → Result (List Form) LoadFault → List Finding
of_read n a p (Ok program) = of_program n a p program
of_read n a p (Err why) = finding n (Some p) why ∷ []

-- C1 before any map or if the name is taken, C5 if it is the 257th program, and what is wrong with its file or with itself. Before any map no file is read
abbrev pub of_asked : Files → ℕ → Above → ProgramLine → List Finding
of_asked files n a p =
    finding_if (is_misplaced a p.name) (finding n (Some p) BadLine)
    ++ (finding_if (is_full a) (finding n (Some p) TooMany) ++ (if has_map a then of_read n a p (program_in files p.file) else []))

-- ---- of lines

-- of a map, if all lines are asked for
abbrev pub of_map : Bool → ℕ → Option LoadFault → List Finding
of_map all n None = []
of_map all n (Some why) = finding_if all (finding n None why)

-- of a line that means this
abbrev pub of_line : MapLimits → Files → Option (List ℕ) → ℕ → Above → Option Meaning → List Finding
of_line limits files name n a None = finding_if (is_none name) (finding n None BadLine)
of_line limits files name n a (Some Comment) = []
of_line limits files name n a (Some (Map shape)) = of_map (is_none name) n (map_fault limits a shape)
of_line limits files name n a (Some (Program p)) = if is_asked name (Some (Program p)) then of_asked files n a p else []

-- of one line after another, from line n on; C1 after the last if there is no map
abbrev pub of_lines : MapLimits → Files → Option (List ℕ) → ℕ → Above → List (List ℕ) → List Finding
of_lines limits files name n a [] = finding_if (is_none name && not (has_map a)) (finding n None BadLine)
of_lines limits files name n a (l ∷ ls) =
    of_line limits files name n a (line_meaning limits l) ++ of_lines limits files name (next_line n) (with_line limits n l (line_meaning limits l) a) ls

-- of all lines of a manifest, or if a name is given of the programs of this name
abbrev pub findings : MapLimits → Files → Option (List ℕ) → List ℕ → List Finding
findings limits files name manifest = of_lines limits files name 1 nothing_above (lines_of manifest)

-- ---- by code

abbrev pub fault_of : Cause → LoadFault
fault_of causes.BadLine = BadLine
fault_of causes.BadHex = BadHex
fault_of (causes.Decode e) = Decode e
fault_of (causes.Refused reason) = Verify reason.refused
fault_of causes.TooMany = TooMany

abbrev pub finding_of : TheFinding → Finding
finding_of f = finding f.line (option_map program_of f.program) (fault_of f.cause)
