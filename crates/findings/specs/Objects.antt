-- The JSON object of a finding (RFC 8259), in a line of its own.
use Rattle.std.specs.Prelude.{◌≡◌, ℕ, true, false, List, [], ◌∷◌, ◌++◌, map, codes, decimal, Option, Some, None, IfSome}
use Rattle.std.specs.List.{flat_map}
use Rattle.std.specs.String.{string_bytes}
use Rattle.json.specs.Token.{Token, begin_object, end_object, begin_array, end_array, key, string, number}
use Rattle.json.specs.Print.{print}
use Rattle.insn.specs.Refusal as decoding
use Rattle.maps.specs.declared.shapes.MapLimits.{MapLimits}
use Rattle.verifier.specs.Numbers as verifying
use Rattle.loader.specs.declared.grammar.ProgramLine.{ProgramLine}
use Rattle.loader.specs.ProgramFiles.{Files}
use Rattle.explain.specs.Manifest.{has_asked, has_program}
use Rattle.explain.specs.declared.refusals.Reason.{Reason}
use Rattle.findings.specs.declared.causes.Cause.{Cause}
use Rattle.findings.specs.declared.causes.Cause.TheVariants.{BadLine, BadHex, Decode, Refused, TooMany}
use Rattle.findings.specs.declared.causes.Finding.{Finding as TheFinding}
use Rattle.findings.specs.Findings.{Finding, finding_of, findings}

-- ---- members

abbrev pub text_member : List ℕ → List ℕ → List Token
text_member name text = key name ∷ string text ∷ []

abbrev pub number_member : List ℕ → ℕ → List Token
number_member name n = key name ∷ number (decimal n) ∷ []

-- the letter and the number of a rule
abbrev pub rule_member : List ℕ → ℕ → List Token
rule_member letter n = text_member (codes "refusal") (letter ++ decimal n)

-- the slots of a way
abbrev pub way_member : List ℕ → List Token
way_member slots = key (codes "way") ∷ begin_array ∷ (map (λ s. number (decimal s)) slots ++ end_array ∷ [])

-- ---- objects

-- the name of the line's program, and its file
abbrev pub program_members : Option ProgramLine → List Token
program_members None = []
program_members (Some p) = text_member (codes "program") p.name.now ++ text_member (codes "file") p.file.now

-- the rule, the slot, a list of slots and two texts, of which nothing more is said
abbrev pub reason_members : Reason → List Token
reason_members r =
    rule_member (codes "V") (verifying.fault_number r.refused.why)
    ++ (number_member (codes "slot") r.refused.slot
    ++ (way_member r.way.items ++ (text_member (codes "wrong") (string_bytes r.wrong) ++ text_member (codes "todo") (string_bytes r.to_do))))

-- the rule that is broken: C1, C2 or C5, or for a program D1 to D9 or V1 to V18 with the slot
abbrev pub cause_members : Cause → List Token
cause_members BadLine = rule_member (codes "C") 1
cause_members BadHex = rule_member (codes "C") 2
cause_members (Decode e) = rule_member (codes "D") (decoding.fault_number e.why) ++ number_member (codes "slot") e.slot
cause_members (Refused r) = reason_members r
cause_members TooMany = rule_member (codes "C") 5

-- the line's number, its program, and what is wrong
abbrev pub object : TheFinding → List Token
object f = begin_object ∷ (number_member (codes "line") f.line ++ (program_members f.program ++ (cause_members f.cause ++ end_object ∷ [])))

abbrev pub object_line : TheFinding → List ℕ
object_line f = print (object f) ++ codes "\n"

-- a line for each finding, in order
pub record AreObjects (found : List Finding) (text : List ℕ) : Type 0 where
  pub told : List TheFinding
  pub each : map finding_of told ≡ found
  pub whole : text ≡ flat_map object_line told

-- ---- what else an answer may be

-- no line is that of a program of this name
abbrev pub missing : List ℕ → List Token
missing name = begin_object ∷ (text_member (codes "missing") name ++ end_object ∷ [])

abbrev pub missing_line : List ℕ → List ℕ
missing_line name = print (missing name) ++ codes "\n"

-- what goes by this name is not UTF-8
abbrev pub stranger_members : List ℕ → List Token
stranger_members name = text_member (codes "file") name ++ text_member (codes "refusal") (codes "not UTF-8")

abbrev pub stranger : List ℕ → List Token
stranger name = begin_object ∷ (stranger_members name ++ end_object ∷ [])

abbrev pub stranger_line : List ℕ → List ℕ
stranger_line name = print (stranger name) ++ codes "\n"

-- ---- the whole text

-- a line for each finding in a manifest, or in the lines of the programs of this name; if no line is that of one, the line that says so
pub record IsFoundIn (limits : MapLimits) (files : Files) (name : Option (List ℕ)) (manifest text : List ℕ) : Type 0 where
  pub found : has_asked limits name manifest ≡ true → AreObjects (findings limits files name manifest) text
  pub missing : IfSome name (λ n. has_program limits n manifest ≡ false → text ≡ missing_line n)
