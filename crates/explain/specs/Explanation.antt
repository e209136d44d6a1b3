-- What is known of the lines above. Clauses of private functions alone cite this.
use Rattle.std.specs.Prelude.{◌≡◌, ℕ, true, List, [], ◌∷◌, ◌++◌, map, codes, String, Result, is_none, Option, Some, None, option_map, MatchOption}
use Rattle.std.specs.List.{All}
use Rattle.std.specs.String.{string_bytes}
use Rattle.insn.specs.declared.instruction.Form.{Form}
use Rattle.maps.specs.declared.shapes.Shape.{Shape}
use Rattle.maps.specs.declared.shapes.MapLimits.{MapLimits}
use Rattle.maps.specs.Shapes.{AreLimits, IsShapeWithin}
use Rattle.loader.specs.declared.refusals.LoadFault.{LoadFault}
use Rattle.loader.specs.declared.grammar.ProgramLine.{ProgramLine as TheLine}
use Rattle.loader.specs.Grammar.{Meaning, Program}
use Rattle.loader.specs.LineShown.{program_of}
use Rattle.loader.specs.ProgramFiles.{files_of}
use Rattle.loader.specs.Loading.{are_few}
use Rattle.loader.specs.Refusal.{fault_number}
use Rattle.explain.specs.declared.files.manifest.Explanation.{Explanation}
use Rattle.explain.specs.Manifest.{Above, has_map, map_fault, is_asked, refused_by, with_line, IsJudged, TellsIfAsked, TellsOfLine, TellsOfRead, TellsWhereMap}
use Rattle.explain.specs.Told.{Adds, BeginsIf}

abbrev pub above_of : Explanation → Above
above_of e = record { shapes = e.shapes.items; bad_map = e.bad_map; names = map (λ n. n.0.now) e.names.items }

abbrev pub name_of : Explanation → Option (List ℕ)
name_of e = option_map (λ n. n.now) e.name

-- a text that is so stands behind what stood there
abbrev pub Writes : {Y : Type 0} → (List ℕ → Type 0) → String Y → String Y → Type 0
Writes IsSo old new = Adds IsSo (string_bytes old) (string_bytes new)

-- ---- what is told of the line

-- the line is refused by this rule, if no name is given
abbrev pub IsFault : Explanation → ℕ → List ℕ → Type 0
IsFault e rule text = BeginsIf (is_none (name_of e)) (refused_by e.line rule ++ codes "\n") text

-- of its program
abbrev pub Judges : Explanation → TheLine → List Form → List ℕ → Type 0
Judges e p program text = IsJudged e.bad_map e.shapes.items e.line (program_of p) program text

-- of what was read
abbrev pub TellsRead : Explanation → TheLine → Result (List Form) LoadFault → List ℕ → Type 0
TellsRead e p read text = TellsOfRead e.line (above_of e) (program_of p) read text

-- of the file of its program, where a map stands above
abbrev pub TellsKnown : Explanation → TheLine → List ℕ → Type 0
TellsKnown e p text = TellsWhereMap (has_map (above_of e)) (files_of e.files.now) e.line (above_of e) (program_of p) text

-- of its program
abbrev pub TellsAsked : Explanation → TheLine → List ℕ → Type 0
TellsAsked e p text = TellsIfAsked (is_asked (name_of e) (Some (Program (program_of p)))) (files_of e.files.now) e.line (above_of e) (program_of p) text

-- ---- what then stands above

-- the maps are within these limits
pub record IsWithin (limits : MapLimits) (a : Above) : Type 0 where
  pub limits_are : AreLimits limits
  pub each : All (IsShapeWithin limits) a.shapes
  pub few : are_few limits a.shapes ≡ true

-- a map is taken, or the rule is told that keeps it out
pub record TakesMap (limits : MapLimits) (a : Above) (shape : Shape) (b : Above) (rule : Option ℕ) : Type 0 where
  pub told : MatchOption (map_fault limits a shape) ((rule ≡ None) × (b ≡ record a { shapes = a.shapes ++ shape ∷ [] })) (λ why. (rule ≡ Some (fault_number why)) × (b ≡ a))
  pub within : IsWithin limits b

-- one line more: what is told of it stands behind what stood there, and it stands above the next
pub record TakesLine (n : ℕ) (line : List ℕ) (meaning : Option Meaning) (e f : Explanation) (old new : List ℕ) : Type 0 where
  pub told : Adds (TellsOfLine e.limits (files_of e.files.now) (name_of e) n (above_of e) meaning) old new
  pub above : above_of f ≡ with_line e.limits n line meaning (above_of e)
  pub within : IsWithin e.limits (above_of f)
  pub limits : f.limits ≡ e.limits
  pub files : f.files ≡ e.files
  pub name : f.name ≡ e.name

-- `TakesLine`, but of the line that is looked at, after a text
abbrev pub TakesNext : {Y : Type 0} → List ℕ → Option Meaning → Explanation → Explanation → String Y → String Y → Type 0
TakesNext line meaning e f old new = TakesLine e.line line meaning e f (string_bytes old) (string_bytes new)
