-- What `check --maps` answers, as a relation to the manifest and to the files that were read.
use Rattle.std.specs.Prelude.{◌≡◌, ◌↔◌, ℕ, zero, suc, nat_eq, List, [], ◌∷◌, ◌++◌, length, codes, decimal, Option, Some, None, Ok, Err, if◌then◌else◌}
use Rattle.std.specs.Int.{bit_at}
use Rattle.insn.specs.declared.instruction.Form.{Form}
use Rattle.insn.specs.Layout.{size}
use Rattle.maps.specs.declared.shapes.TheConstants.{MAX_MAPS}
use Rattle.machine.specs.Isolation.{NamesMap}
use Rattle.named_maps.specs.Naming.{IsIn}
use Rattle.loader.specs.CatalogueView.{Entry}
use Rattle.loader.specs.Loading.{Outcome}
use Rattle.loader.specs.Spelling.{mode_word}
use Rattle.engine.specs.declared.replies.Verdict.TheVariants as verdicts
use Rattle.engine.specs.Answer.{Answer, not_text, refusal_answer}
use Rattle.engine.specs.Reading.{TextsRead, loaded_by}

-- the maps to which a program has references are just these: bit m of the number stands for map m
abbrev pub NamesJust : ℕ → List Form → Type 0
NamesJust maps p = (m : ℕ) → IsIn maps m ↔ NamesMap p m

-- the number of map m behind a space, where it is one of these
abbrev pub field_of : ℕ → ℕ → List ℕ
field_of maps m = if nat_eq (bit_at maps m) 1 then codes " " ++ decimal m else []

-- the numbers of those below n, and of all
abbrev pub fields_below : ℕ → ℕ → List ℕ
fields_below zero maps = []
fields_below (suc n) maps = fields_below n maps ++ field_of maps n

unfoldable pub map_fields : ℕ → List ℕ
map_fields maps = fields_below MAX_MAPS maps

-- NAME ok SLOTS INSTRUCTIONS, and a space
abbrev pub counts_text : Entry → List ℕ
counts_text e = e.name ++ (codes " ok " ++ (decimal (size e.checked.program) ++ (codes " " ++ (decimal (length e.checked.program) ++ codes " "))))

-- `counts_text`, MODE, and the numbers of the maps
abbrev pub maps_line : Entry → ℕ → List ℕ
maps_line e maps = counts_text e ++ (mode_word e.checked.mode ++ (map_fields maps ++ codes "\n"))

-- the line of a program, with the maps that it names
abbrev pub IsMapsLine : Entry → List ℕ → Type 0
IsMapsLine e line = (maps : ℕ) × NamesJust maps e.checked.program × (line ≡ maps_line e maps)

-- a line for each
abbrev pub AreMapsLines : List Entry → List ℕ → Type 0
AreMapsLines [] text = text ≡ []
AreMapsLines (e ∷ es) text = (line : List ℕ) × (rest : List ℕ) × IsMapsLine e line × AreMapsLines es rest × (text ≡ line ++ rest)

-- by what the manifest was loaded as; a refused one has what `check` answers
abbrev pub IsMapsAnswer : Outcome → Answer → Type 0
IsMapsAnswer (Ok c) a = (a.verdict ≡ verdicts.Good) × AreMapsLines c.programs a.text
IsMapsAnswer (Err refusal) a = a ≡ refusal_answer refusal

-- `check --maps`
abbrev pub IsMapsChecked : Option TextsRead → Answer → Type 0
IsMapsChecked None a = a ≡ not_text
IsMapsChecked (Some t) a = IsMapsAnswer (loaded_by t) a

-- ---- clauses of private functions alone cite what follows

-- a program's line was added
abbrev pub AddsLineOf : Entry → List ℕ → List ℕ → Type 0
AddsLineOf e before after = (line : List ℕ) × IsMapsLine e line × (after ≡ before ++ line)

-- if there is one
abbrev pub AddsLineAt : Option Entry → List ℕ → List ℕ → Type 0
AddsLineAt None before after = after ≡ before
AddsLineAt (Some e) before after = AddsLineOf e before after
