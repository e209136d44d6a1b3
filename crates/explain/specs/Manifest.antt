-- What is told of a manifest, line by line, by limits of maps.
use Rattle.std.specs.Prelude.{◌≡◌, ℕ, Bool, true, false, not, ◌&&◌, ◌||◌, nat_eq, nat_le, nat_lt, List, [], ◌∷◌, ◌++◌, length, codes, decimal, Option, Some, None, is_none, is_some, Result, MatchOption, MatchResult, if◌then◌else◌, bytes_eq}
use Rattle.std.specs.Option.{option_or}
use Rattle.std.specs.List.{concat, list_any, starts_with}
use Rattle.text.specs.Lines.{lines_of, next_line}
use Rattle.insn.specs.declared.instruction.Form.{Form}
use Rattle.insn.specs.declared.decoding.DecodeRefusal.{DecodeRefusal}
use Rattle.insn.specs.Refusal.{fault_number as slot_fault_number}
use Rattle.maps.specs.declared.shapes.Shape.{Shape}
use Rattle.maps.specs.declared.shapes.MapLimits.{MapLimits}
use Rattle.loader.specs.declared.refusals.LoadFault.{LoadFault}
use Rattle.loader.specs.declared.refusals.LoadFault.TheVariants.{BadLine, BadHex, Decode, TooMany}
use Rattle.loader.specs.Grammar.{ProgramLine, Meaning, Comment, Map, Program, line_meaning}
use Rattle.loader.specs.ProgramFiles.{◌>>=◌, Files, file_named, or_bad_line, bytes_of_hex, instructions_of}
use Rattle.loader.specs.Loading.{are_few}
use Rattle.loader.specs.Refusal.{fault_number}
use Rattle.explain.specs.Listing.{TellsOf}
use Rattle.explain.specs.Told.{BeginsWith, BeginsIf}

-- ---- which lines are asked for

-- the line is asked for: each is, or where a name is given that of a program of this name
abbrev pub is_asked : Option (List ℕ) → Option Meaning → Bool
is_asked None meaning = true
is_asked (Some name) (Some (Program p)) = bytes_eq p.name name
is_asked (Some name) meaning = false

-- a line of a manifest is that of a program of this name
abbrev pub has_program : MapLimits → List ℕ → List ℕ → Bool
has_program limits name text = list_any (λ l. is_asked (Some name) (line_meaning limits l)) (lines_of text)

-- a line is asked for, where a name is given
abbrev pub has_asked : MapLimits → Option (List ℕ) → List ℕ → Bool
has_asked limits None text = true
has_asked limits (Some name) text = has_program limits name text

-- the text where no line is
abbrev pub no_program : List ℕ → List ℕ
no_program name = concat (codes "\nno program " ∷ name ∷ codes "\n" ∷ [])

-- ---- what stands above a line

-- the maps that a store may have, the line of the first map that is bad, and the names of programs
pub record Above : Type 0 where
  pub shapes : List Shape
  pub bad_map : Option ℕ
  pub names : List (List ℕ)

abbrev pub nothing_above : Above
nothing_above = record { shapes = []; bad_map = None; names = [] }

-- a map stands above, good or bad
abbrev pub has_map : Above → Bool
has_map a = nat_lt 0 (length a.shapes) || is_some a.bad_map

-- a program above has this name
abbrev pub has_name : Above → List ℕ → Bool
has_name a name = list_any (λ n. bytes_eq n name) a.names

-- there are 256 programs above, as many as a manifest may have
abbrev pub is_full : Above → Bool
is_full a = nat_le 256 (length a.names)

-- what is wrong with one more map: C1 after a program, C5 if the maps are then too many or too large
abbrev pub map_fault : MapLimits → Above → Shape → Option LoadFault
map_fault limits a shape =
    if nat_lt 0 (length a.names) then Some BadLine
    else if are_few limits (a.shapes ++ shape ∷ []) then None
    else Some TooMany

-- line n is that of a bad map, if it is that of a map
abbrev pub with_bad_map : Bool → ℕ → Above → Above
with_bad_map is_map n a = record a { bad_map = option_or a.bad_map (if is_map then Some n else None) }

-- the map of line n is one of the store's, or it is bad
abbrev pub with_shape : ℕ → Above → Shape → Option LoadFault → Above
with_shape n a shape None = record a { shapes = a.shapes ++ shape ∷ [] }
with_shape n a shape (Some why) = with_bad_map true n a

-- line n stands above too: a bad line that begins with `map` is that of a map, and the name of a refused program is taken
abbrev pub with_line : MapLimits → ℕ → List ℕ → Option Meaning → Above → Above
with_line limits n line None a = with_bad_map (starts_with nat_eq line (codes "map")) n a
with_line limits n line (Some Comment) a = a
with_line limits n line (Some (Map shape)) a = with_shape n a shape (map_fault limits a shape)
with_line limits n line (Some (Program p)) a = record a { names = a.names ++ p.name ∷ [] }

-- ---- how what is told of a refused line begins

-- behind an empty line the number of the line and that of the rule
abbrev pub refused_by : ℕ → ℕ → List ℕ
refused_by n rule = concat (codes "\nline " ∷ decimal n ∷ codes ": C" ∷ decimal rule ∷ [])

-- line N: Cn
abbrev pub line_fault : ℕ → LoadFault → List ℕ
line_fault n why = refused_by n (fault_number why) ++ codes "\n"

-- behind an empty line what a text goes by that is not UTF-8
abbrev pub stranger_text : List ℕ → List ℕ
stranger_text name = concat (codes "\n" ∷ name ∷ codes ": not UTF-8\n" ∷ [])

-- Dn at slot S.
abbrev pub slot_fault : DecodeRefusal → List ℕ
slot_fault e = concat (codes "D" ∷ decimal (slot_fault_number e.why) ∷ codes " at slot " ∷ decimal e.slot ∷ codes "." ∷ [])

-- , program NAME, FILE
abbrev pub named_words : ProgramLine → List ℕ
named_words p = concat (codes ", program " ∷ p.name ∷ codes ", " ∷ p.file ∷ codes "\n      " ∷ [])

-- the fault of the file of a program: line N: Cn, program NAME, FILE, and Dn at slot S where its bytes are no program
abbrev pub file_fault : ℕ → ProgramLine → LoadFault → List ℕ
file_fault n p BadHex = refused_by n (fault_number BadHex) ++ named_words p
file_fault n p (Decode e) = refused_by n (fault_number (Decode e)) ++ (named_words p ++ slot_fault e)
file_fault n p why = line_fault n why

-- ---- what is told of a program

-- the program that a text of hex digits spells, or what is wrong with the text
abbrev pub program_of_text : List ℕ → Result (List Form) LoadFault
program_of_text text = do
  bytes ← bytes_of_hex text
  instructions_of bytes

-- the program that a file spells, or what is wrong with the file
abbrev pub program_in : Files → List ℕ → Result (List Form) LoadFault
program_in files name = do
  text ← or_bad_line (file_named files name)
  program_of_text text

abbrev pub not_judged : ℕ → ProgramLine → ℕ → List ℕ
not_judged n p bad = concat (codes "\nline " ∷ decimal n ∷ codes ": " ∷ p.name ∷ codes " isn't judged, since the map of line " ∷ decimal bad ∷ codes " is bad\n" ∷ [])

-- what is told of a program, or that it isn't judged, since a map is bad
abbrev pub IsJudged : Option ℕ → List Shape → ℕ → ProgramLine → List Form → List ℕ → Type 0
IsJudged None shapes n p program text = (told : List ℕ) × (text ≡ codes "\n" ++ told) × TellsOf n p shapes program told
IsJudged (Some bad) shapes n p program text = text ≡ not_judged n p bad

-- what is told of what was read: of the program, or what is wrong with its file
abbrev pub TellsOfRead : ℕ → Above → ProgramLine → Result (List Form) LoadFault → List ℕ → Type 0
TellsOfRead n a p read text = MatchResult read (λ program. IsJudged a.bad_map a.shapes n p program text) (λ why. BeginsWith (file_fault n p why) text)

-- what is told of the file of a program
abbrev pub TellsOfFile : Files → ℕ → Above → ProgramLine → List ℕ → Type 0
TellsOfFile files n a p text = TellsOfRead n a p (program_in files p.file) text

-- `TellsOfFile` if a map is above, and nothing if none is
abbrev pub TellsWhereMap : Bool → Files → ℕ → Above → ProgramLine → List ℕ → Type 0
TellsWhereMap true files n a p text = TellsOfFile files n a p text
TellsWhereMap false files n a p text = text ≡ []

-- a program stands before any map, or its name is taken
abbrev pub is_misplaced : Above → List ℕ → Bool
is_misplaced a name = not (has_map a) || has_name a name

-- C1 before any map or where the name is taken, C5 where it is the 257th program, and what is told of its file
pub record TellsOfProgram (files : Files) (n : ℕ) (a : Above) (p : ProgramLine) (text : List ℕ) : Type 0 where
  pub misplaced : List ℕ
  pub beyond : List ℕ
  pub own : List ℕ
  pub place : BeginsIf (is_misplaced a p.name) (line_fault n BadLine) misplaced
  pub number : BeginsIf (is_full a) (line_fault n TooMany) beyond
  pub file : TellsWhereMap (has_map a) files n a p own
  pub whole : text ≡ misplaced ++ (beyond ++ own)

-- `TellsOfProgram` if the program is asked for, and nothing if it isn't
abbrev pub TellsIfAsked : Bool → Files → ℕ → Above → ProgramLine → List ℕ → Type 0
TellsIfAsked true files n a p text = TellsOfProgram files n a p text
TellsIfAsked false files n a p text = text ≡ []

-- ---- what is told of lines

-- of a line that is bad by itself its fault; of a map its own, if it has one; nothing of another line that is good or isn't asked for
abbrev pub TellsOfLine : MapLimits → Files → Option (List ℕ) → ℕ → Above → Option Meaning → List ℕ → Type 0
TellsOfLine limits files name n a None text = BeginsIf (is_none name) (line_fault n BadLine) text
TellsOfLine limits files name n a (Some Comment) text = text ≡ []
TellsOfLine limits files name n a (Some (Map shape)) text =
    MatchOption (map_fault limits a shape) (text ≡ []) (λ why. BeginsIf (is_none name) (line_fault n why) text)
TellsOfLine limits files name n a (Some (Program p)) text = TellsIfAsked (is_asked name (Some (Program p))) files n a p text

-- of one line after another, from line n on; C1 behind the last where there is no map and no name is given
abbrev pub TellsOfLines : MapLimits → Files → Option (List ℕ) → ℕ → Above → List (List ℕ) → List ℕ → Type 0
TellsOfLines limits files name n a [] text = BeginsIf (is_none name && not (has_map a)) (line_fault n BadLine) text
TellsOfLines limits files name n a (l ∷ ls) text =
    (told : List ℕ)
    × (rest : List ℕ)
    × (text ≡ told ++ rest)
    × TellsOfLine limits files name n a (line_meaning limits l) told
    × TellsOfLines limits files name (next_line n) (with_line limits n l (line_meaning limits l) a) ls rest

-- of all lines of a manifest
abbrev pub TellsOfAll : MapLimits → Files → Option (List ℕ) → List ℕ → List ℕ → Type 0
TellsOfAll limits files name manifest text = TellsOfLines limits files name 1 nothing_above (lines_of manifest) text

-- of a manifest, of which a line is asked for
abbrev pub TellsOfManifest : MapLimits → Files → Option (List ℕ) → List ℕ → List ℕ → Type 0
TellsOfManifest limits files name manifest text = has_asked limits name manifest ≡ true → TellsOfAll limits files name manifest text
