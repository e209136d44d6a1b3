-- What a whole manifest offers, and where it fails first.
use Rattle.std.specs.Prelude.{◌≡◌, ◌↔◌, ◌⊎◌, ℕ, ◌<◌, ◌≤◌, Bool, true, false, List, [], ◌∷◌, ◌++◌, length, map, None, Some, Ok, Err, filter, bytes_eq}
use Rattle.std.specs.List.{IsDistinct, AllZip}
use Rattle.loader.specs.declared.refusals.LoadFault.TheVariants as faults
use Rattle.loader.specs.declared.refusals.LoadRefusal.{LoadRefusal}
use Rattle.text.specs.Lines.{lines_of, next_line}
use Rattle.loader.specs.Grammar.{ProgramLine, Meaning, Comment, Map, Program, line_meaning}
use Rattle.loader.specs.declared.loading.TheConstants.{MAX_PROGRAMS}
use Rattle.text.specs.Digits.{spaced_bytes}
use Rattle.insn.specs.Refusal.{Decodes}
use Rattle.maps.specs.declared.shapes.Shape.{Shape}
use Rattle.maps.specs.declared.shapes.MapLimits.{MapLimits}
use Rattle.maps.specs.Shapes.{AreLimits}
use Rattle.verifier.specs.Signature.{signature}
use Rattle.verifier.specs.Typing.{IsTypable}
use Rattle.verifier.specs.Accepted.{checked}
use Rattle.loader.specs.CatalogueView.{Entry, CatalogueView, names_of}
use Rattle.loader.specs.ProgramFiles.{Files, file_named}
use Rattle.loader.specs.Loading.{are_few, after_line, loaded_within}

-- neither a comment nor an empty line
abbrev pub says_something : Meaning → Bool
says_something Comment = false
says_something m = true

-- a file of this name was handed in, and its text, without blanks, is the hexadecimal digits of these bytes
pub record IsFileOf (files : Files) (name bytes : List ℕ) : Type 0 where
  pub text : List ℕ
  pub file : file_named files name ≡ Some text
  pub digits : spaced_bytes text ≡ Some bytes

-- the bytes of the line's file spell the entry's program, which is typable for these maps and the line's argument length and mode
pub record IsEntryFor (files : Files) (shapes : List Shape) (line : ProgramLine) (e : Entry) : Type 0 where
  pub name : e.name ≡ line.name
  pub bytes : List ℕ
  pub file : IsFileOf files line.file bytes
  pub spelled : Decodes bytes e.checked.program
  pub checked_for : e.checked ≡ checked e.checked.program shapes line.arg_len line.mode
  pub typable : IsTypable e.checked.program (signature shapes line.arg_len line.mode)

-- these lines are the catalogue's maps and then its programs, beside comments and empty lines; it has no places, and opens on a new state
pub record Offers (l : MapLimits) (files : Files) (lines : List (List ℕ)) (c : CatalogueView) : Type 0 where
  pub meanings : List Meaning
  pub each : map (line_meaning l) lines ≡ map Some meanings
  pub programs : List ProgramLine
  pub in_order : filter says_something meanings ≡ map Map c.shapes ++ map Program programs
  pub checked : AllZip (IsEntryFor files c.shapes) programs c.programs
  pub some_map : 0 < length programs → 0 < length c.shapes
  pub few_maps : are_few l c.shapes ≡ true
  pub distinct : IsDistinct bytes_eq (names_of c.programs)
  pub few_programs : length c.programs ≤ MAX_PROGRAMS
  pub no_places : c.places ≡ 0
  pub no_long : c.long ≡ 0
  pub no_opening : c.opening ≡ None

-- a manifest offers a catalogue of at least one map
abbrev pub IsOffered : MapLimits → List ℕ → Files → CatalogueView → Type 0
IsOffered l text files c = Offers l files (lines_of text) c × (0 < length c.shapes)

-- the lines before this one are good, and this one is not, for this reason
pub record IsFirstBad (l : MapLimits) (files : Files) (lines : List (List ℕ)) (e : LoadRefusal) : Type 0 where
  pub before : List (List ℕ)
  pub line : List ℕ
  pub rest : List (List ℕ)
  pub split : lines ≡ before ++ line ∷ rest
  pub so_far : CatalogueView
  pub good : Offers l files before so_far
  pub bad : after_line l files so_far line ≡ Err e.why
  pub number : e.line ≡ next_line (length before)

-- all lines are good, and none is a map
pub record HasNoMap (l : MapLimits) (files : Files) (lines : List (List ℕ)) (e : LoadRefusal) : Type 0 where
  pub so_far : CatalogueView
  pub good : Offers l files lines so_far
  pub none : so_far.shapes ≡ []
  pub why : e.why ≡ faults.BadLine
  pub number : e.line ≡ next_line (length lines)

-- the manifest is refused at this line for this reason
abbrev pub IsRefused : MapLimits → List ℕ → Files → LoadRefusal → Type 0
IsRefused l text files e = IsFirstBad l files (lines_of text) e ⊎ HasNoMap l files (lines_of text) e

-- what is loaded is what the manifest offers, and nothing else
abbrev pub LoadedIsOffered : Type 0
LoadedIsOffered = (l : MapLimits) (text : List ℕ) (files : Files) (c : CatalogueView) → AreLimits l → (loaded_within l text files ≡ Ok c) ↔ IsOffered l text files c

-- what is refused is refused at the first bad line
abbrev pub RefusedIsFirstBad : Type 0
RefusedIsFirstBad = (l : MapLimits) (text : List ℕ) (files : Files) (e : LoadRefusal) → AreLimits l → (loaded_within l text files ≡ Err e) ↔ IsRefused l text files e
