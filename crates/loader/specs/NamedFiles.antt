-- The files that a manifest names.
use Rattle.maps.specs.declared.shapes.MapLimits.{MapLimits}
use Rattle.std.specs.Prelude.{◌≡◌, ◌⊎◌, ℕ, true, List, ◌∷◌, ◌++◌, Option, Some, None, codes}
use Rattle.std.specs.List.{All, Any, Contains, after_last, filter_map}
use Rattle.text.specs.Fields.{is_space, has_no_space}
use Rattle.text.specs.Lines.{lines_of}
use Rattle.text.specs.Words.{◌>>=◌}
use Rattle.loader.specs.declared.grammar.FirstWord.{FirstWord}
use Rattle.loader.specs.declared.grammar.FirstWord.TheVariants as words
use Rattle.loader.specs.Grammar.{words_of}
use Rattle.loader.specs.ProgramFiles.{Files, file_named}
use Rattle.loader.specs.Loading.{loaded_within}

-- what stands behind the last space
abbrev pub last_word : List ℕ → List ℕ
last_word text = after_last is_space text

abbrev pub file_behind : FirstWord → List ℕ → Option (List ℕ)
file_behind words.Program rest = Some (last_word rest)
file_behind words.Map rest = None
file_behind words.Other rest = None

-- the last word of a line of a program
abbrev pub file_field : List ℕ → Option (List ℕ)
file_field line = do
  w ← words_of line
  file_behind w.0 w.1

-- the files that a manifest names, in order
unfoldable pub named_in : List ℕ → List (List ℕ)
named_in text = filter_map file_field (lines_of text)

-- ---- what the names are

-- two sets of files have the same text under each name that is listed
abbrev pub AreAlike : List (List ℕ) → Files → Files → Type 0
AreAlike names files others = All (λ name. file_named files name ≡ file_named others name) names

-- the loading asks for the files that are listed alone: what else is handed in changes nothing
abbrev pub NamesAreFiles : Type 0
NamesAreFiles = (l : MapLimits) (text : List ℕ) (files others : Files) → AreAlike (named_in text) files others → loaded_within l text files ≡ loaded_within l text others

-- the line begins with the word program, and this is its last word
pub record IsProgramLine (name line : List ℕ) : Type 0 where
  pub rest : List ℕ
  pub whole : line ≡ codes "program " ++ rest
  pub last : (rest ≡ name) ⊎ ((before : List ℕ) × (rest ≡ before ++ 32 ∷ name))
  pub word : has_no_space name ≡ true

-- no other file is listed
abbrev pub NoOtherFile : Type 0
NoOtherFile = (text name : List ℕ) → Contains (named_in text) name → Any (IsProgramLine name) (lines_of text)
