-- What `explain --json` answers, as a function of the manifest and of the files that were read.
use Rattle.std.specs.Prelude.{◌≡◌, ℕ, List, ◌++◌, Option, Some, None}
use Rattle.std.specs.List.{flat_map}
use Rattle.findings.specs.Objects.{stranger_line, IsFoundIn}
use Rattle.engine.specs.Answer.{Answer}
use Rattle.engine.specs.Reading.{TextsRead, limits_of}
use Rattle.console.specs.CheckAnswer.{check_answer}

-- lines of texts that are not UTF-8, one at least; which texts is not said
pub record AreStrangers (text : List ℕ) : Type 0 where
  pub first : List ℕ
  pub others : List (List ℕ)
  pub whole : text ≡ stranger_line first ++ flat_map stranger_line others

-- a line for each of some texts that are not UTF-8 is added
abbrev pub AddsStrangers : List ℕ → List ℕ → Type 0
AddsStrangers old new = (names : List (List ℕ)) × (new ≡ old ++ flat_map stranger_line names)

-- what is found in what was read
abbrev pub IsFound : Option (List ℕ) → Option TextsRead → List ℕ → Type 0
IsFound name None text = AreStrangers text
IsFound name (Some t) text = IsFoundIn (limits_of t.sizes) t.files name t.manifest text

-- `explain --json`: what is found, with the verdict of `check`
pub record IsFindAnswer (name : Option (List ℕ)) (read : Option TextsRead) (a : Answer) : Type 0 where
  pub verdict : a.verdict ≡ (check_answer read).verdict
  pub found : IsFound name read a.text
