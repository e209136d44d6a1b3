-- What `check` writes, from the bytes that it reads to its lines.
use Rattle.std.specs.Prelude.{◌≡◌, ◌⊎◌, ℕ, List, ◌++◌, Some, Ok}
use Rattle.std.specs.List.{flat_map}
use Rattle.loader.specs.CatalogueView.{CatalogueView}
use Rattle.engine.specs.declared.replies.Status.{Status}
use Rattle.engine.specs.Texts.{program_line}
use Rattle.engine.specs.Reading.{Given}
use Rattle.engine.specs.Report.{answer_of}
use Rattle.engine.specs.Engine.{ReportsRead}
use Rattle.engine.specs.Written.{AreTexts, IsManifestRefused, IsNotText, IsWritten, loads}
use Rattle.console.specs.CheckAnswer.{check_answer}

-- all texts are UTF-8, the manifest is good, and each of its programs has its line `NAME ok SLOTS INSTRUCTIONS`
abbrev pub IsGoodText : Given → List ℕ → Type 0
IsGoodText g text = AreTexts g × (c : CatalogueView) × (loads g ≡ Ok c) × (text ≡ flat_map program_line c.programs)

-- a text is not UTF-8; or all are, and the line of the manifest's refusal is all that there is
abbrev pub IsRefusedText : Given → List ℕ → Type 0
IsRefusedText g text = IsNotText g text ⊎ IsManifestRefused g text

-- whatever there is to read, `check` adds such a text to what a writer held
abbrev pub CheckWrites : Type 0
CheckWrites =
    (g : Given) (old new : List ℕ) (status : Status)
    → ReportsRead answer_of (λ t r. answer_of r ≡ check_answer t) Some old new status g
    → (text : List ℕ) × (new ≡ old ++ text) × IsWritten (IsGoodText g) (IsRefusedText g) text status
