-- What a command has written, by its status, from the bytes that it reads: the parts that the laws of several commands share.
use Rattle.std.specs.Prelude.{◌≡◌, ◌⊎◌, ℕ, List, [], take, codes, Some, None, Err}
use Rattle.loader.specs.declared.refusals.LoadRefusal.{LoadRefusal}
use Rattle.loader.specs.Loading.{Outcome, loaded_within}
use Rattle.engine.specs.declared.replies.Status.{Status}
use Rattle.engine.specs.declared.replies.Status.TheVariants as statuses
use Rattle.engine.specs.Texts.{refusal_text}
use Rattle.engine.specs.Reading.{Given, files_in, first_stranger, limits_of}

-- what the manifest that there is to read is loaded as, with the files that it names
abbrev pub loads : Given → Outcome
loads g = loaded_within (limits_of g.sizes) g.manifest (files_in g)

-- all texts are UTF-8
abbrev pub AreTexts : Given → Type 0
AreTexts g = first_stranger g ≡ None

-- a text is not UTF-8, and one line says so
abbrev pub IsNotText : Given → List ℕ → Type 0
IsNotText g text = (stranger : List ℕ × List ℕ) × (first_stranger g ≡ Some stranger) × (text ≡ codes "not UTF-8\n")

-- all texts are UTF-8, and one line has the refusal of the manifest
abbrev pub IsManifestRefused : Given → List ℕ → Type 0
IsManifestRefused g text = AreTexts g × (refusal : LoadRefusal) × (loads g ≡ Err refusal) × (text ≡ refusal_text refusal)

-- the one line where memory ran out
abbrev pub IsNoMemoryText : List ℕ → Type 0
IsNoMemoryText text = text ≡ codes "no memory\n"

-- what was written, by the status, of a command whose texts are such where all is good, and such where it refuses
abbrev pub IsWritten : (List ℕ → Type 0) → (List ℕ → Type 0) → List ℕ → Status → Type 0
IsWritten IsGood IsRefused text statuses.Good = IsGood text
IsWritten IsGood IsRefused text statuses.Refused = IsRefused text
IsWritten IsGood IsRefused text statuses.NoMemory = IsNoMemoryText text
IsWritten IsGood IsRefused text statuses.CannotRead = text ≡ []
IsWritten IsGood IsRefused text statuses.CannotWrite =
    (whole : List ℕ) × (IsGood whole ⊎ (IsRefused whole ⊎ IsNoMemoryText whole)) × (n : ℕ) × (text ≡ take n whole)
IsWritten IsGood IsRefused text statuses.Differs = ⊥
