-- With what a text begins and ends that is told, and where it stands.
use Rattle.std.specs.Prelude.{◌≡◌, ℕ, Bool, true, false, List, [], ◌++◌}

-- the text begins with these words
abbrev pub BeginsWith : List ℕ → List ℕ → Type 0
BeginsWith words told = (more : List ℕ) × (told ≡ words ++ more)

-- the text ends with these words
abbrev pub EndsWith : List ℕ → List ℕ → Type 0
EndsWith words told = (before : List ℕ) × (told ≡ before ++ words)

-- the text begins with these words if that is so, and else it is empty
abbrev pub BeginsIf : Bool → List ℕ → List ℕ → Type 0
BeginsIf true words told = BeginsWith words told
BeginsIf false words told = told ≡ []

-- a text that is so stands behind what stood there
abbrev pub Adds : (List ℕ → Type 0) → List ℕ → List ℕ → Type 0
Adds IsSo old new = (text : List ℕ) × (new ≡ old ++ text) × IsSo text
