-- The numbers of programs by their names. Clauses of private functions and an invariant alone cite this.
use Rattle.std.specs.Prelude.{◌≡◌, ℕ, List, Some, String, bytes_eq, if◌then◌else◌}
use Rattle.std.specs.List.{position_from}
use Rattle.std.specs.BTreeMap.{BTreeMap, get_by_text}
use Rattle.loader.specs.CatalogueView.{Entry, number_named}

-- the map has for each name the number of the first program of that name
abbrev pub IsNumbering : {Y : Type 0} → BTreeMap (String Y) ℕ → List Entry → Type 0
IsNumbering numbers programs = (name : List ℕ) → get_by_text numbers name ≡ number_named programs name

-- `IsNumbering`, but the programs begin with number k
abbrev pub IsNumberingFrom : {Y : Type 0} → ℕ → BTreeMap (String Y) ℕ → List Entry → Type 0
IsNumberingFrom k numbers programs = (name : List ℕ) → get_by_text numbers name ≡ position_from (λ e. bytes_eq e.name name) k programs

-- the name has this number, and every other what it had
abbrev pub IsNumbered : {Y : Type 0} → List ℕ → ℕ → BTreeMap (String Y) ℕ → BTreeMap (String Y) ℕ → Type 0
IsNumbered name k old new = (q : List ℕ) → get_by_text new q ≡ (if bytes_eq name q then Some k else get_by_text old q)
