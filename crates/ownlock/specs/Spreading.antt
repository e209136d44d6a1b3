-- How values stand in the slots of a table: each in the slot of its place, with nothing between.
use Rattle.std.specs.Prelude.{◌≡◌, ℕ, ◌+◌, ◌<◌, Bool, false, List, [], ◌∷◌, ◌++◌, length, replicate, slice_index_or, Option, None}
use Rattle.ownlock.specs.Words.{slot_of}
use Rattle.ownlock.specs.Seats.{At}

-- seven slots that hold nothing
abbrev pub gap : {V : Type 0} → List (Option V)
gap = replicate 7 None

-- the values, with such slots behind each
abbrev pub spread : {V : Type 0} → List (Option V) → List (Option V)
spread [] = []
spread (x ∷ xs) = x ∷ (gap ++ spread xs)

-- the slots between those of so many places hold x
abbrev pub HasGaps : {A : Type 0} → A → ℕ → List A → Type 0
HasGaps x places slots = (p a : ℕ) → p < places → 0 < a → a < 8 → At (slot_of p + a) x slots

-- the first n slots were emptied
abbrev pub IsEmptied : List Bool → ℕ → Type 0
IsEmptied filled n = (k : ℕ) → k < n → slice_index_or filled k false ≡ false

-- each value is that of the slot of its place
abbrev pub StandsIn : {A : Type 0} → List A → List A → Type 0
StandsIn {A} values slots = (p : ℕ) (o : A) → p < length values → At (slot_of p) o slots → At p o values
