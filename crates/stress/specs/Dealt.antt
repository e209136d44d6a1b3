-- The calls of a script that each session makes: they go to the sessions in turn. And how many sessions share a thread.
use Rattle.std.specs.Prelude.{◌≡◌, ℕ, zero, suc, ◌-◌, ◌*◌, ◌<◌, List, [], ◌∷◌, ◌++◌, length, take, drop}

-- of calls that go to n sessions in turn, those of the session whose turn comes after `skip` others: from there on each n-th
abbrev pub dealt : {X : Type 0} → ℕ → ℕ → List X → List X
dealt n skip [] = []
dealt n zero (call ∷ calls) = call ∷ dealt n (n - 1) calls
dealt n (suc skip) (call ∷ calls) = dealt n skip calls

-- the calls of so many sessions, one after the other, from session k on
abbrev pub dealt_from : {X : Type 0} → ℕ → ℕ → ℕ → List X → List X
dealt_from n k zero calls = []
dealt_from n k (suc count) calls = dealt n k calls ++ dealt_from n (suc k) count calls

-- the calls of all n sessions
abbrev pub dealt_to : {X : Type 0} → ℕ → List X → List X
dealt_to n calls = dealt_from n 0 n calls

-- of what belongs to calls that are dealt to n sessions, one session's behind the other, what belongs to those of session k
abbrev pub share_of : {X Y : Type 0} → ℕ → ℕ → List X → List Y → List Y
share_of n k calls all = take (length (dealt n k calls)) (drop (length (dealt_from n 0 k calls)) all)

-- teams of so many sessions make up so many slots
abbrev pub MakesTeams : (slots size : ℕ) → Type 0
MakesTeams slots size = (0 < size) × ((parts : ℕ) × (slots ≡ parts * size))
