-- The helpers by their numbers (bpf-helpers(7)).
use Rattle.std.specs.Prelude.{◌≡◌, ℕ, ◌==◌, ℤ, pos, negsuc, List, [], ◌∷◌, Option, Some, None, find}
use Rattle.helpers.specs.declared.numbers.Helper.{Helper}
use Rattle.helpers.specs.declared.numbers.Helper.TheVariants.{Lookup, Update, Delete}

-- the number by which a program calls the helper
abbrev pub helper_number : Helper → ℕ
helper_number Lookup = 1
helper_number Update = 2
helper_number Delete = 3

-- all helpers
abbrev pub helpers : List Helper
helpers = Lookup ∷ Update ∷ Delete ∷ []

-- the helper of a number, if there is one
abbrev pub helper_of : ℤ → Option Helper
helper_of (pos n) = find (λ h. n == helper_number h) helpers
helper_of (negsuc n) = None

-- each helper is the one of its number
abbrev pub EachHasItsNumber : Type 0
EachHasItsNumber = (h : Helper) → helper_of (pos (helper_number h)) ≡ Some h
