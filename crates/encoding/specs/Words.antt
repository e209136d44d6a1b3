-- The words of a line, which spaces part.
use Rattle.std.specs.Prelude.{ℕ, Bool, false, not, ◌&&◌, ◌==◌, List, [], ◌∷◌, if◌then◌else◌}
use Rattle.std.specs.List.{onto_first}

-- whether a quotation is open behind this byte
abbrev pub is_open : Bool → ℕ → Bool
is_open before c = if c == 34 then not before else before

-- a space that stands in no quotation
abbrev pub ends_word : Bool → ℕ → Bool
ends_word before c = c == 32 && not before

-- each word ends at a space in no quotation, the last at the end
abbrev pub words_from : Bool → List ℕ → List (List ℕ)
words_from before [] = [] ∷ []
words_from before (c ∷ cs) = if ends_word before c then [] ∷ words_from false cs else onto_first c (words_from (is_open before c) cs)

abbrev pub words_of : List ℕ → List (List ℕ)
words_of text = words_from false text
