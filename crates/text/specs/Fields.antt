-- The fields of a line.
use Rattle.std.specs.Prelude.{ℕ, Bool, not, List, length, Option, Some, None, nat_lt, ◌==◌, if◌then◌else◌}
use Rattle.std.specs.List.{list_all, position_or_len, before_first, after_first}

-- a space
abbrev pub is_space : ℕ → Bool
is_space b = b == 32

abbrev pub has_no_space : List ℕ → Bool
has_no_space text = list_all (λ b. not (is_space b)) text

-- what stands before the first byte of this kind, and what stands behind it
abbrev pub cut_at : ℕ → List ℕ → Option (List ℕ × List ℕ)
cut_at wanted text =
    if nat_lt (position_or_len (λ b. b == wanted) text) (length text)
    then Some (before_first (λ b. b == wanted) text, after_first (λ b. b == wanted) text)
    else None

-- what stands before the first space, and what stands behind it
abbrev pub split_at_space : List ℕ → Option (List ℕ × List ℕ)
split_at_space text =
    if nat_lt (position_or_len is_space text) (length text)
    then Some (before_first is_space text, after_first is_space text)
    else None
