-- What `run --signed` answers and writes: what `run` does, and beside each reply that is negative as a signed number, that number.
use Rattle.std.specs.Prelude.{ℕ, ◌-◌, ◌^◌, List, [], ◌++◌, codes, decimal, Option, None, nat_lt, bytes_eq, if◌then◌else◌}
use Rattle.std.specs.List.{flat_map}
use Rattle.std.specs.Option.{option_map_or}
use Rattle.std.specs.Str.{is_utf8}
use Rattle.text.specs.Fields.{split_at_space}
use Rattle.text.specs.Lines.{lines_of}
use Rattle.text.specs.Words.{◌>>=◌, number_of}

-- what stands before the first space, or all
abbrev pub first_word : List ℕ → List ℕ
first_word text = option_map_or (λ cut. cut.0) (split_at_space text) text

-- the reply that a line of `run` tells: its third word is `reply`, and the fourth is a number
unfoldable pub reply_in : List ℕ → Option ℕ
reply_in line = do
  call ← split_at_space line
  index ← split_at_space call.1
  word ← split_at_space index.1
  if bytes_eq word.0 (codes "reply") then number_of (first_word word.1) else None

-- of 64 bits the number n of 2^63 or more is n - 2^64 with a sign
abbrev pub if_negative : ℕ → List ℕ
if_negative n = if nat_lt n (2 ^ 63) then [] else codes " = -" ++ decimal (2 ^ 64 - n)

-- a line, and the negative reply beside it
abbrev pub signed_line : List ℕ → List ℕ
signed_line line = line ++ (option_map_or if_negative (reply_in line) [] ++ codes "\n")

-- a text line by line; one that isn't UTF-8 stays as it is
unfoldable pub signed_text : List ℕ → List ℕ
signed_text text = if is_utf8 text then flat_map signed_line (lines_of text) else text
