-- Numbers and names.
use Rattle.std.specs.Prelude.{ℕ, ◌^◌, ◌≤◌, Bool, ◌&&◌, ◌||◌, not, List, length, Option, Some, None, nat_lt, nat_le, ◌==◌, if◌then◌else◌, slice_index}
use Rattle.std.specs.List.{list_all}
use Rattle.std.specs.Option.{option_and_then}
use Rattle.std.specs.Str.{all_ascii_digits}
use Rattle.std.specs.Str.Parse.{digits_value}
use Rattle.text.specs.declared.words.TheConstants.{NAME_BYTES}

-- the next step, where the one before gave something
infixl 10 ◌>>=◌
abbrev pub ◌>>=◌ : {A B : Type 0} → Option A → (A → Option B) → Option B
o >>= f = option_and_then f o

-- the first digit of a number is 0 only where it is the one digit
abbrev pub starts_plain : List ℕ → Bool
starts_plain text = nat_lt 0 (length text) && (length text == 1 || not (slice_index text 0 == 48))

-- a number in decimal, without leading zeros, below 2^64
unfoldable pub number_of : List ℕ → Option ℕ
number_of text =
    if starts_plain text && all_ascii_digits text && nat_lt (digits_value 10 text) (2 ^ 64)
    then Some (digits_value 10 text)
    else None

-- a number within its limits
unfoldable pub number_within : ℕ → ℕ → List ℕ → Option ℕ
number_within low high text = do
  n ← number_of text
  if nat_le low n && nat_le n high then Some n else None

-- n stands between these limits
abbrev pub IsFrom : ℕ → ℕ → ℕ → Type 0
IsFrom low high n = (low ≤ n) × (n ≤ high)

-- a to z
abbrev pub is_lower : ℕ → Bool
is_lower c = nat_le 97 c && nat_le c 122

-- a to z, 0 to 9, _ and -
abbrev pub is_name_byte : ℕ → Bool
is_name_byte c = is_lower c || (nat_le 48 c && nat_le c 57) || c == 95 || c == 45

-- a name: 1 to 32 of these, the first a letter
unfoldable pub is_name : List ℕ → Bool
is_name text = nat_lt 0 (length text) && nat_le (length text) NAME_BYTES && is_lower (slice_index text 0) && list_all is_name_byte text
