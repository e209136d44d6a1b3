-- What operands say: registers, numbers, addresses and targets.
use Rattle.std.specs.Prelude.{ℕ, ◌-◌, ◌^◌, ◌≤◌, Bool, not, ◌&&◌, ◌||◌, ◌==◌, nat_lt, nat_le, ℤ, pos, neg_ℤ, int_le, List, length, take, drop, slice_index, codes, Result, Ok, Err, if◌then◌else◌}
use Rattle.std.specs.List.{list_all}
use Rattle.std.specs.Char.{is_digit}
use Rattle.std.specs.Str.{bytes_eq}
use Rattle.std.specs.Str.Parse.{digits_value}
use Rattle.asm.specs.declared.refusals.AsmFault.{AsmFault}
use Rattle.asm.specs.declared.refusals.AsmFault.TheVariants.{BadOperand}
use Rattle.asm.specs.declared.tokens.Stop.TheVariants.{Sign}
use Rattle.asm.specs.declared.operands.Written.{Written}
use Rattle.asm.specs.declared.operands.Written.TheVariants.{Reg, Number}
use Rattle.asm.specs.declared.operands.Address.{Address}
use Rattle.asm.specs.declared.operands.Target.{Target}
use Rattle.asm.specs.declared.operands.Target.TheVariants as code
use Rattle.asm.specs.Tokens.{◌>>=◌, result_map, before, rest_from}

-- r0 to r10
unfoldable pub register_of : List ℕ → Result ℕ AsmFault
register_of token =
    if bytes_eq token (codes "r10") then Ok 10
    else if length token == 2 && slice_index token 0 == 114 && nat_le 48 (slice_index token 1) && nat_le (slice_index token 1) 57 then Ok (slice_index token 1 - 48)
    else Err BadOperand

abbrev pub are_digits : ℕ → List ℕ → Bool
are_digits radix digits = list_all (λ c. is_digit c radix) digits

abbrev pub capped : ℕ → ℕ
capped n = if nat_lt n (2 ^ 127) then n else 2 ^ 127 - 1

-- the number of these digits; one too large for 127 bits, and so for every field, is the largest of these
unfoldable pub magnitude_of : ℕ → List ℕ → Result ℤ AsmFault
magnitude_of radix digits =
    if nat_lt 0 (length digits) && are_digits radix digits then Ok (pos (capped (digits_value radix digits))) else Err BadOperand

-- a number without a sign: decimal, or 0x and hex digits
unfoldable pub unsigned_of : List ℕ → Result ℤ AsmFault
unsigned_of token =
    if slice_index token 0 == 48 && slice_index token 1 == 120 then magnitude_of 16 (drop 2 token) else magnitude_of 10 token

-- a number, with - before it where it is negative
unfoldable pub number_of : List ℕ → Result ℤ AsmFault
number_of token = if slice_index token 0 == 45 then result_map neg_ℤ (unsigned_of (drop 1 token)) else unsigned_of token

-- a number behind a sign that has to be there
unfoldable pub signed_of : List ℕ → Result ℤ AsmFault
signed_of token =
    if slice_index token 0 == 43 then number_of (drop 1 token)
    else if slice_index token 0 == 45 then result_map neg_ℤ (number_of (drop 1 token))
    else Err BadOperand

abbrev pub register_or : Result ℕ AsmFault → Result ℤ AsmFault → Result Written AsmFault
register_or (Ok r) number = Ok (Reg r)
register_or (Err e) number = result_map Number number

-- a register or a number
unfoldable pub source_of : List ℕ → Result Written AsmFault
source_of token = register_or (register_of token) (number_of token)

-- [rN+off] or [rN-off]
unfoldable pub address_of : List ℕ → Result Address AsmFault
address_of token =
    if nat_lt (length token) 2 || not (slice_index token 0 == 91) || not (slice_index token (length token - 1) == 93) then Err BadOperand
    else do
      base ← register_of (before Sign (take (length token - 1 - 1) (drop 1 token)))
      off ← signed_of (rest_from Sign (take (length token - 1 - 1) (drop 1 token)))
      Ok (record { base = base; off = off })

abbrev pub is_decimal : ℕ → Bool
is_decimal c = nat_le 48 c && nat_le c 57

abbrev pub may_be_in_label : ℕ → Bool
may_be_in_label c = (nat_le 97 c && nat_le c 122) || is_decimal c || c == 95

-- the name of a label: 1 to 32 of a-z, 0-9, _, the first no digit
unfoldable pub is_label : List ℕ → Bool
is_label name =
    nat_lt 0 (length name) && nat_le (length name) 32 && not (is_decimal (slice_index name 0)) && list_all may_be_in_label name

-- where a jump goes: so many slots on, or to a label
pub data Goal : Type 0 where
  By : ℤ → Goal
  Label : List ℕ → Goal

abbrev pub shown_target : Target → Goal
shown_target (code.By d) = By d
shown_target (code.Label name) = Label name.now

-- +n or -n, in decimal, or a label
unfoldable pub target_of : List ℕ → Result Goal AsmFault
target_of token =
    if slice_index token 0 == 43 then result_map By (magnitude_of 10 (drop 1 token))
    else if slice_index token 0 == 45 then result_map (λ d. By (neg_ℤ d)) (magnitude_of 10 (drop 1 token))
    else if is_label token then Ok (Label token)
    else Err BadOperand

-- the number, if it lies within these, both included
abbrev pub within : ℤ → ℤ → AsmFault → ℤ → Result ℤ AsmFault
within low high why z = if int_le low z && int_le z high then Ok z else Err why

-- a register is one of the eleven
abbrev pub IsWritten : Written → Type 0
IsWritten (Reg r) = r ≤ 10
IsWritten (Number z) = Unit {0}
