-- What the values of a line say.
use Rattle.std.specs.Prelude.{ℕ, ◌-◌, ◌*◌, ◌^◌, Bool, not, ◌&&◌, ◌||◌, ◌==◌, nat_lt, ℤ, pos, negsuc, neg_ℤ, int_le, List, length, take, drop, slice_index, codes, Option, Some, None, option_map, if◌then◌else◌}
use Rattle.std.specs.List.{list_all}
use Rattle.std.specs.Int.{w64, cast_unsigned}
use Rattle.std.specs.Char.{is_digit}
use Rattle.std.specs.Str.{bytes_eq}
use Rattle.std.specs.Str.Parse.{digits_value}
use Rattle.byteorder.specs.Endian.{little_bytes}
use Rattle.hex.specs.Hex.{decode_of}
use Rattle.text.specs.Digits.{good}
use Rattle.text.specs.Words.{◌>>=◌}
use Rattle.encoding.specs.declared.kinds.Kind.{Kind}
use Rattle.encoding.specs.declared.kinds.Kind.TheVariants.{U8, U16, U32, U64, S8, S16, S32, S64, Str, Hex}

-- the kind of this name
unfoldable pub kind_named : List ℕ → Option Kind
kind_named name =
    if bytes_eq name (codes "u8") then Some U8
    else if bytes_eq name (codes "u16") then Some U16
    else if bytes_eq name (codes "u32") then Some U32
    else if bytes_eq name (codes "u64") then Some U64
    else if bytes_eq name (codes "s8") then Some S8
    else if bytes_eq name (codes "s16") then Some S16
    else if bytes_eq name (codes "s32") then Some S32
    else if bytes_eq name (codes "s64") then Some S64
    else if bytes_eq name (codes "str") then Some Str
    else if bytes_eq name (codes "hex") then Some Hex
    else None

-- and its name
abbrev pub kind_name : Kind → List ℕ
kind_name U8 = codes "u8"
kind_name U16 = codes "u16"
kind_name U32 = codes "u32"
kind_name U64 = codes "u64"
kind_name S8 = codes "s8"
kind_name S16 = codes "s16"
kind_name S32 = codes "s32"
kind_name S64 = codes "s64"
kind_name Str = codes "str"
kind_name Hex = codes "hex"

-- ---- numbers

abbrev pub are_digits : ℕ → List ℕ → Bool
are_digits radix digits = list_all (λ c. is_digit c radix) digits

-- the number of these digits, if it is below 2^64
unfoldable pub magnitude_of : ℕ → List ℕ → Option ℕ
magnitude_of radix digits =
    if nat_lt 0 (length digits) && are_digits radix digits && nat_lt (digits_value radix digits) (2 ^ 64)
    then Some (digits_value radix digits)
    else None

-- a number without a sign: decimal, or 0x and hex digits
unfoldable pub unsigned_of : List ℕ → Option ℕ
unsigned_of field =
    if slice_index field 0 == 48 && slice_index field 1 == 120 then magnitude_of 16 (drop 2 field) else magnitude_of 10 field

-- a number, with - before it where it is negative
unfoldable pub number_of : List ℕ → Option ℤ
number_of field =
    if slice_index field 0 == 45 then option_map (λ n. neg_ℤ (pos n)) (unsigned_of (drop 1 field)) else option_map pos (unsigned_of field)

-- a negative number stands for its 64 bits in two's complement
abbrev pub bits_of : ℤ → ℕ
bits_of (pos n) = n
bits_of (negsuc n) = cast_unsigned w64 (negsuc n)

-- the lowest n bytes of a number, the lowest first
abbrev pub number_bytes : ℕ → ℤ → List ℕ
number_bytes n z = little_bytes n (bits_of z)

-- a number within these, both included, as n bytes
unfoldable pub number_within : ℕ → ℤ → ℤ → List ℕ → Option (List ℕ)
number_within n low high field = do
  z ← number_of field
  if int_le low z && int_le z high then Some (number_bytes n z) else None

-- a number without a sign, and one with a sign, that n bytes hold
abbrev pub unsigned_bytes : ℕ → List ℕ → Option (List ℕ)
unsigned_bytes n field = number_within n (pos 0) (pos (2 ^ (8 * n) - 1)) field

abbrev pub signed_bytes : ℕ → List ℕ → Option (List ℕ)
signed_bytes n field = number_within n (neg_ℤ (pos (2 ^ (8 * n - 1)))) (pos (2 ^ (8 * n - 1) - 1)) field

-- ---- texts

-- what stands between the first byte and the last
abbrev pub inside : List ℕ → List ℕ
inside field = take (length field - 1 - 1) (drop 1 field)

-- no byte is a quotation mark
abbrev pub has_no_mark : List ℕ → Bool
has_no_mark text = list_all (λ c. not (c == 34)) text

-- a text between quotation marks, which has none itself
unfoldable pub quoted : List ℕ → Option (List ℕ)
quoted field =
    if nat_lt (length field) 2 || not (slice_index field 0 == 34) || not (slice_index field (length field - 1) == 34) || not (has_no_mark (inside field))
    then None
    else Some (inside field)

-- ---- values

-- the bytes that a field spells as this kind
unfoldable pub spelled : Kind → List ℕ → Option (List ℕ)
spelled U8 field = unsigned_bytes 1 field
spelled U16 field = unsigned_bytes 2 field
spelled U32 field = unsigned_bytes 4 field
spelled U64 field = unsigned_bytes 8 field
spelled S8 field = signed_bytes 1 field
spelled S16 field = signed_bytes 2 field
spelled S32 field = signed_bytes 4 field
spelled S64 field = signed_bytes 8 field
spelled Str field = quoted field
spelled Hex field = good (decode_of field)
