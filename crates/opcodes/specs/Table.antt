-- Every opcode of the profile, and which fields its instructions have in use (RFC 9669, sections 4 and 5).
use Rattle.std.specs.Prelude.{codes, ℕ, Bool, ◌==◌, ℤ, pos, List, [], ◌∷◌, Option, Some, None, find, option_map}
use Rattle.std.specs.List.{list_any}
use Rattle.opcodes.specs.declared.Use.{Use}
use Rattle.opcodes.specs.declared.Use.TheVariants.{Unused, AnyValue, Signedness, Extension, Extension64, SwapBits, WideSource, OnlyZero}
use Rattle.opcodes.specs.declared.Uses.{Uses}

-- opcodes whose instructions have the same fields in use; a register field in use has any register
pub record Row : Type 0 where
  pub opcodes : List ℕ
  pub uses : Uses

abbrev pub row : List ℕ → Use → Use → Use → Use → Row
row opcodes dst src offset imm = record { opcodes = opcodes; uses = record { dst = dst; src = src; offset = offset; imm = imm } }

-- every opcode of the profile, and what may stand in dst, src, offset and imm
abbrev pub table : List Row
table =
    -- RFC 9669, section 4.1: ADD SUB MUL OR AND LSH RSH XOR MOV ARSH with an immediate, of 32 and of 64 bits; DIV and MOD, signed where the offset is 1
    row (0x04 ∷ 0x14 ∷ 0x24 ∷ 0x44 ∷ 0x54 ∷ 0x64 ∷ 0x74 ∷ 0xa4 ∷ 0xb4 ∷ 0xc4 ∷ []) AnyValue Unused Unused AnyValue
    ∷ row (0x07 ∷ 0x17 ∷ 0x27 ∷ 0x47 ∷ 0x57 ∷ 0x67 ∷ 0x77 ∷ 0xa7 ∷ 0xb7 ∷ 0xc7 ∷ []) AnyValue Unused Unused AnyValue
    ∷ row (0x34 ∷ 0x94 ∷ []) AnyValue Unused Signedness AnyValue
    ∷ row (0x37 ∷ 0x97 ∷ []) AnyValue Unused Signedness AnyValue
    -- RFC 9669, section 4.1: the same with a register; MOV apart, whose offset makes it MOVSX
    ∷ row (0x0c ∷ 0x1c ∷ 0x2c ∷ 0x4c ∷ 0x5c ∷ 0x6c ∷ 0x7c ∷ 0xac ∷ 0xcc ∷ []) AnyValue AnyValue Unused Unused
    ∷ row (0x0f ∷ 0x1f ∷ 0x2f ∷ 0x4f ∷ 0x5f ∷ 0x6f ∷ 0x7f ∷ 0xaf ∷ 0xcf ∷ []) AnyValue AnyValue Unused Unused
    ∷ row (0x3c ∷ 0x9c ∷ []) AnyValue AnyValue Signedness Unused
    ∷ row (0x3f ∷ 0x9f ∷ []) AnyValue AnyValue Signedness Unused
    ∷ row (0xbc ∷ []) AnyValue AnyValue Extension Unused
    ∷ row (0xbf ∷ []) AnyValue AnyValue Extension64 Unused
    -- RFC 9669, section 4.1: NEG
    ∷ row (0x84 ∷ 0x87 ∷ []) AnyValue Unused Unused Unused
    -- RFC 9669, section 4.2: swaps to little endian, to big endian, unconditional; imm says how many bits
    ∷ row (0xd4 ∷ 0xdc ∷ 0xd7 ∷ []) AnyValue Unused Unused SwapBits
    -- RFC 9669, sections 5.1 and 5.2: loads of W H B DW, and of W H B with their sign
    ∷ row (0x61 ∷ 0x69 ∷ 0x71 ∷ 0x79 ∷ []) AnyValue AnyValue AnyValue Unused
    ∷ row (0x81 ∷ 0x89 ∷ 0x91 ∷ []) AnyValue AnyValue AnyValue Unused
    -- RFC 9669, section 5.1: stores of an immediate, and of a register
    ∷ row (0x62 ∷ 0x6a ∷ 0x72 ∷ 0x7a ∷ []) AnyValue Unused AnyValue AnyValue
    ∷ row (0x63 ∷ 0x6b ∷ 0x73 ∷ 0x7b ∷ []) AnyValue AnyValue AnyValue Unused
    -- RFC 9669, section 5.4: a 64-bit immediate, and map_by_idx, the map of an index
    ∷ row (0x18 ∷ []) AnyValue WideSource Unused AnyValue
    -- RFC 9669, section 4.3: JA by the offset, and by imm
    ∷ row (0x05 ∷ []) Unused Unused AnyValue Unused
    ∷ row (0x06 ∷ []) Unused Unused Unused AnyValue
    -- RFC 9669, section 4.3: JEQ JGT JGE JSET JNE JSGT JSGE JLT JLE JSLT JSLE against an immediate, of 64 and of 32 bits
    ∷ row (0x15 ∷ 0x25 ∷ 0x35 ∷ 0x45 ∷ 0x55 ∷ 0x65 ∷ 0x75 ∷ 0xa5 ∷ 0xb5 ∷ 0xc5 ∷ 0xd5 ∷ []) AnyValue Unused AnyValue AnyValue
    ∷ row (0x16 ∷ 0x26 ∷ 0x36 ∷ 0x46 ∷ 0x56 ∷ 0x66 ∷ 0x76 ∷ 0xa6 ∷ 0xb6 ∷ 0xc6 ∷ 0xd6 ∷ []) AnyValue Unused AnyValue AnyValue
    -- RFC 9669, section 4.3: the same against a register
    ∷ row (0x1d ∷ 0x2d ∷ 0x3d ∷ 0x4d ∷ 0x5d ∷ 0x6d ∷ 0x7d ∷ 0xad ∷ 0xbd ∷ 0xcd ∷ 0xdd ∷ []) AnyValue AnyValue AnyValue Unused
    ∷ row (0x1e ∷ 0x2e ∷ 0x3e ∷ 0x4e ∷ 0x5e ∷ 0x6e ∷ 0x7e ∷ 0xae ∷ 0xbe ∷ 0xce ∷ 0xde ∷ []) AnyValue AnyValue AnyValue Unused
    -- RFC 9669, section 4.3: CALL of a helper by its number, and EXIT
    ∷ row (0x85 ∷ []) Unused OnlyZero Unused AnyValue
    ∷ row (0x95 ∷ []) Unused Unused Unused Unused
    ∷ []

-- one of the numbers is this one
abbrev pub is_among : ℕ → List ℕ → Bool
is_among n numbers = list_any (λ m. n == m) numbers

-- the fields that the instructions with this opcode have in use, if there are any
abbrev pub uses_of : ℕ → Option Uses
uses_of opcode = option_map (λ r. r.uses) (find (λ r. is_among opcode r.opcodes) table)

-- the values that a field in use may have, where it may not have every one
abbrev pub values_of : Use → Option (List ℤ)
values_of Signedness = Some (pos 0 ∷ pos 1 ∷ [])
values_of Extension = Some (pos 0 ∷ pos 8 ∷ pos 16 ∷ [])
values_of Extension64 = Some (pos 0 ∷ pos 8 ∷ pos 16 ∷ pos 32 ∷ [])
values_of SwapBits = Some (pos 16 ∷ pos 32 ∷ pos 64 ∷ [])
values_of WideSource = Some (pos 0 ∷ pos 5 ∷ [])
values_of OnlyZero = Some (pos 0 ∷ [])
values_of _ = None

-- ---- the same by letters

-- The uses by the letter that the decoder's table of opcodes has in place of each opcode. This is scaffolding: no public
-- clause rests on it.
abbrev pub letters : List Row
letters =
    row (codes "i") AnyValue Unused Unused AnyValue
    ∷ row (codes "r") AnyValue AnyValue Unused Unused
    ∷ row (codes "d") AnyValue Unused Signedness AnyValue
    ∷ row (codes "D") AnyValue AnyValue Signedness Unused
    ∷ row (codes "m") AnyValue AnyValue Extension Unused
    ∷ row (codes "M") AnyValue AnyValue Extension64 Unused
    ∷ row (codes "n") AnyValue Unused Unused Unused
    ∷ row (codes "w") AnyValue Unused Unused SwapBits
    ∷ row (codes "lTB") AnyValue AnyValue AnyValue Unused
    ∷ row (codes "tb") AnyValue Unused AnyValue AnyValue
    ∷ row (codes "2") AnyValue WideSource Unused AnyValue
    ∷ row (codes "j") Unused Unused AnyValue Unused
    ∷ row (codes "J") Unused Unused Unused AnyValue
    ∷ row (codes "c") Unused OnlyZero Unused AnyValue
    ∷ row (codes "e") Unused Unused Unused Unused
    ∷ []

abbrev pub uses_by : ℕ → Option Uses
uses_by letter = option_map (λ r. r.uses) (find (λ r. is_among letter r.opcodes) letters)
