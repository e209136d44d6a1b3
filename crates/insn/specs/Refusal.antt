-- What bytes spell a program, and the first thing that keeps others from spelling one.
use Rattle.std.specs.Prelude.{◌≡◌, ℕ, ◌*◌, ◌%◌, ◌/◌, ◌<◌, ◌≤◌, Bool, false, not, ◌&&◌, ◌||◌, nat_lt, ◌==◌, if◌then◌else◌, ℤ, pos, List, [], ◌∷◌, ◌++◌, length, Option, Some, None, find, is_none, Result, Ok, Err, Vec}
use Rattle.std.specs.Global.{Global}
use Rattle.std.specs.Ordering.{int_eq}
use Rattle.std.specs.Int.{w16, w32, cast_signed, from_le_bytes}
use Rattle.std.specs.List.{list_any, AllByRecursion}
use Rattle.insn.specs.declared.instruction.Fields.{Fields}
use Rattle.insn.specs.declared.instruction.Form.{Form}
use Rattle.insn.specs.declared.instruction.TheConstants.{MAX_SLOTS}
use Rattle.insn.specs.declared.decoding.DecodeFault.{DecodeFault}
use Rattle.insn.specs.declared.decoding.DecodeFault.TheVariants.{NotWholeSlots, Empty, TooLong, UnknownOpcode, RegisterAbove10, UndefinedValue, UnusedFieldSet, CutOff, BadSecondHalf}
use Rattle.insn.specs.declared.decoding.DecodeRefusal.{DecodeRefusal}
use Rattle.insn.specs.declared.decoding.DecodeError.{DecodeError}
use Rattle.insn.specs.declared.decoding.DecodeError.TheVariants.{NoMemory, Refused}
use Rattle.opcodes.specs.declared.Use.{Use}
use Rattle.opcodes.specs.declared.Use.TheVariants.{Unused}
use Rattle.opcodes.specs.declared.Uses.{Uses}
use Rattle.opcodes.specs.Table.{uses_of, values_of}
use Rattle.insn.specs.Encoding.{program_slots, program_bytes, HasEncoding}
use Rattle.insn.specs.Layout.{size}

-- ---- when a rule is broken

-- there are such values, and this one is none of them
abbrev pub is_none_of : Option (List ℤ) → ℤ → Bool
is_none_of (Some values) z = not (list_any (int_eq z) values)
is_none_of None z = false

-- the value is none that the field may have, where the field is in use
abbrev pub is_undefined : Use → ℤ → Bool
is_undefined u z = is_none_of (values_of u) z

-- the field is not in use, and not zero
abbrev pub is_set_though_unused : Use → ℤ → Bool
is_set_though_unused Unused z = not (int_eq z (pos 0))
is_set_though_unused _ z = false

-- one of the four fields fails so, by what its opcode has in use
abbrev pub some_field : (Use → ℤ → Bool) → Option Uses → Fields → Bool
some_field fails None f = false
some_field fails (Some u) f = fails u.dst (pos f.dst) || fails u.src (pos f.src) || fails u.offset f.offset || fails u.imm f.imm

-- RFC 9669, section 3.2: a wide instruction has a second slot
abbrev pub is_wide : Fields → Bool
is_wide f = f.opcode == 0x18

-- RFC 9669, section 3.2: in the second half all is zero but next_imm, and that too where the first names a map
abbrev pub is_bad_half : Fields → Fields → Bool
is_bad_half f g =
    not (g.opcode == 0) || not (g.dst == 0) || not (g.src == 0) || not (int_eq g.offset (pos 0)) || (f.src == 5 && not (int_eq g.imm (pos 0)))

-- the slots do not begin with an instruction, for this reason
abbrev pub breaks : DecodeFault → List Fields → Bool
breaks UnknownOpcode (f ∷ rest) = is_none (uses_of f.opcode)
breaks RegisterAbove10 (f ∷ rest) = nat_lt 10 f.dst || nat_lt 10 f.src
breaks UndefinedValue (f ∷ rest) = some_field is_undefined (uses_of f.opcode) f
breaks UnusedFieldSet (f ∷ rest) = some_field is_set_though_unused (uses_of f.opcode) f
breaks CutOff (f ∷ []) = is_wide f
breaks BadSecondHalf (f ∷ g ∷ rest) = is_wide f && is_bad_half f g
breaks _ _ = false

-- the reasons that stand in the first slot, and those that stand in the second of a wide instruction, by number
abbrev pub first_slot_faults : List DecodeFault
first_slot_faults = UnknownOpcode ∷ RegisterAbove10 ∷ UndefinedValue ∷ UnusedFieldSet ∷ []

abbrev pub second_slot_faults : List DecodeFault
second_slot_faults = CutOff ∷ BadSecondHalf ∷ []

-- the first reason, by number
abbrev pub first_fault : List Fields → Option DecodeFault
first_fault slots = find (λ d. breaks d slots) (first_slot_faults ++ second_slot_faults)

-- the number that a refusal shows
abbrev pub fault_number : DecodeFault → ℕ
fault_number NotWholeSlots = 1
fault_number Empty = 2
fault_number TooLong = 3
fault_number UnknownOpcode = 4
fault_number RegisterAbove10 = 5
fault_number UndefinedValue = 6
fault_number UnusedFieldSet = 7
fault_number CutOff = 8
fault_number BadSecondHalf = 9

-- ---- bytes as slots

-- RFC 9669, section 3.1: the slots that bytes are, 8 bytes each; fewer than 8 at the end are none
abbrev pub slots_in : List ℕ → List Fields
slots_in (opcode ∷ registers ∷ o0 ∷ o1 ∷ i0 ∷ i1 ∷ i2 ∷ i3 ∷ rest) =
    record {
      opcode = opcode;
      dst = registers % 16;
      src = registers / 16;
      offset = cast_signed w16 (from_le_bytes w16 (o0 ∷ o1 ∷ []));
      imm = cast_signed w32 (from_le_bytes w32 (i0 ∷ i1 ∷ i2 ∷ i3 ∷ []));
    }
    ∷ slots_in rest
slots_in _ = []

-- each number is a byte
abbrev pub AreBytes : List ℕ → Type 0
AreBytes numbers = AllByRecursion (λ n. n < 256) numbers

-- ---- whole programs

-- the bytes spell this program, which has from 1 to 4,096 slots
pub record Decodes (bytes : List ℕ) (p : List Form) : Type 0 where
  pub each : AllByRecursion HasEncoding p
  pub spelled : bytes ≡ program_bytes p
  pub some : 0 < size p
  pub few : size p ≤ MAX_SLOTS

-- what is wrong with so many bytes, whatever they are
abbrev pub length_fault : ℕ → Option DecodeFault
length_fault n = if not (n % 8 == 0) then Some NotWholeSlots else (if n == 0 then Some Empty else (if nat_lt (8 * MAX_SLOTS) n then Some TooLong else None))

-- after whole instructions comes a slot at which none begins, for this reason
pub record FaultAt (slots : List Fields) (at : ℕ) (why : DecodeFault) : Type 0 where
  pub before : List Form
  pub each : AllByRecursion HasEncoding before
  pub rest : List Fields
  pub joined : slots ≡ program_slots before ++ rest
  pub place : at ≡ size before
  pub first : first_fault rest ≡ Some why

-- the first reason why the bytes are no program: their number, or what stands at the first slot at which no instruction begins
abbrev pub RefusesBy : Option DecodeFault → List ℕ → DecodeRefusal → Type 0
RefusesBy (Some why) bytes e = e ≡ record { slot = 0; why = why }
RefusesBy None bytes e = FaultAt (slots_in bytes) e.slot e.why

abbrev pub Refuses : List ℕ → DecodeRefusal → Type 0
Refuses bytes e = RefusesBy (length_fault (length bytes)) bytes e

-- ---- answers

-- the number that an error shows, 0 where memory ran out
abbrev pub error_number : DecodeError → ℕ
error_number NoMemory = 0
error_number (Refused e) = fault_number e.why

-- the slot that an error names, 0 where memory ran out
abbrev pub error_slot : DecodeError → ℕ
error_slot NoMemory = 0
error_slot (Refused e) = e.slot

-- the answer is this program, or memory ran out
abbrev pub IsOnly : Result (Vec Form Global) DecodeError → List Form → Type 0
IsOnly (Ok v) p = v.items ≡ p
IsOnly (Err e) p = e ≡ NoMemory

-- the error is the first refusal, or memory ran out
abbrev pub IsFirst : List ℕ → DecodeError → Type 0
IsFirst bytes NoMemory = Unit {0}
IsFirst bytes (Refused e) = Refuses bytes e
