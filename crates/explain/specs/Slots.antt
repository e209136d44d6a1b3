-- What is told at a slot of what is known there.
use Rattle.std.specs.Prelude.{ℕ, zero, suc, ◌+◌, ◌-◌, ◌/◌, ◌%◌, nat_le, Bool, true, false, not, ◌&&◌, ◌||◌, ◌==◌, List, [], ◌∷◌, ◌++◌, length, take, drop, filter, flat_map, codes, decimal, Option, Some, None, is_some, if◌then◌else◌}
use Rattle.std.specs.List.{concat, prefix_len, range_with_len}
use Rattle.std.specs.Int.{bit_at}
use Rattle.insn.specs.declared.instruction.Form.{Form}
use Rattle.insn.specs.declared.instruction.Edge.{Edge}
use Rattle.insn.specs.declared.instruction.Edge.TheVariants.{Fall, Jump}
use Rattle.insn.specs.Layout.{instruction_at}
use Rattle.regkind.specs.declared.frames.Kind.{Kind}
use Rattle.regkind.specs.declared.frames.Kind.TheVariants.{Unreadable}
use Rattle.regkind.specs.declared.frames.Cell.{Cell}
use Rattle.regkind.specs.declared.frames.Cell.TheVariants.{Marks, Spilled}
use Rattle.regkind.specs.Frames.{Frame, kind, cell}
use Rattle.verifier.specs.declared.refusal.Refused.{Refused}
use Rattle.verifier.specs.Joined.{is_same, leads, joined_frame}
use Rattle.explain.specs.declared.programs.Byte.{Byte}
use Rattle.explain.specs.declared.programs.Byte.TheVariants as bytes
use Rattle.explain.specs.Words.{register_words, pointer_words, row_words}

-- ---- what is known, if something is

-- what a register has
abbrev pub kind_in : Option Frame → ℕ → Kind
kind_in None r = Unreadable
kind_in (Some f) r = kind f r

-- what a cell of the stack has
abbrev pub cell_in : Option Frame → ℕ → Cell
cell_in None c = Marks 0
cell_in (Some f) c = cell f c

-- what the byte of a cell is
abbrev pub byte_of : Cell → ℕ → Byte
byte_of (Marks marks) i = if bit_at marks i == 1 then bytes.Number else bytes.Unwritten
byte_of (Spilled kind) i = bytes.Pointer

-- what a byte of the stack is, counted from its lower end
abbrev pub byte_in : Option Frame → ℕ → Byte
byte_in f k = byte_of (cell_in f (k / 8)) (k % 8)

-- ---- what is known now, and was not before

-- a register has something else now
abbrev pub register_told : Option Frame → Frame → ℕ → List ℕ
register_told before now r = if is_same (kind_in before r) (kind now r) then [] else register_words r (kind now r)

-- a cell has another pointer now
abbrev pub cell_told : ℕ → Cell → Cell → List ℕ
cell_told c before (Marks marks) = []
cell_told c (Marks marks) (Spilled kind) = pointer_words c kind
cell_told c (Spilled had) (Spilled kind) = if is_same had kind then [] else pointer_words c kind

-- two bytes of the stack are alike
abbrev pub is_byte : Byte → Byte → Bool
is_byte bytes.Number bytes.Number = true
is_byte bytes.Unwritten bytes.Unwritten = true
is_byte bytes.Pointer bytes.Pointer = true
is_byte a b = false

-- a byte of the stack is so now, and was not
abbrev pub is_new : Byte → Option Frame → Frame → ℕ → Bool
is_new known before now k = is_byte (byte_in (Some now) k) known && not (is_byte (byte_in before k) known)

-- a row of such bytes begins
abbrev pub begins_row : (ℕ → Bool) → ℕ → Bool
begins_row is zero = is zero
begins_row is (suc k) = is (suc k) && not (is k)

-- the last byte of a row
abbrev pub row_end : (ℕ → Bool) → ℕ → ℕ
row_end is first = first + prefix_len is (range_with_len (first + 1) (511 - first))

-- the row of bytes that begins there
abbrev pub row_told : Byte → (ℕ → Bool) → ℕ → List ℕ
row_told known is first = if begins_row is first then row_words known first (row_end is first) else []

-- all registers, bytes and cells of the stack
unfoldable pub registers_told : Option Frame → Frame → List ℕ
registers_told before now = flat_map (register_told before now) (range_with_len 0 11)

unfoldable pub bytes_told : Byte → Option Frame → Frame → List ℕ
bytes_told known before now = flat_map (row_told known (is_new known before now)) (range_with_len 0 512)

unfoldable pub pointers_told : Option Frame → Frame → List ℕ
pointers_told before now = flat_map (λ c. cell_told c (cell_in before c) (cell now c)) (range_with_len 0 64)

abbrev pub changes_told : Option Frame → Frame → List ℕ
changes_told before now =
    concat (registers_told before now ∷ bytes_told bytes.Number before now ∷ bytes_told bytes.Unwritten before now ∷ pointers_told before now ∷ [])

-- ---- from where a slot is reached

-- what is at slot s leads to slot t by this edge
abbrev pub leads_by : Option Form → ℕ → Edge → ℕ → Bool
leads_by None s edge t = false
leads_by (Some i) s edge t = leads i s edge t

-- the lower slots from which this edge leads to slot t
abbrev pub slots_into : List Form → Edge → ℕ → List ℕ
slots_into p edge t = filter (λ s. leads_by (instruction_at p s) s edge t) (range_with_len 0 t)

-- the slot of the instruction above that falls through to slot t, if something is known there
abbrev pub falls_into : List Form → (ℕ → Option Frame) → ℕ → List ℕ
falls_into p known t = filter (λ s. is_some (known s)) (slots_into p Fall t)

-- what the line above tells already: what is known there, where a slot is reached from there alone, and by no jump
abbrev pub line_above : (ℕ → Option Frame) → List ℕ → List ℕ → Option Frame
line_above known [] (s ∷ falls) = known s
line_above known jumps falls = None

-- slots, each after a comma
abbrev pub slots_told : List ℕ → List ℕ
slots_told slots = flat_map (λ s. concat (codes ", " ∷ decimal s ∷ [])) slots

-- how many more jumps there are
abbrev pub more_told : ℕ → List ℕ
more_told n = if n == 0 then [] else concat (codes " and " ∷ decimal n ∷ codes " more" ∷ [])

-- the first four of the jumps and how many more there are, and the instruction above
abbrev pub sources_told : List ℕ → List ℕ → List ℕ
sources_told jumps falls =
    concat (codes "from " ∷ drop 2 (concat (slots_told (take 4 jumps) ∷ more_told (length jumps - 4) ∷ slots_told falls ∷ [])) ∷ codes ": " ∷ [])

-- ---- a slot

-- from where slot t is reached, where not from the line above alone
abbrev pub reached_told : ℕ → List ℕ → List ℕ → Option Frame → List ℕ
reached_told t jumps falls before = if is_some before || t == 0 then [] else sources_told jumps falls

-- what is known there, and not on the line above already
abbrev pub frame_told : ℕ → List ℕ → List ℕ → Option Frame → Option Frame → List ℕ
frame_told t jumps falls before None = codes "nothing leads here"
frame_told t jumps falls before (Some now) = reached_told t jumps falls before ++ drop 2 (changes_told before now)

-- what is told at slot t, of what is known at slots
unfoldable pub told_at : List Form → (ℕ → Option Frame) → ℕ → List ℕ
told_at p known t = frame_told t (slots_into p Jump t) (falls_into p known t) (line_above known (slots_into p Jump t) (falls_into p known t)) (known t)

-- `told_at` of the joined frames: what is known at the slot on every way
abbrev pub slot_told : List Form → ℕ → List ℕ
slot_told p t = told_at p (joined_frame p) t

-- nothing is told of slots after that of a refusal by kinds
abbrev pub told_upto : List Form → Option Refused → ℕ → List ℕ
told_upto p None t = slot_told p t
told_upto p (Some e) t = if nat_le t e.slot then slot_told p t else []
