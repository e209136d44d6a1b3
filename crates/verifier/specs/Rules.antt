-- The rules that an instruction may break on the frame before it.
use Rattle.std.specs.Prelude.{ℕ, zero, Bool, true, false, not, ◌&&◌, ◌||◌, ◌==◌, nat_lt, ℤ, pos, negsuc, List, [], ◌∷◌, length, Option, Some, None, find, is_none}
use Rattle.std.specs.List.{list_any}
use Rattle.std.specs.Option.{option_map_or}
use Rattle.insn.specs.declared.instruction.Source.TheVariants.{Reg, Imm}
use Rattle.insn.specs.declared.instruction.Operation.TheVariants.{Add, Sub, Mov}
use Rattle.insn.specs.declared.instruction.Condition.TheVariants.{Jeq, Jne}
use Rattle.insn.specs.declared.instruction.Form.{Form}
use Rattle.insn.specs.declared.instruction.Form.TheVariants.{Alu, Load, Store, MapRef, Branch, Call, Exit}
use Rattle.regkind.specs.declared.frames.Kind.{Kind}
use Rattle.regkind.specs.Frames.{Frame, kind}
use Rattle.helpers.specs.declared.numbers.Helper.{Helper}
use Rattle.helpers.specs.declared.numbers.Helper.TheVariants.{Lookup, Update, Delete}
use Rattle.helpers.specs.Numbers.{helper_of}
use Rattle.verifier.specs.declared.refusal.Mode.{Mode}
use Rattle.verifier.specs.declared.refusal.Mode.TheVariants.{Read}
use Rattle.verifier.specs.declared.refusal.VerifyFault.{VerifyFault}
use Rattle.verifier.specs.declared.refusal.VerifyFault.TheVariants.{UnreadableRegister, FramePointerWritten, UndefinedOperation, OffsetOutOfRange, OutOfRegion, UninitialisedStack, ArgumentWritten, PointerStored, UncheckedNull, HelperArgument, UnknownHelperOrMap, PointerReply, WriteInReadMode}
use Rattle.verifier.specs.Signature.{Signature}
use Rattle.verifier.specs.Kinds.{is_unreadable, is_pointer, is_region_pointer, is_scalar, is_map, cannot_be_dereferenced, cannot_be_moved, cannot_be_tested, is_arg, is_value, is_value_or_null}
use Rattle.verifier.specs.Operands.{source_registers, reads, writes}
use Rattle.insn.specs.Moves.{distance}
use Rattle.verifier.specs.Regions.{is_within, memory_read, memory_written, is_outside, is_unmarked, access, whole_cell, pointer_in}
use Rattle.insn.specs.Sizes.{byte_count}

-- ---- what the rules ask

-- one of these registers has a pointer
abbrev pub any_pointer : List ℕ → Frame → Bool
any_pointer rs f = list_any (λ r. is_pointer (kind f r)) rs

-- Arithmetic and branches are on numbers. But a MOV of 64 bits copies what a register holds, an ADD or SUB of 64 bits with
-- an immediate moves a pointer into a region, and a JEQ or JNE of 64 bits with 0 tests the answer of a lookup for null. A
-- load or a store needs a pointer into a region (RFC 9669, sections 4.1, 4.3, 5.1 and 5.2).
abbrev pub misuses : Form → Frame → Bool
misuses (Alu true Mov dst (Reg src)) f = false
misuses (Alu true Add dst (Imm imm)) f = cannot_be_moved (kind f dst)
misuses (Alu true Sub dst (Imm imm)) f = cannot_be_moved (kind f dst)
misuses (Branch true Jeq dst (Imm (pos zero)) off) f = cannot_be_tested (kind f dst)
misuses (Branch true Jne dst (Imm (pos zero)) off) f = cannot_be_tested (kind f dst)
misuses (Load size signed dst src off) f = cannot_be_dereferenced (kind f src)
misuses (Store size dst off src) f = cannot_be_dereferenced (kind f dst)
misuses (Call id) f = false
misuses Exit f = false
misuses i f = any_pointer (reads i) f

-- a pointer is moved out of its region, and not to its end
abbrev pub leaves_region : Signature → Form → Frame → Bool
leaves_region l (Alu w64 op dst src) f = option_map_or (λ d. not (is_within l (kind f dst) d 0)) (distance w64 op src) false
leaves_region l i f = false

-- bytes are written through a pointer of such a kind
abbrev pub writes_through : (Kind → Bool) → Form → Frame → Bool
writes_through test i f = list_any (λ a. test a.base) (memory_written i f)

-- the base of a load or a store is a lookup's answer that was not tested for null
abbrev pub has_unchecked_base : Form → Frame → Bool
has_unchecked_base (Load size signed dst src off) f = is_value_or_null (kind f src)
has_unchecked_base (Store size dst off src) f = is_value_or_null (kind f dst)
has_unchecked_base i f = false

-- the register is readable, and not of such a kind
abbrev pub is_readable_but_not : (Kind → Bool) → Frame → ℕ → Bool
is_readable_but_not test f r = not (is_unreadable (kind f r)) && not (test (kind f r))

-- a helper wants a map in R1 and a pointer to a key in R2; update a pointer to a value in R3 and a number in R4 (bpf-helpers(7))
abbrev pub has_bad_argument : Option Helper → Frame → Bool
has_bad_argument None f = false
has_bad_argument (Some Lookup) f = is_readable_but_not is_map f 1 || is_readable_but_not is_region_pointer f 2
has_bad_argument (Some Update) f = is_readable_but_not is_map f 1 || is_readable_but_not is_region_pointer f 2 || is_readable_but_not is_region_pointer f 3 || is_readable_but_not is_scalar f 4
has_bad_argument (Some Delete) f = is_readable_but_not is_map f 1 || is_readable_but_not is_region_pointer f 2

-- the helper changes a map (bpf-helpers(7))
abbrev pub changes_map : Option Helper → Bool
changes_map None = false
changes_map (Some Lookup) = false
changes_map (Some Update) = true
changes_map (Some Delete) = true

-- there is a map of this index (RFC 9669, section 5.4.1)
abbrev pub is_map_index : Signature → ℤ → Bool
is_map_index l (pos m) = nat_lt m (length l.shapes)
is_map_index l (negsuc m) = false

-- the mode changes no map
abbrev pub is_read : Mode → Bool
is_read Read = true
is_read mode = false

-- ---- the rules

-- The instruction breaks the rule on this frame. A pointer may be stored where it fills a cell of the stack, and loaded from there; no byte
-- of it may be read.
abbrev pub breaks : VerifyFault → Signature → Form → Frame → Bool
breaks UnreadableRegister l i f = list_any (λ r. is_unreadable (kind f r)) (reads i)
breaks FramePointerWritten l i f = option_map_or (λ r. r == 10) (writes i) false
breaks UndefinedOperation l i f = misuses i f
breaks OffsetOutOfRange l i f = leaves_region l i f
breaks OutOfRegion l i f = list_any (is_outside l) (memory_read l i f) || list_any (is_outside l) (memory_written i f)
breaks UninitialisedStack l (Load size signed dst src off) f =
    is_none (pointer_in f (kind f src) off (byte_count size)) && is_unmarked l f (access (kind f src) off (byte_count size))
breaks UninitialisedStack l i f = list_any (is_unmarked l f) (memory_read l i f)
breaks ArgumentWritten l i f = writes_through is_arg i f
breaks PointerStored l (Store size dst off src) f =
    any_pointer (source_registers src) f && is_none (whole_cell (kind f dst) off (byte_count size))
breaks UncheckedNull l i f = has_unchecked_base i f
breaks HelperArgument l (Call id) f = has_bad_argument (helper_of id) f
breaks UnknownHelperOrMap l (Call id) f = is_none (helper_of id)
breaks UnknownHelperOrMap l (MapRef dst index) f = not (is_map_index l index)
breaks PointerReply l Exit f = is_pointer (kind f 0)
breaks WriteInReadMode l (Call id) f = is_read l.mode && changes_map (helper_of id)
breaks WriteInReadMode l i f = is_read l.mode && writes_through is_value i f
breaks v l i f = false

-- the rules in the order of their numbers, V6 to V18
abbrev pub rules_in_order : List VerifyFault
rules_in_order =
    UnreadableRegister ∷ FramePointerWritten ∷ UndefinedOperation ∷ OffsetOutOfRange ∷ OutOfRegion ∷ UninitialisedStack ∷ ArgumentWritten ∷ PointerStored ∷ UncheckedNull ∷ HelperArgument ∷ UnknownHelperOrMap ∷ PointerReply ∷ WriteInReadMode ∷ []

-- the rule of the lowest number that the instruction breaks on this frame
abbrev pub first_broken : Signature → Form → Frame → Option VerifyFault
first_broken l i f = find (λ v. breaks v l i f) rules_in_order
