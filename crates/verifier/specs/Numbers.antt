-- The numbers of refusals, as they are printed after the letter V.
use Rattle.std.specs.Prelude.{ℕ}
use Rattle.verifier.specs.declared.refusal.VerifyFault.{VerifyFault}
use Rattle.verifier.specs.declared.refusal.VerifyFault.TheVariants.{TargetOutside, TargetNotForward, TargetInsideWide, RunsOffTheEnd, Unreachable, UnreadableRegister, FramePointerWritten, UndefinedOperation, OffsetOutOfRange, OutOfRegion, UninitialisedStack, ArgumentWritten, PointerStored, UncheckedNull, HelperArgument, UnknownHelperOrMap, PointerReply, WriteInReadMode}
use Rattle.verifier.specs.declared.refusal.VerifyError.{VerifyError}
use Rattle.verifier.specs.declared.refusal.VerifyError.TheVariants as answers

-- the number of a rule
abbrev pub fault_number : VerifyFault → ℕ
fault_number TargetOutside = 1
fault_number TargetNotForward = 2
fault_number TargetInsideWide = 3
fault_number RunsOffTheEnd = 4
fault_number Unreachable = 5
fault_number UnreadableRegister = 6
fault_number FramePointerWritten = 7
fault_number UndefinedOperation = 8
fault_number OffsetOutOfRange = 9
fault_number OutOfRegion = 10
fault_number UninitialisedStack = 11
fault_number ArgumentWritten = 12
fault_number PointerStored = 13
fault_number UncheckedNull = 14
fault_number HelperArgument = 15
fault_number UnknownHelperOrMap = 16
fault_number PointerReply = 17
fault_number WriteInReadMode = 18

-- the number of what verify answers: 0 where there is no memory left
abbrev pub error_number : VerifyError → ℕ
error_number answers.NoMemory = 0
error_number (answers.Refused e) = fault_number e.why

-- the slot of what verify answers: 0 if there is no memory left
abbrev pub error_slot : VerifyError → ℕ
error_slot answers.NoMemory = 0
error_slot (answers.Refused e) = e.slot
