-- The numbers of refusals.
use Rattle.std.specs.Prelude.{◌≡◌, ℕ, Result, Err}
use Rattle.asm.specs.declared.refusals.AsmFault.{AsmFault}
use Rattle.asm.specs.declared.refusals.AsmFault.TheVariants.{UnknownWord, BadOperand, OutOfRange, UnknownLabel, LabelTwice, JumpTooFar, TooLong, TextBehind}
use Rattle.asm.specs.declared.refusals.AsmRefusal.{AsmRefusal}
use Rattle.asm.specs.declared.refusals.AsmError.{AsmError}
use Rattle.asm.specs.declared.refusals.AsmError.TheVariants.{NoMemory, Refused}

-- the number n of An
abbrev pub fault_number : AsmFault → ℕ
fault_number UnknownWord = 1
fault_number BadOperand = 2
fault_number OutOfRange = 3
fault_number UnknownLabel = 4
fault_number LabelTwice = 5
fault_number JumpTooFar = 6
fault_number TooLong = 7
fault_number TextBehind = 8

-- the number of a refusal, 0 where memory ran out
abbrev pub error_number : AsmError → ℕ
error_number NoMemory = 0
error_number (Refused e) = fault_number e.why

-- the line of a refusal, 0 where memory ran out
abbrev pub error_line : AsmError → ℕ
error_line NoMemory = 0
error_line (Refused e) = e.line

abbrev pub no_memory : AsmError
no_memory = NoMemory

-- memory ran out, or this reading refuses so
abbrev pub Fails : {Y : Type 0} → AsmError → Result Y AsmRefusal → Type 0
Fails NoMemory read = Unit {0}
Fails (Refused e) read = read ≡ Err e
