-- Refusals, and that no memory is left, which is no line's fault.
use Rattle.std.specs.Prelude.{◌≡◌, ℕ, Result, Ok, Err, MatchResult}
use Rattle.dumps.specs.declared.refusals.DumpFault.{DumpFault}
use Rattle.dumps.specs.declared.refusals.DumpFault.TheVariants as faults
use Rattle.dumps.specs.declared.refusals.DumpRefusal.{DumpRefusal}
use Rattle.dumps.specs.declared.refusals.DumpError.{DumpError}
use Rattle.dumps.specs.declared.refusals.DumpError.TheVariants as errors
use Rattle.dumps.specs.declared.refusals.LineError.{LineError}
use Rattle.dumps.specs.declared.refusals.LineError.TheVariants as steps

-- the number n of En
abbrev pub fault_number : DumpFault → ℕ
fault_number faults.BadLine = 1
fault_number faults.NoMap = 2
fault_number faults.BadKey = 3
fault_number faults.BadValue = 4
fault_number faults.OutOfOrder = 5
fault_number faults.ZeroValue = 6
fault_number faults.Full = 7
fault_number (faults.Program e) = 8
fault_number faults.TooManyPrograms = 9

abbrev pub number_of : DumpError → ℕ
number_of errors.NoMemory = 0
number_of (errors.Refused refusal) = fault_number refusal.why

-- where no memory is left, no line is named: 0
abbrev pub line_of : DumpError → ℕ
line_of errors.NoMemory = 0
line_of (errors.Refused refusal) = refusal.line

-- no memory is left; or the refusal is the one that this reading gives
abbrev pub LoadFails : {Y : Type 0} → DumpError → Result Y DumpRefusal → Type 0
LoadFails errors.NoMemory read = Unit {0}
LoadFails (errors.Refused refusal) read = read ≡ Err refusal

-- what is answered is this reading: what it gives, or why it fails
abbrev pub IsLoadAnswer : {Y : Type 0} → Result Y DumpRefusal → Result Y DumpError → Type 0
IsLoadAnswer read answer = MatchResult answer (λ y. read ≡ Ok y) (λ e. LoadFails e read)

-- ---- clauses of private functions alone cite what follows

-- what keeps a line from saying something, with the line's number
abbrev pub at_line : ℕ → LineError → DumpError
at_line n steps.NoMemory = errors.NoMemory
at_line n (steps.Refused why) = errors.Refused (record { line = n; why = why })

-- a step failed as this reading does, or no memory is left
abbrev pub Fails : {Y : Type 0} → LineError → Result Y DumpFault → Type 0
Fails steps.NoMemory read = Unit {0}
Fails (steps.Refused why) read = read ≡ Err why

-- a step made this of the state, as this reading does, or failed so
abbrev pub Makes : {X Y : Type 0} → Y → Result X LineError → Result Y DumpFault → Type 0
Makes made (Ok x) read = read ≡ Ok made
Makes made (Err why) read = Fails why read
