-- Refusals, and that no memory is left, which is no line's fault.
use Rattle.std.specs.Prelude.{◌≡◌, ℕ, Result, Ok, Err, MatchResult}
use Rattle.loader.specs.declared.refusals.LoadFault.{LoadFault}
use Rattle.loader.specs.declared.refusals.LoadFault.TheVariants as faults
use Rattle.loader.specs.declared.refusals.LoadRefusal.{LoadRefusal}
use Rattle.loader.specs.declared.refusals.LoadError.{LoadError}
use Rattle.loader.specs.declared.refusals.LoadError.TheVariants as errors
use Rattle.loader.specs.declared.refusals.LineError.{LineError}
use Rattle.loader.specs.declared.refusals.LineError.TheVariants as steps

-- the number n of Cn
abbrev pub fault_number : LoadFault → ℕ
fault_number faults.BadLine = 1
fault_number faults.BadHex = 2
fault_number (faults.Decode e) = 3
fault_number (faults.Verify e) = 4
fault_number faults.TooMany = 5

abbrev pub number_of : LoadError → ℕ
number_of errors.NoMemory = 6
number_of (errors.Refused refusal) = fault_number refusal.why

-- where no memory is left, no line is named: 0
abbrev pub line_of : LoadError → ℕ
line_of errors.NoMemory = 0
line_of (errors.Refused refusal) = refusal.line

-- no memory is left; or the refusal is the one that this reading gives
abbrev pub LoadFails : {Y : Type 0} → LoadError → Result Y LoadRefusal → Type 0
LoadFails errors.NoMemory read = Unit {0}
LoadFails (errors.Refused refusal) read = read ≡ Err refusal

-- what is answered is what this reading gives, or why it fails
abbrev pub IsLoadAnswer : {Y : Type 0} → Result Y LoadRefusal → Result Y LoadError → Type 0
IsLoadAnswer read answer = MatchResult answer (λ y. read ≡ Ok y) (λ e. LoadFails e read)

-- ---- clauses of private functions alone cite what follows

-- what keeps a line from adding something, with the line's number
abbrev pub at_line : ℕ → LineError → LoadError
at_line n steps.NoMemory = errors.NoMemory
at_line n (steps.Refused why) = errors.Refused (record { line = n; why = why })

-- a step failed as this reading does, or no memory is left
abbrev pub Fails : {Y : Type 0} → LineError → Result Y LoadFault → Type 0
Fails steps.NoMemory read = Unit {0}
Fails (steps.Refused why) read = read ≡ Err why

-- a step gave what this reading gives, seen by view, or failed so
abbrev pub Gives : {X Y : Type 0} → (X → Y) → Result X LineError → Result Y LoadFault → Type 0
Gives view (Ok x) read = read ≡ Ok (view x)
Gives view (Err why) read = Fails why read
