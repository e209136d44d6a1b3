-- How a command ends.
use Rattle.std.specs.Prelude.{ℕ, List, codes, Option, Some, None}
use Rattle.engine.specs.declared.replies.Status.{Status}
use Rattle.engine.specs.declared.replies.Status.TheVariants as statuses
use Rattle.engine.specs.declared.replies.Verdict.{Verdict}
use Rattle.engine.specs.declared.replies.Verdict.TheVariants as verdicts

-- the exit status
abbrev pub code_of : Status → ℕ
code_of statuses.Good = 0
code_of statuses.Refused = 3
code_of statuses.NoMemory = 4
code_of statuses.CannotRead = 5
code_of statuses.CannotWrite = 5
code_of statuses.Differs = 6

-- what is written to standard error
abbrev pub complaint_of : Status → Option (List ℕ)
complaint_of statuses.CannotRead = Some (codes "cannot read")
complaint_of statuses.CannotWrite = Some (codes "cannot write")
complaint_of status = None

-- how a command ends whose answer was written
abbrev pub status_of : Verdict → Status
status_of verdicts.Good = statuses.Good
status_of verdicts.Refused = statuses.Refused
status_of verdicts.Differs = statuses.Differs
