-- What a command wrote, over what the writer held, from what it made.
use Rattle.std.specs.Prelude.{◌≡◌, ◌⊎◌, ⊤, ℕ, List, Option, Some, None, Result, Ok, Err, MatchOption}
use Rattle.std.specs.Io.KnownBytes.{Appends, Keeps}
use Rattle.engine.specs.declared.replies.Notes.{Notes}
use Rattle.engine.specs.declared.replies.Status.{Status}
use Rattle.engine.specs.declared.replies.Status.TheVariants as statuses
use Rattle.engine.specs.declared.performing.Performed.{Performed}
use Rattle.engine.specs.declared.transfer.ReadFault.{ReadFault}
use Rattle.engine.specs.declared.transfer.ReadFault.TheVariants as faults
use Rattle.engine.specs.Transfer.{AppendsBeginning}
use Rattle.engine.specs.Texts.{no_memory_line}
use Rattle.engine.specs.Status.{status_of}
use Rattle.engine.specs.Answer.{Answer}
use Rattle.engine.specs.Reading.{Given, TextsRead, read}
use Rattle.engine.specs.Report.{Sends}

-- what was written of something that is so and has an answer: the answer, whose verdict is the status, or a
-- beginning of it; or that memory ran out; and nothing where a read failed
abbrev pub Reports : {M : Type 0} → (M → Answer) → (M → Type 0) → Option (List ℕ) → Option (List ℕ) → Status → Type 0
Reports answer Is old new statuses.NoMemory = Appends old new no_memory_line
Reports answer Is old new statuses.CannotRead = Keeps old new
Reports {M} answer Is old new statuses.CannotWrite = ((m : M) × Is m × AppendsBeginning old new (answer m).text) ⊎ AppendsBeginning old new no_memory_line
Reports {M} answer Is old new status = (m : M) × Is m × (status ≡ status_of (answer m).verdict) × Appends old new (answer m).text

-- this is so where an answer was written whole
abbrev pub IfAnswered : Status → Type 0 → Type 0
IfAnswered statuses.NoMemory P = ⊤
IfAnswered statuses.CannotRead P = ⊤
IfAnswered statuses.CannotWrite P = ⊤
IfAnswered status P = P

-- what was made, and what was told beside it, are of the same texts
abbrev pub AreOfSame : {M : Type 0} → (Option TextsRead → M → Type 0) → (Option TextsRead → Notes → Notes → Type 0)
    → Notes → Notes → M → Type 0
AreOfSame may_make may_tell old new m = (t : Option TextsRead) × may_make t m × may_tell t old new

-- `Reports`, but of what may be made of the texts that are read of these bytes, in a writer by what it holds
abbrev pub ReportsRead : {M W : Type 0} → (M → Answer) → (Option TextsRead → M → Type 0) → (W → Option (List ℕ)) → W → W → Status → Given → Type 0
ReportsRead answer may_make contents old new status g = Reports answer (may_make (read g)) (contents old) (contents new) status

-- `Reports`, but of what may be made of some texts, and what may be told of the same was told beside it
abbrev pub ReportsNoting : {M W : Type 0} → (M → Answer) → (Option TextsRead → M → Type 0) → (Option TextsRead → Notes → Notes → Type 0)
    → Notes → Notes → (W → Option (List ℕ)) → W → W → Status → Type 0
ReportsNoting answer may_make may_tell before after contents old new status =
    Reports answer (AreOfSame may_make may_tell before after) (contents old) (contents new) status

-- what is written where this was made
abbrev pub Writes : {M : Type 0} → (M → Answer) → Option (List ℕ) → Option (List ℕ) → Status → Result M ReadFault → Type 0
Writes answer old new got (Ok m) = Sends old new got (answer m).text (status_of (answer m).verdict)
Writes answer old new got (Err faults.NoMemory) = Sends old new got no_memory_line statuses.NoMemory
Writes answer old new got (Err faults.CannotRead) = (got ≡ statuses.CannotRead) × Keeps old new

-- ---- what is handed back too

-- what was written where no answer was written whole: that memory ran out, nothing where a read failed, or a beginning
abbrev pub BreaksOff : {M : Type 0} → (M → Answer) → (M → Type 0) → Option (List ℕ) → Option (List ℕ) → Status → Type 0
BreaksOff answer Is old new statuses.NoMemory = Appends old new no_memory_line
BreaksOff answer Is old new statuses.CannotRead = Keeps old new
BreaksOff {M} answer Is old new statuses.CannotWrite = ((m : M) × Is m × AppendsBeginning old new (answer m).text) ⊎ AppendsBeginning old new no_memory_line
BreaksOff answer Is old new status = ⊥

-- what is so was made and is handed back, all of its answer was written, and the status is its verdict; or nothing is handed back
abbrev pub Performs : {M : Type 0} → (M → Answer) → (M → Type 0) → Option (List ℕ) → Option (List ℕ) → Performed M → Type 0
Performs answer Is old new done =
    MatchOption done.made (BreaksOff answer Is old new done.status) (λ m. Is m × (done.status ≡ status_of (answer m).verdict) × Appends old new (answer m).text)

-- `Performs`, but of what may be made of the texts that are read of these bytes, in a writer by what it holds
abbrev pub PerformsRead : {M W : Type 0} → (M → Answer) → (Option TextsRead → M → Type 0) → (W → Option (List ℕ)) → W → W → Performed M → Given → Type 0
PerformsRead answer may_make contents old new done g = Performs answer (may_make (read g)) (contents old) (contents new) done

-- `Performs`, but of what may be made of some texts, and what may be told of the same was told beside it
abbrev pub PerformsNoting : {M W : Type 0} → (M → Answer) → (Option TextsRead → M → Type 0) → (Option TextsRead → Notes → Notes → Type 0)
    → Notes → Notes → (W → Option (List ℕ)) → W → W → Performed M → Type 0
PerformsNoting answer may_make may_tell before after contents old new done =
    Performs answer (AreOfSame may_make may_tell before after) (contents old) (contents new) done

-- what was made, where its answer was not broken off
abbrev pub handed_back : {M : Type 0} → Status → Result M ReadFault → Option M
handed_back statuses.CannotWrite made = None
handed_back status (Ok m) = Some m
handed_back status (Err fault) = None
