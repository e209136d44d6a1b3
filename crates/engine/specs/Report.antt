-- What a command did, from its status: what it wrote, over what the writer held.
use Rattle.std.specs.Prelude.{◌≡◌, ℕ, List, [], ◌++◌, Option, ◌⊎◌}
use Rattle.std.specs.Option.{option_map_or}
use Rattle.std.specs.Io.KnownBytes.{Appends}
use Rattle.engine.specs.declared.replies.Status.{Status}
use Rattle.engine.specs.declared.replies.Status.TheVariants as statuses
use Rattle.engine.specs.declared.replies.AnswerText.{AnswerText}
use Rattle.engine.specs.declared.replies.Reply.{Reply}
use Rattle.engine.specs.Transfer.{AppendsBeginning}
use Rattle.engine.specs.Answer.{Answer}

-- a command says that a read failed only where the first is so, and that a write failed only where the second is
abbrev pub Failed : Status → Type 0 → Type 0 → Type 0
Failed statuses.Good read write = Unit {0}
Failed statuses.Refused read write = Unit {0}
Failed statuses.Differs read write = Unit {0}
Failed statuses.NoMemory read write = Unit {0}
Failed statuses.CannotRead read write = read
Failed statuses.CannotWrite read write = write

-- the text was written and this is the status, or the write broke off
abbrev pub Sends : Option (List ℕ) → Option (List ℕ) → Status → List ℕ → Status → Type 0
Sends old new got text wanted = ((got ≡ wanted) × Appends old new text) ⊎ ((got ≡ statuses.CannotWrite) × AppendsBeginning old new text)

-- what is to be written, and its verdict
abbrev pub answer_of : Reply → Answer
answer_of r = record { text = r.text.items; verdict = r.verdict }

-- all of the text of an answer
abbrev pub whole_text : AnswerText → List ℕ
whole_text t = option_map_or (λ s. t.bytes.now ++ s.now.left) t.state t.bytes.now
