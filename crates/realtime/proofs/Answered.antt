-- What is answered to a transcript and its history, from what was read.
use Rattle.std.proofs.Common.{◌≡◌, ℕ, List, Result, refl}
use Rattle.text.specs.Lines.{lines_of}
use Rattle.engine.specs.declared.replies.Verdict.TheVariants as verdicts
use Rattle.engine.specs.Answer.{Answer}
use Rattle.realtime.specs.Judging.{calls_of, timed}
use Rattle.realtime.specs.declared.histories.Timed.{Timed}
use Rattle.realtime.specs.Ranks.{ranks_of}
use Rattle.realtime.specs.TimedAnswer.{history_answer}

-- where the transcript is good, and this is read of the history
pub timed_by : (answer : Answer) (transcript history : List ℕ) (read : Result (List Timed) ℕ) → answer.verdict ≡ verdicts.Good
    → calls_of (ranks_of (lines_of transcript)) (lines_of history) ≡ read → history_answer answer read ≡ timed answer transcript history
timed_by answer transcript history read good is = rw (good, is) refl
