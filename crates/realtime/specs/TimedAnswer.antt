-- What `replay --history` answers, as a function of the manifest, the files, the transcript, the state and the history that were read.
use Rattle.std.specs.Option.{option_map_or}
use Rattle.std.specs.Prelude.{ℕ, ◌+◌, List, [], ◌++◌, codes, decimal, Option, Some, None, Result, Ok, Err}
use Rattle.text.specs.Lines.{lines_of}
use Rattle.engine.specs.declared.replies.Verdict.{Verdict}
use Rattle.engine.specs.declared.replies.Verdict.TheVariants as verdicts
use Rattle.engine.specs.Answer.{Answer, not_text}
use Rattle.engine.specs.Reading.{TextsRead}
use Rattle.replaying.specs.ReplayAnswer.{replay_answer}
use Rattle.realtime.specs.declared.histories.Timed.{Timed}
use Rattle.realtime.specs.Histories.{calls_behind}
use Rattle.realtime.specs.RealTime.{first_out_of_turn, first_misplaced}
use Rattle.realtime.specs.Ranks.{ranks_of}

-- a line of the history is bad, or there is none of this number
abbrev pub bad_history : ℕ → Answer
bad_history n = record { text = codes "history line " ++ (decimal n ++ codes " bad\n"); verdict = verdicts.Refused }

-- the call of a line of the history was back before another began, but stands behind it
abbrev pub differing_history : ℕ → Answer
differing_history n = record { text = codes "history line " ++ (decimal n ++ codes " differs\n"); verdict = verdicts.Differs }

-- first each session must make its calls in turn, then the calls must stand in the order of real time
abbrev pub calls_answer : Answer → List Timed → Answer
calls_answer answer calls =
    option_map_or (λ k. bad_history (k + 1)) (first_out_of_turn calls) (option_map_or (λ k. differing_history (k + 1)) (first_misplaced calls) answer)

-- the lines are read before
abbrev pub history_answer : Answer → Result (List Timed) ℕ → Answer
history_answer answer (Ok calls) = calls_answer answer calls
history_answer answer (Err n) = bad_history n

-- an answer to a transcript that isn't good is the whole answer
abbrev pub where_good : Verdict → Answer → Answer → Answer
where_good verdicts.Good answer judged = judged
where_good verdicts.Refused answer judged = answer
where_good verdicts.Differs answer judged = answer

-- what `replay --history` answers to what was read: the transcript is replayed, then the history is judged
abbrev pub timed_answer : ℕ → Option TextsRead → Answer
timed_answer spare None = not_text
timed_answer spare (Some t) =
    let answer = replay_answer spare (Some t) in
    where_good answer.verdict answer (history_answer answer (calls_behind (ranks_of (lines_of t.file)) [] (lines_of t.history)))
