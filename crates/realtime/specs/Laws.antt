-- What the definitions of a history say, in other words.
use Rattle.std.specs.Prelude.{◌≡◌, ◌≢◌, ◌↔◌, ℕ, ◌+◌, ◌*◌, ◌<◌, true, List, map, length, Some, slice_get, All, AllPairs, Contains}
use Rattle.realtime.specs.declared.histories.Timed.{Timed}
use Rattle.engine.specs.declared.replies.Verdict.TheVariants as verdicts
use Rattle.engine.specs.Answer.{Answer}
use Rattle.realtime.specs.Histories.{is_used}
use Rattle.realtime.specs.RealTime.{AreInTurn, InRealTime}
use Rattle.realtime.specs.TimedAnswer.{differing_history, calls_answer}

-- neither began nor was back at a number of the other
abbrev pub ShareNone : Timed → Timed → Type 0
ShareNone a b = (a.begun ≢ b.begun) × (a.begun ≢ b.ended) × (a.ended ≢ b.begun) × (a.ended ≢ b.ended)

-- the calls are those of a transcript in its order, each with two numbers of its own below twice their count, and that is all such numbers
pub record AreCalls (ranks : List ℕ) (calls : List Timed) : Type 0 where
  pub ranked : map (λ call. call.rank) calls ≡ ranks
  pub backs : All (λ call. call.begun < call.ended) calls
  pub below : All (λ call. call.ended < 2 * length ranks) calls
  pub once : AllPairs ShareNone calls
  pub each : (x : ℕ) → x < 2 * length ranks → is_used calls x ≡ true

-- the call of this index was back before another began that it stands behind
abbrev pub IsShown : List Timed → ℕ → Type 0
IsShown calls k = (a : Timed) × (b : Timed) × (slice_get calls k ≡ Some a) × Contains calls b × (a.ended < b.begun) × (b.rank < a.rank)

-- where the transcript is good, the answer is good just where each session makes its calls in turn and the calls are in the order of real time
abbrev pub GoodIsReal : Type 0
GoodIsReal = (answer : Answer) (calls : List Timed) → answer.verdict ≡ verdicts.Good → ((calls_answer answer calls).verdict ≡ verdicts.Good) ↔ (AreInTurn calls × InRealTime calls)

-- there, where the answer is that a line differs, it and another one show it
abbrev pub DiffersIsShown : Type 0
DiffersIsShown =
    (answer : Answer) (calls : List Timed) → answer.verdict ≡ verdicts.Good → (calls_answer answer calls).verdict ≡ verdicts.Differs
    → (k : ℕ) × (calls_answer answer calls ≡ differing_history (k + 1)) × IsShown calls k
