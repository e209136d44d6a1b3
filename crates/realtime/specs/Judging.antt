-- What is kept while a history is judged. Clauses of private functions alone cite this.
use Rattle.std.specs.Prelude.{◌≡◌, ◌≢◌, ◌⊎◌, ℕ, ◌-◌, ◌*◌, ◌^◌, ◌<◌, ◌≤◌, Bool, true, false, List, [], ◌∷◌, ◌++◌, length, Option, Some, None, Result, filter_map, option_and_then, slice_index, slice_index_or, All, AllPairs, Contains}
use Rattle.realtime.specs.declared.histories.Timed.{Timed}
use Rattle.realtime.specs.declared.histories.Taken.{Taken}
use Rattle.realtime.specs.declared.orders.Turns.{Turns}
use Rattle.scripts.specs.Transcript.{transcript_line_meaning}
use Rattle.realtime.specs.declared.ranks.Standing.{Standing}
use Rattle.text.specs.Lines.{lines_of}
use Rattle.engine.specs.Answer.{Answer}
use Rattle.realtime.specs.TimedAnswer.{history_answer, where_good}
use Rattle.realtime.specs.Ranks.{ranks_of, standing_of}
use Rattle.realtime.specs.Histories.{calls_behind, is_used}
use Rattle.realtime.specs.RealTime.{is_out_of_turn}

-- what becomes of the answer to a transcript, by its history
abbrev pub timed : Answer → List ℕ → List ℕ → Answer
timed answer transcript history = where_good answer.verdict answer (history_answer answer (calls_behind (ranks_of (lines_of transcript)) [] (lines_of history)))

-- ---- reading

-- where the lines of a transcript stand that are calls, in their order
abbrev pub standings_of : List (List ℕ) → List Standing
standings_of lines = filter_map (λ line. option_and_then standing_of (transcript_line_meaning line)) lines

-- the calls of all lines of a history
abbrev pub calls_of : List ℕ → List (List ℕ) → Result (List Timed) ℕ
calls_of ranks lines = calls_behind ranks [] lines

-- each number is marked with whether one of the calls uses it
abbrev pub HasUsed : Taken → Type 0
HasUsed t = (x : ℕ) → x < length t.used.items → slice_index_or t.used.items x false ≡ is_used t.calls.items x

-- the lines so far were taken, of a history of a transcript with these ranks
pub record HasTaken (ranks : List ℕ) (t : Taken) : Type 0 where
  pub numbers : length t.used.items ≡ 2 * length ranks
  pub few : length t.calls.items ≤ length ranks
  pub used : HasUsed t

-- the call was taken, or it was told that there is none
abbrev pub TakesCall : List ℕ → Taken → Taken → Option Timed → Bool → Type 0
TakesCall ranks old new None told = (told ≡ false) × (new ≡ old)
TakesCall ranks old new (Some call) told = (told ≡ true) × (new.calls.items ≡ old.calls.items ++ call ∷ []) × HasTaken ranks new

-- ---- the calls of a history that was read

-- each call began before it was back, below this number, on a line of a script; no two began at one number
pub record AreGood (numbers : ℕ) (calls : List Timed) : Type 0 where
  pub backs : All (λ call. call.begun < call.ended) calls
  pub below : All (λ call. call.ended < numbers) calls
  pub lines : All (λ call. 0 < call.line) calls
  pub sessions : All (λ call. call.session < 256) calls
  pub apart : AllPairs (λ a b. a.begun ≢ b.begun) calls

-- at each number the index of the call that begins there, if one does, of the first so many calls
pub record AreBeginnings (calls : List Timed) (upto : ℕ) (begins : List ℕ) : Type 0 where
  pub found : (k : ℕ) (d : Timed) → k < upto → slice_index begins (slice_index_or calls k d).begun ≡ k
  pub only : (x : ℕ) (d : Timed) → x < length begins → slice_index begins x < length calls → (slice_index_or calls (slice_index begins x) d).begun ≡ x

-- the calls are good, and at each number below the length stands the index of the call that begins there
pub record AreBegun (calls : List Timed) (begins : List ℕ) : Type 0 where
  pub good : AreGood (length begins) calls
  pub all : AreBeginnings calls (length calls) begins

-- for each session the greatest of these measures of its calls that began before a number; 0 where there is none
pub record AreGreatest (calls : List Timed) (measure : Timed → ℕ) (upto : ℕ) (greatest : List ℕ) : Type 0 where
  pub most : (a : Timed) → Contains calls a → a.begun < upto → measure a ≤ slice_index greatest a.session
  pub some : (s : ℕ) → s < length greatest → (slice_index greatest s ≡ 0) ⊎ ((a : Timed) × Contains calls a × (a.session ≡ s) × (a.begun < upto) × (measure a ≡ slice_index greatest s))

-- what is kept of each session's calls that began before a number
pub record AreTurns (calls : List Timed) (upto : ℕ) (turns : Turns) : Type 0 where
  pub ended : AreGreatest calls (λ call. call.ended) upto turns.ended
  pub line : AreGreatest calls (λ call. call.line) upto turns.line
  pub sessions : (length turns.ended ≡ 256) × (length turns.line ≡ 256)

-- the call is the only one of the calls that begins at its number
pub record IsOnly (calls : List Timed) (call : Timed) : Type 0 where
  pub one : Contains calls call
  pub only : (a : Timed) → Contains calls a → a.begun ≡ call.begun → a ≡ call
  pub session : call.session < 256
  pub line : 0 < call.line

-- the first line of these that is out of turn, of the calls that began before a number; as many as there are calls where none is
pub record IsFirstOut (calls : List Timed) (upto first : ℕ) : Type 0 where
  pub within : first ≤ length calls
  pub least : (k : ℕ) (d : Timed) → k < length calls → (slice_index_or calls k d).begun < upto → is_out_of_turn calls (slice_index_or calls k d) ≡ true → first ≤ k
  pub is : (d : Timed) → first < length calls → is_out_of_turn calls (slice_index_or calls first d) ≡ true

-- at each number the rank of a call that began there or later, and from this number on the least of them; a rank that no call has where there is none
pub record AreLeast (calls : List Timed) (from : ℕ) (least : List ℕ) : Type 0 where
  pub low : (x : ℕ) (b : Timed) → Contains calls b → from ≤ x → x ≤ b.begun → slice_index least x ≤ b.rank
  pub some : (x : ℕ) → x < length least → (slice_index least x ≡ 2 ^ 128 - 1) ⊎ ((b : Timed) × Contains calls b × (x ≤ b.begun) × (b.rank ≡ slice_index least x))
