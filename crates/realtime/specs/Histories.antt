-- The lines of a history: when each call of a transcript began, and when it was back.
use Rattle.std.specs.Prelude.{ℕ, ◌+◌, ◌-◌, ◌*◌, ◌^◌, Bool, ◌&&◌, ◌||◌, not, List, [], ◌∷◌, ◌++◌, length, Option, Some, None, Result, Ok, Err, nat_lt, ◌==◌, if◌then◌else◌, slice_get}
use Rattle.std.specs.List.{list_any}
use Rattle.std.specs.Option.{option_map_or}
use Rattle.text.specs.Fields.{split_at_space}
use Rattle.text.specs.Words.{◌>>=◌, number_of, number_within}
use Rattle.realtime.specs.declared.histories.TheConstants.{SESSIONS}
use Rattle.realtime.specs.declared.histories.Timed.{Timed}

-- SESSION LINE BEGIN END, of a call of this rank
unfoldable pub timed_line : ℕ → List ℕ → Option Timed
timed_line rank text = do
  first ← split_at_space text
  second ← split_at_space first.1
  third ← split_at_space second.1
  session ← number_within 0 (SESSIONS - 1) first.0
  line ← number_within 1 (2 ^ 64 - 1) second.0
  begun ← number_of third.0
  ended ← number_of third.1
  Some (record { session = session; line = line; begun = begun; ended = ended; rank = rank })

-- one of the calls began or was back at this number
abbrev pub is_used : List Timed → ℕ → Bool
is_used calls x = list_any (λ call. (call.begun == x) || (call.ended == x)) calls

-- the call began before it was back, its numbers are below this one, and none of these calls has one of them
abbrev pub fits : ℕ → List Timed → Timed → Bool
fits numbers before call =
    nat_lt call.begun call.ended && (nat_lt call.ended numbers && (not (is_used before call.begun) && not (is_used before call.ended)))

-- the call of a line behind these, where there is one more call in the transcript and the line is good
unfoldable pub call_behind : List ℕ → List Timed → List ℕ → Option Timed
call_behind ranks before line = do
  rank ← slice_get ranks (length before)
  call ← timed_line rank line
  if fits (2 * length ranks) before call then Some call else None

-- the calls of a transcript, which has these ranks, behind those before; or the number of the first line that is bad or lacking
unfoldable pub calls_behind : List ℕ → List Timed → List (List ℕ) → Result (List Timed) ℕ
calls_behind ranks before [] = if length before == length ranks then Ok before else Err (length before + 1)
calls_behind ranks before (l ∷ ls) = option_map_or (λ call. calls_behind ranks (before ++ call ∷ []) ls) (call_behind ranks before l) (Err (length before + 1))
