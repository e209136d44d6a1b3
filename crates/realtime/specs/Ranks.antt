-- Where the calls of a transcript stand.
use Rattle.std.specs.Prelude.{ℕ, ◌+◌, ◌*◌, Bool, true, false, List, map, count_by, filter_map, Option, Some, None, option_and_then}
use Rattle.verifier.specs.declared.refusal.Mode.TheVariants as modes
use Rattle.scripts.specs.Transcript.{TranscriptMeaning, Comment, Answered, Installed, Ended, EndedInstall, transcript_line_meaning}
use Rattle.realtime.specs.declared.ranks.Standing.{Standing}
use Rattle.realtime.specs.declared.ranks.Standing.TheVariants as stands

-- an update stands at its index in the history, a read behind the updates before its point, what has ended behind the history's end; a comment
-- is no call, and an install is an update
abbrev pub standing_of : TranscriptMeaning → Option Standing
standing_of Comment = None
standing_of (Answered mode call a) = Some (stands.At mode a.index)
standing_of (Installed program a) = Some (stands.At modes.Update a.index)
standing_of (Ended call) = Some stands.Ended
standing_of (EndedInstall program) = Some stands.Ended

abbrev pub is_update : Standing → Bool
is_update (stands.At modes.Update index) = true
is_update (stands.At modes.Read point) = false
is_update stands.Ended = false

-- a call's rank, in a history of so many updates: a read stands between the updates before its point and the others, what has ended behind all
abbrev pub rank_of : ℕ → Standing → ℕ
rank_of updates (stands.At modes.Update index) = 2 * index + 1
rank_of updates (stands.At modes.Read point) = 2 * point
rank_of updates stands.Ended = 2 * updates

-- the ranks of a transcript's calls, in the order of its lines
abbrev pub ranks_of : List (List ℕ) → List ℕ
ranks_of lines =
    let standings = filter_map (λ line. option_and_then standing_of (transcript_line_meaning line)) lines in
    map (rank_of (count_by is_update standings)) standings
