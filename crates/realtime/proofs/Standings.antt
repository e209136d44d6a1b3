-- Where the calls of a transcript stand.
use Rattle.std.proofs.Common.{◌≡◌, ℕ, List, [], ◌++◌, Option}
use Rattle.std.specs.Prelude.{option_and_then}
use Rattle.std.proofs.lemmas.List.{append-nil}
use Rattle.realtime.specs.declared.ranks.Standing.{Standing}
use Rattle.realtime.specs.Judging.{standings_of}
use Rattle.realtime.specs.Ranks.{standing_of}
use Rattle.scripts.specs.Transcript.{transcript_line_meaning}

-- where the call of a line stands
abbrev pub line_standing : List ℕ → Option Standing
line_standing line = option_and_then standing_of (transcript_line_meaning line)

pub all_here : (lines : List (List ℕ)) (before : List Standing) → lines ≡ [] → before ++ standings_of lines ≡ before
all_here lines before e = rw e (append-nil before)
