-- The first page's example: one program, which replies 5.
use Rattle.std.specs.Prelude.{ℕ, List, [], codes, Some, None, bytes_eq, if◌then◌else◌}
use Rattle.engine.specs.declared.reading.MapSizes.TheVariants.{Standard}
use Rattle.engine.specs.declared.replies.Verdict.TheVariants as verdicts
use Rattle.engine.specs.Files.{Contents}
use Rattle.engine.specs.Answer.{Answer}
use Rattle.engine.specs.Reading.{Given}

abbrev pub five_manifest : List ℕ
five_manifest = codes "map array 8 16\nprogram five update 0 five.hex\n"

-- a folder with one file
abbrev pub five_folder : Contents
five_folder name = if bytes_eq (codes "five.hex") name then Some (codes "b7000000050000009500000000000000") else None

-- what there is to read
abbrev pub five_given : Given
five_given = record { sizes = Standard; manifest = five_manifest; folder = five_folder; file = []; state = []; history = [] }

-- what `check` answers
abbrev pub five_checked : Answer
five_checked = record { text = codes "five ok 2 2\n"; verdict = verdicts.Good }
