-- Sixteen counters: a program that adds one to a counter and replies it, and one that replies it.
use Rattle.std.specs.Prelude.{ℕ, List, [], codes, Some, None, bytes_eq, if◌then◌else◌}
use Rattle.engine.specs.declared.reading.MapSizes.TheVariants.{Standard}
use Rattle.engine.specs.declared.replies.Verdict.TheVariants as verdicts
use Rattle.engine.specs.Files.{Contents}
use Rattle.engine.specs.Answer.{Answer}
use Rattle.engine.specs.Reading.{Given}

abbrev pub counter_manifest : List ℕ
counter_manifest = codes "map array 8 16\nprogram bump update 4 bump.hex\nprogram peek read 4 peek.hex\n"

abbrev pub bump_file : List ℕ
bump_file = codes "bf12000000000000\n1851000000000000\n0000000000000000\n8500000001000000\n1500050000000000\n7906000000000000\n0706000001000000\n7b60000000000000\nbf60000000000000\n9500000000000000\nb7000000ffffffff\n9500000000000000\n"

abbrev pub peek_file : List ℕ
peek_file = codes "bf12000000000000\n1851000000000000\n0000000000000000\n8500000001000000\n1500020000000000\n7900000000000000\n9500000000000000\nb7000000ffffffff\n9500000000000000\n"

-- a folder with both programs
abbrev pub counter_folder : Contents
counter_folder name = if bytes_eq (codes "bump.hex") name then Some bump_file else if bytes_eq (codes "peek.hex") name then Some peek_file else None

-- what there is to read
abbrev pub counter_given : Given
counter_given = record { sizes = Standard; manifest = counter_manifest; folder = counter_folder; file = []; state = []; history = [] }

-- what `check` answers
abbrev pub counter_checked : Answer
counter_checked = record { text = codes "bump ok 12 11\npeek ok 9 8\n"; verdict = verdicts.Good }

-- counter 0 goes up twice and is read; there is no counter 16, and no program `nope`
abbrev pub counter_script : List ℕ
counter_script = codes "bump 00000000\nbump 00000000\npeek 00000000\nbump 10000000\nnope 00\n"

-- `counter_given` with the script
abbrev pub counter_calls : Given
counter_calls = record { sizes = Standard; manifest = counter_manifest; folder = counter_folder; file = counter_script; state = []; history = [] }

-- what `run` answers
abbrev pub counter_ran : Answer
counter_ran = record {
  text = codes "update 0 reply 1 steps 9\nupdate 1 reply 2 steps 9\nread 2 reply 2 steps 6\nupdate 2 reply 18446744073709551615 steps 6\nrefused S1\n";
  verdict = verdicts.Good;
}
