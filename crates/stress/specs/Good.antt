-- What `replay` answers to the transcripts that `stress` may write.
use Rattle.std.specs.Prelude.{◌≡◌, ◌-◌, ◌^◌, min, Bool, List, Some, Ok, option_map}
use Rattle.text.specs.Lines.{lines_of}
use Rattle.loader.specs.CatalogueView.{CatalogueView}
use Rattle.oplog.specs.declared.configuration.Config.{Config}
use Rattle.engine.specs.declared.replies.Verdict.TheVariants as verdicts
use Rattle.engine.specs.Answer.{Answer}
use Rattle.engine.specs.Opening.{opening}
use Rattle.engine.specs.Reading.{Given, read}
use Rattle.engine.specs.Sizes.{places_in}
use Rattle.replaying.specs.ReplayAnswer.{good_text, replay_answer}
use Rattle.stress.specs.declared.stressed.Stressed.{Stressed}
use Rattle.stress.specs.declared.watching.Counts.{Counts}
use Rattle.stress.specs.Calls.{Called, script_calls}
use Rattle.stress.specs.Runs.{IsRun, IsStressRun}

-- all lines agree: so many updates and installs, reads, and calls behind the end, as far as 64 bits go
abbrev pub good_of : Counts → Answer
good_of counts = record { text = good_text counts.updates (min counts.reads (2 ^ 64 - 1)) (min counts.ended (2 ^ 64 - 1)); verdict = verdicts.Good }

-- the script's calls were made on what the manifest and the state open; and to the same with the transcript in place of the script `replay`
-- answers, with as many places, that all lines agree
pub record IsFoundGood (config : Config) (timed : Bool) (g : Given) (s : Stressed) : Type 0 where
  pub opened : CatalogueView
  pub opens : option_map (opening (places_in config)) (read g) ≡ Some (Ok opened)
  pub calls : List Called
  pub asked : script_calls opened 1 (lines_of g.file) ≡ Ok calls
  pub run : IsRun config timed opened calls s
  pub good : replay_answer config.spare (read (record g { file = s.reply.text.items })) ≡ good_of s.counts

-- what `stress` may make of what is given, if its answer is good
abbrev pub TranscriptsAreGood : Type 0
TranscriptsAreGood =
    (config : Config) (timed : Bool) (g : Given) (s : Stressed) → IsStressRun config timed (read g) s → s.reply.verdict ≡ verdicts.Good → IsFoundGood config timed g s
