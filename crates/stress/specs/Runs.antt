-- What `stress` may make of what was read. Which of the transcripts it is depends on how the threads run.
use Rattle.std.specs.Prelude.{◌≡◌, Bool, List, [], Option, Some, None, MatchResult}
use Rattle.text.specs.Lines.{lines_of}
use Rattle.loader.specs.CatalogueView.{CatalogueView}
use Rattle.oplog.specs.declared.configuration.Config.{Config}
use Rattle.engine.specs.Answer.{Answer, not_text}
use Rattle.engine.specs.Reading.{TextsRead}
use Rattle.engine.specs.Report.{answer_of}
use Rattle.running.specs.RunAnswer.{bad_line, state_of}
use Rattle.engine.specs.Opening.{opening}
use Rattle.engine.specs.Sizes.{places_in}
use Rattle.stress.specs.declared.command.Stress.{Stress}
use Rattle.stress.specs.declared.stressed.Stressed.{Stressed}
use Rattle.stress.specs.Calls.{Called, script_calls}
use Rattle.stress.specs.Timed.{IsHistoryIf, AreCounted}
use Rattle.stress.specs.Transcripts.{IsTranscript, session_count}

-- a run of these calls by the sessions of a store of these sizes and this catalogue
pub record IsRun (config : Config) (timed : Bool) (c : CatalogueView) (calls : List Called) (s : Stressed) : Type 0 where
  pub transcript : IsTranscript config c calls (answer_of s.reply)
  -- a line for each line of the transcript, in its order, with the session that its call went to
  pub history : IsHistoryIf timed (session_count config) calls transcript.told s.history.items
  -- the state after the one history that is behind the transcript
  pub state : s.state ≡ Some (state_of c transcript.of_one.history)
  pub counts : AreCounted transcript.told s.counts

-- no call was made
pub record IsOnly (a : Answer) (s : Stressed) : Type 0 where
  pub answer : answer_of s.reply ≡ a
  pub history : s.history.items ≡ []
  pub state : s.state ≡ None
  pub counts : AreCounted [] s.counts

-- what `stress` may make of what was read, on a store of these sizes, with a history or without: the manifest is loaded, then the sizes are
-- judged, then the state is loaded, on which the catalogue opens, a new one where its text is empty; then the lines are judged, and the calls made
abbrev pub IsStressRun : Config → Bool → Option TextsRead → Stressed → Type 0
IsStressRun config timed None s = IsOnly not_text s
IsStressRun config timed (Some t) s =
    MatchResult (opening (places_in config) t)
    (λ c. MatchResult (script_calls c 1 (lines_of t.file)) (λ calls. IsRun config timed c calls s) (λ n. IsOnly (bad_line n) s)) (λ a. IsOnly a s)

-- what this command may make of them
abbrev pub MayMake : {R G C V : Type 0} → Stress R G C V → Option TextsRead → Stressed → Type 0
MayMake c t s = IsStressRun c.config c.has_history t s
