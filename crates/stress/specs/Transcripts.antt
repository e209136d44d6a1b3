-- The transcripts that `stress` may write. Which of them it is depends on how the threads run.
use Rattle.std.specs.Prelude.{◌≡◌, ℕ, ◌*◌, ◌<◌, true, List, map}
use Rattle.std.specs.List.{All}
use Rattle.std.specs.List.Sorted.{IsPermutation}
use Rattle.loader.specs.CatalogueView.{CatalogueView}
use Rattle.oplog.specs.declared.configuration.Config.{Config}
use Rattle.oplog.specs.Limits.{IsConfig}
use Rattle.engine.specs.declared.replies.Verdict.TheVariants as verdicts
use Rattle.engine.specs.Answer.{Answer}
use Rattle.stress.specs.Calls.{Called, told_as}
use Rattle.stress.specs.Dealt.{dealt_to, share_of}
use Rattle.stress.specs.Lines.{ToldCall, suits, AreOrdered, AreSteady, at_rank, transcript_text}
use Rattle.stress.specs.OneHistory.{IsOfOneHistory}

-- how many sessions a store of these sizes has
abbrev pub session_count : Config → ℕ
session_count config = config.nodes * config.slots

-- a transcript of these calls by the sessions of a store of these sizes and this catalogue
pub record IsTranscript (config : Config) (c : CatalogueView) (calls : List Called) (a : Answer) : Type 0 where
  -- what the sessions were told, one behind the other: each made the calls that are dealt to it, in their order
  pub asked : List ToldCall
  pub in_turn : map (λ t. t.call) asked ≡ dealt_to (session_count config) calls
  pub suited : All (λ t. suits (told_as t.call.asked) t.said ≡ true) asked
  -- a session's answers have their lines in the order of its calls
  pub steady : (k : ℕ) → k < session_count config → AreSteady (share_of (session_count config) k calls asked)
  -- the answered calls in the order of their lines, which are what is written
  pub told : List ToldCall
  pub same : IsPermutation asked told
  pub ordered : AreOrdered told
  -- the calls of one rank are session by session, and those of one session in its order
  pub by_session : (r : ℕ) → at_rank r told ≡ at_rank r asked
  pub is : a ≡ record { text = transcript_text c told; verdict = verdicts.Good }
  -- and one history is behind all lines
  pub of_one : IsOfOneHistory c config.limit told

-- so the lines are the calls of the script, each once
abbrev pub EachCallHasOneLine : Type 0
EachCallHasOneLine =
    (config : Config) (c : CatalogueView) (calls : List Called) (a : Answer) → IsConfig config → (t : IsTranscript config c calls a) → IsPermutation calls (map (λ t. t.call) t.told)
