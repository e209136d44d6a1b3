-- A run that is cut in two: the second begins on the state that the first left.
use Rattle.std.specs.Prelude.{◌≡◌, ℕ, ◌+◌, ◌≤◌, false, List, [], ◌++◌, length, Some, option_map}
use Rattle.text.specs.Lines.{lines_of}
use Rattle.loader.specs.StoreState.{StoreState}
use Rattle.loader.specs.CatalogueView.{CatalogueView, IsCatalogue, opened_on}
use Rattle.dumps.specs.Dumping.{dump}
use Rattle.oplog.specs.History.{History}
use Rattle.oplog.specs.declared.configuration.TheConstants.{MAX_LIMIT}
use Rattle.replica.specs.declared.refusals.StoreRefused.{StoreRefused}
use Rattle.engine.specs.declared.replies.Verdict.TheVariants as verdicts
use Rattle.engine.specs.Answer.{Answer}
use Rattle.engine.specs.Reading.{TextsRead}
use Rattle.running.specs.RunAnswer.{update_text, read_text, install_text, refused_text, behind, bad_line, lines_answer, state_of}
use Rattle.running.specs.KeptRun.{KeptRun, lines_left, run_kept}

-- what a line writes in a run, and in one that begins so many updates later: the same, but that indexes are lower by these
pub data SameLine (before : ℕ) : List ℕ → List ℕ → Type 0 where
  nothing : SameLine before [] []
  refusal : (why : StoreRefused) → SameLine before (refused_text why) (refused_text why)
  update : (index reply steps : ℕ) → SameLine before (update_text (before + index) reply steps) (update_text index reply steps)
  read : (point reply steps : ℕ) → SameLine before (read_text (before + point) reply steps) (read_text point reply steps)
  install : (index reply : ℕ) → SameLine before (install_text (before + index) reply) (install_text index reply)

-- what lines write in both, one after the other, up to the same end: the last line, or a bad one
pub data SameLines (before : ℕ) : Answer → Answer → Type 0 where
  ends : SameLines before (record { text = []; verdict = verdicts.Good }) (record { text = []; verdict = verdicts.Good })
  bad : (n m : ℕ) → SameLines before (bad_line n) (bad_line m)
  line : (text text' : List ℕ) (a a' : Answer) → SameLine before text text' → SameLines before a a' → SameLines before (behind text a) (behind text' a')

-- Two runs are the parts of a whole one, where the first made so many updates. The whole writes what both do, but for indexes, and leaves what the
-- second does
pub record IsCut (before : ℕ) (first second whole : KeptRun) : Type 0 where
  pub rest : Answer
  pub writes : whole.answer ≡ behind first.answer.text rest
  pub replies : SameLines before rest second.answer
  pub leaves : whole.state ≡ second.state

-- what lines write on a catalogue, and what they leave
abbrev pub lines_kept : ℕ → CatalogueView → List (List ℕ) → KeptRun
lines_kept limit c ls = record { answer = lines_answer limit c 1 [] ls; state = option_map (state_of c) (lines_left limit c [] ls) }

-- Lines that are good may be cut from those that follow, if the history has room for these. The catalogue is then opened on the state that the
-- first left
abbrev pub LinesMayBeCut : Type 0
LinesMayBeCut =
    (limit : ℕ) (c : CatalogueView) (h : History) (ls ms : List (List ℕ)) → IsCatalogue c → lines_left limit c [] ls ≡ Some h → length h + length ms ≤ limit
    → IsCut (length h) (lines_kept limit c ls) (lines_kept limit (opened_on c (state_of c h)) ms) (lines_kept limit c (ls ++ ms))

-- the texts with another script, and with another script and the dump of a state
abbrev pub with_script : TextsRead → List ℕ → TextsRead
with_script t script = record t { file = script }

abbrev pub with_dump : TextsRead → List ℕ → StoreState → TextsRead
with_dump t script s = record t { file = script; state = dump s }

-- A script of `run` may be cut if its lines are at most the updates a history may have. The second part is run on the dump of what the first left
abbrev pub ScriptsMayBeCut : Type 0
ScriptsMayBeCut =
    (t : TextsRead) (whole first second : List ℕ) (s : StoreState) → lines_of whole ≡ lines_of first ++ lines_of second → length (lines_of whole) ≤ MAX_LIMIT
    → (run_kept false (Some (with_script t first))).state ≡ Some s
    → (before : ℕ) × IsCut before (run_kept false (Some (with_script t first))) (run_kept false (Some (with_dump t second s))) (run_kept false (Some (with_script t whole)))
