-- What `run` answers, and the state that it leaves, as functions of the manifest, its files, the script and the state's text that were read.
use Rattle.std.specs.Prelude.{ℕ, Bool, List, [], ◌∷◌, Option, Some, None, option_map, option_and_then, Result, Ok, Err, if◌then◌else◌}
use Rattle.std.specs.Option.{option_map_or}
use Rattle.text.specs.Lines.{lines_of}
use Rattle.loader.specs.StoreState.{StoreState}
use Rattle.loader.specs.CatalogueView.{CatalogueView}
use Rattle.oplog.specs.declared.configuration.TheConstants.{MAX_LIMIT}
use Rattle.oplog.specs.History.{History}
use Rattle.running.specs.declared.single_node.TheConstants.{RUN_PLACES}
use Rattle.running.specs.declared.runs.Kept.{Kept}
use Rattle.engine.specs.declared.parted.Destination.{Destination}
use Rattle.engine.specs.Answer.{Answer, not_text}
use Rattle.engine.specs.Reading.{TextsRead}
use Rattle.engine.specs.Opening.{long_opening}
use Rattle.running.specs.Signed.{signed_text}
use Rattle.running.specs.RunAnswer.{line_turn, lines_answer, state_of}
use Rattle.engine.specs.Report.{answer_of}
use Rattle.engine.specs.Parted.{PartedAnswer, sent_to, whole}
use Rattle.dumps.specs.Dumping.{dump}

-- ---- what lines leave

-- the history that the lines of a script leave, of so many records at most; none where one is bad
unfoldable pub lines_left : ℕ → CatalogueView → History → List (List ℕ) → Option History
lines_left limit c history [] = Some history
lines_left limit c history (l ∷ ls) = option_and_then (λ turn. lines_left limit c turn.history ls) (line_turn limit c history l)

-- ---- a run

-- what is written, and the state that is left
pub record KeptRun : Type 0 where
  pub answer : Answer
  pub state : Option StoreState

-- the lines of a script are run on a catalogue, and leave their state where all are good; what is answered in their place leaves none
abbrev pub script_kept : List ℕ → Result CatalogueView Answer → KeptRun
script_kept script (Ok c) = record {
  answer = lines_answer MAX_LIMIT c 1 [] (lines_of script);
  state = option_map (state_of c) (lines_left MAX_LIMIT c [] (lines_of script));
}
script_kept script (Err a) = record { answer = a; state = None }

-- what `run` answers to what was read, with signed numbers or without, and what it leaves: the manifest is loaded, then the state, then the lines are run
abbrev pub run_kept : Bool → Option TextsRead → KeptRun
run_kept is_signed None = record { answer = not_text; state = None }
run_kept is_signed (Some t) =
    let k = script_kept t.file (long_opening (Some RUN_PLACES) t) in
    if is_signed then record k { answer = record k.answer { text = signed_text k.answer.text } } else k

-- ---- a run whose state is dumped

-- with the text of its state, where it leaves one
abbrev pub with_dump : Destination → KeptRun → PartedAnswer
with_dump to k = option_map_or (λ state. sent_to to k.answer (dump state)) k.state (whole k.answer)

-- what is written of what was read, and what goes elsewhere
abbrev pub dumped_run : Bool → Destination → Option TextsRead → PartedAnswer
dumped_run is_signed to t = with_dump to (run_kept is_signed t)

-- ---- what was made

abbrev pub kept_of : Kept → KeptRun
kept_of k = record { answer = answer_of k.reply; state = k.state }
