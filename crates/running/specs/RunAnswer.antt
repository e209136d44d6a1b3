-- What the lines of a script write, one after another.
use Rattle.std.specs.Prelude.{ℕ, List, [], ◌∷◌, ◌++◌, length, codes, decimal, Option, option_map, nat_lt, ◌==◌, if◌then◌else◌}
use Rattle.std.specs.Option.{option_map_or}
use Rattle.loader.specs.StoreState.{StoreState}
use Rattle.verifier.specs.declared.refusal.Mode.{Mode}
use Rattle.verifier.specs.declared.refusal.Mode.TheVariants.{Update, Read}
use Rattle.text.specs.Lines.{next_line}
use Rattle.loader.specs.CatalogueView.{CatalogueView, number_named}
use Rattle.oplog.specs.Calls.{Call as TheCall, NewProgram}
use Rattle.oplog.specs.Operations.{Operation}
use Rattle.oplog.specs.declared.records.Op.TheVariants.{Run, Install as AnInstall}
use Rattle.oplog.specs.History.{Effect, History, effect_at, read_at, state_after}
use Rattle.replica.specs.StoreMeaning.{program_at, store_meaning}
use Rattle.replica.specs.Refusals.{store_fault_number, early_refusal, install_refusal}
use Rattle.replica.specs.declared.refusals.StoreRefused.{StoreRefused}
use Rattle.replica.specs.declared.refusals.StoreRefused.TheVariants.{UnknownProgram, ArgumentLength, Ended, NotDecoded, NotAccepted}
use Rattle.engine.specs.declared.replies.Verdict.TheVariants as verdicts
use Rattle.engine.specs.Answer.{Answer}
use Rattle.scripts.specs.Script.{ProgramCall, Meaning, Comment, Call, InvokeAt, ReadAt, Install, line_meaning}
use Rattle.engine.specs.Texts.{decode_text, verify_text}

-- ---- the texts

-- an index in the history, and what the program replied there after how many steps
abbrev pub outcome_text : ℕ → ℕ → ℕ → List ℕ
outcome_text index reply steps = decimal index ++ (codes " reply " ++ (decimal reply ++ (codes " steps " ++ (decimal steps ++ codes "\n"))))

-- INDEX is the update's index in the history, POINT the number of updates before a read
abbrev pub update_text : ℕ → ℕ → ℕ → List ℕ
update_text index reply steps = codes "update " ++ outcome_text index reply steps

abbrev pub read_text : ℕ → ℕ → ℕ → List ℕ
read_text point reply steps = codes "read " ++ outcome_text point reply steps

-- INDEX is the install's index in the history, and the reply the number of its program
abbrev pub install_text : ℕ → ℕ → List ℕ
install_text index reply = codes "install " ++ (decimal index ++ (codes " reply " ++ (decimal reply ++ codes "\n")))

-- what a program breaks that is to be installed, and where
abbrev pub reason_text : StoreRefused → List ℕ
reason_text (NotDecoded e) = decode_text e
reason_text (NotAccepted e) = verify_text e
reason_text why = []

-- the number of the refusal, S1 to S8, and the reason if it has one
abbrev pub refused_text : StoreRefused → List ℕ
refused_text why = codes "refused S" ++ (decimal (store_fault_number why) ++ (reason_text why ++ codes "\n"))

-- ---- one call

-- what a call writes, and the history after it
pub record Turn : Type 0 where
  pub text : List ℕ
  pub history : History

-- a call that is refused leaves the history
abbrev pub refused : History → StoreRefused → Turn
refused history why = record { text = refused_text why; history = history }

-- the history with one more operation; all are by one author
abbrev pub with_operation : History → Operation → History
with_operation history op = history ++ record { author = 0; seq = length history; op = op } ∷ []

-- the state after the whole of a history
abbrev pub state_of : CatalogueView → History → StoreState
state_of c h = state_after store_meaning c h (length h)

-- ---- a script

-- with this text before
abbrev pub behind : List ℕ → Answer → Answer
behind text a = record { text = text ++ a.text; verdict = a.verdict }

-- the bad line behind which nothing is run
abbrev pub bad_line : ℕ → Answer
bad_line n = record { text = codes "line " ++ (decimal n ++ codes " bad\n"); verdict = verdicts.Refused }

-- on a history that has so many records at most
module _ (limit : ℕ) where
  -- an update has the line of its effect, and stands in the history from then on, unless that has all its records; without an effect nothing
  -- would be written (`run_lines_are_runs`: each has one)
  abbrev pub submitted : (ℕ → Effect StoreState → List ℕ) → CatalogueView → History → Operation → Turn
  submitted line c history op =
      if nat_lt (length history) limit
      then record {
        text = option_map_or (line (length history)) (effect_at store_meaning c history (length history) op) [];
        history = with_operation history op;
      }
      else refused history Ended

  -- a read leaves the history
  abbrev pub performed : CatalogueView → History → Operation → Mode → Turn
  performed c history op Update = submitted (λ index e. update_text index e.reply e.steps) c history op
  performed c history op Read = record {
    text = option_map_or (λ e. read_text (length history) e.reply e.steps) (read_at store_meaning c history (length history) op) [];
    history = history;
  }

  -- what a call of program k does, in the program's own mode
  abbrev pub numbered : CatalogueView → History → List ℕ → ℕ → Turn
  numbered c history argument k =
      option_map_or (λ program.
      if length argument == program.arg_len
      then performed c history (Run (record { program = k; argument = argument })) program.mode
      else refused history ArgumentLength) (program_at c k) (refused history UnknownProgram)

  -- what a call does on a history, by the number of its name
  unfoldable pub called : CatalogueView → History → ProgramCall → Turn
  called c history call = option_map_or (numbered c history call.argument) (number_named c.programs call.name) (refused history UnknownProgram)

  -- what a call by a program's number does, as an update or as a read; and an install
  abbrev pub asked : CatalogueView → History → Mode → TheCall → Turn
  asked c history mode call = option_map_or (refused history) (early_refusal c mode call.program call.argument) (performed c history (Run call) mode)

  abbrev pub installed : CatalogueView → History → NewProgram → Turn
  installed c history new = option_map_or (refused history) (install_refusal c.shapes c.long new) (submitted (λ index e. install_text index e.reply) c history (AnInstall new))

  -- by what the line says
  abbrev pub taken : CatalogueView → History → Meaning → Turn
  taken c history Comment = record { text = []; history = history }
  taken c history (Call call) = called c history call
  taken c history (InvokeAt call) = asked c history Update call
  taken c history (ReadAt call) = asked c history Read call
  taken c history (Install new) = installed c history new

  -- what a line does; `None` where it is bad
  unfoldable pub line_turn : CatalogueView → History → List ℕ → Option Turn
  line_turn c history line = option_map (taken c history) (line_meaning line)

  -- what the lines from number n on write, on a history; a bad line ends the run
  unfoldable pub lines_answer : CatalogueView → ℕ → History → List (List ℕ) → Answer
  lines_answer c n history [] = record { text = []; verdict = verdicts.Good }
  lines_answer c n history (l ∷ ls) =
      option_map_or (λ turn. behind turn.text (lines_answer c (next_line n) turn.history ls)) (line_turn c history l) (bad_line n)
