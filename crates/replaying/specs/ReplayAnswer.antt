-- What `replay` answers, as a function of the manifest, the files, the transcript and the state that were read.
use Rattle.std.specs.Option.{option_map_or}
use Rattle.std.specs.Prelude.{ℕ, ◌+◌, ◌-◌, ◌^◌, min, Bool, false, ◌&&◌, List, [], ◌∷◌, ◌++◌, length, codes, decimal, Option, Some, None, option_and_then, Result, Ok, Err, nat_lt, ◌==◌, if◌then◌else◌}
use Rattle.verifier.specs.declared.refusal.Mode.{Mode}
use Rattle.verifier.specs.declared.refusal.Mode.TheVariants.{Update, Read}
use Rattle.text.specs.Lines.{lines_of, next_line}
use Rattle.loader.specs.CatalogueView.{CatalogueView, number_named}
use Rattle.oplog.specs.Calls.{NewProgram}
use Rattle.oplog.specs.Operations.{Operation}
use Rattle.oplog.specs.declared.records.Op.TheVariants.{Run, Install}
use Rattle.oplog.specs.declared.configuration.TheConstants.{MAX_LIMIT}
use Rattle.oplog.specs.History.{History, reply_at, read_reply_at}
use Rattle.replica.specs.StoreMeaning.{store_meaning}
use Rattle.replica.specs.Refusals.{early_refusal, install_refusal}
use Rattle.replica.specs.declared.refusals.StoreRefused.{StoreRefused}
use Rattle.engine.specs.declared.replies.Verdict.TheVariants as verdicts
use Rattle.engine.specs.Answer.{Answer, not_text}
use Rattle.scripts.specs.Script.{ProgramKey, Named, Numbered, KeyedCall}
use Rattle.scripts.specs.Transcript.{TranscriptMeaning, Comment, Answered, Installed, Ended, EndedInstall, transcript_line_meaning}
use Rattle.running.specs.RunAnswer.{bad_line, with_operation}
use Rattle.engine.specs.Reading.{TextsRead}
use Rattle.engine.specs.Opening.{opening, places_within}

-- ---- the texts

-- the numbers of updates, of reads, and of updates that were told that the history has ended
abbrev pub good_text : ℕ → ℕ → ℕ → List ℕ
good_text updates reads ended = codes "good " ++ (decimal updates ++ (codes " " ++ (decimal reads ++ (codes " " ++ (decimal ended ++ codes "\n")))))

-- ---- one line

-- what was replayed: the updates in their order, how many reads there were, and how many updates after the history's end
pub record Replayed : Type 0 where
  pub history : History
  pub reads : ℕ
  pub ended : ℕ

-- the line is bad, or it tells something else than the operation does, or it agrees
pub data LineOutcome : Type 0 where
  Bad : LineOutcome
  Differs : LineOutcome
  Agrees : Replayed → LineOutcome

-- one more, as far as 64 bits go
abbrev pub next_count : ℕ → ℕ
next_count n = min (n + 1) (2 ^ 64 - 1)

-- the number of the program that a line names: one of the catalogue's by its name, or one behind these
abbrev pub number_told : CatalogueView → ProgramKey → Option ℕ
number_told c (Named name) = number_named c.programs name
number_told c (Numbered k) = if nat_lt k (length c.programs) then None else Some k

-- x, unless it is refused
abbrev pub unless_barred : {X : Type 0} → X → Option StoreRefused → Option X
unless_barred x None = Some x
unless_barred x (Some why) = None

-- the operation that is called, and that of an install: one that a session could ask for
abbrev pub operation_of : CatalogueView → Mode → KeyedCall → Option Operation
operation_of c mode call =
    option_and_then (λ k. unless_barred (Run (record { program = k; argument = call.argument })) (early_refusal c mode k call.argument)) (number_told c call.key)

abbrev pub install_of : CatalogueView → NewProgram → Option Operation
install_of c new = unless_barred (Install new) (install_refusal c.shapes c.long new)

-- the update has the next index of a history, and this reply there
abbrev pub update_agrees : CatalogueView → History → Operation → ℕ → ℕ → Bool
update_agrees c h op index reply = (index == length h) && (nat_lt (length h) MAX_LIMIT && option_map_or (λ r. r == reply) (reply_at store_meaning c h (length h) op) false)

-- the read has the end of the history as its point, and this reply there
abbrev pub read_agrees : CatalogueView → History → Operation → ℕ → ℕ → Bool
read_agrees c h op point reply = (point == length h) && option_map_or (λ r. r == reply) (read_reply_at store_meaning c h (length h) op) false

abbrev pub with_update : Replayed → Operation → Replayed
with_update at op = record at { history = with_operation at.history op }

-- an update stands in the history from then on; a read leaves it
abbrev pub compared : CatalogueView → Replayed → Mode → ℕ → ℕ → Operation → LineOutcome
compared c at Update index reply op = if update_agrees c at.history op index reply then Agrees (with_update at op) else Differs
compared c at Read index reply op = if read_agrees c at.history op index reply then Agrees (record at { reads = next_count at.reads }) else Differs

-- an update that was told that the history has ended changes nothing
abbrev pub ended_outcome : Replayed → Option Operation → LineOutcome
ended_outcome at asked = option_map_or (λ op. Agrees (record at { ended = next_count at.ended })) asked Bad

-- by what the line says: a call that names no operation makes it bad, whatever it tells; an install is an update
abbrev pub told : CatalogueView → Replayed → Option TranscriptMeaning → LineOutcome
told c at None = Bad
told c at (Some Comment) = Agrees at
told c at (Some (Answered mode call a)) = option_map_or (compared c at mode a.index a.reply) (operation_of c mode call) Bad
told c at (Some (Installed new a)) = option_map_or (compared c at Update a.index a.reply) (install_of c new) Bad
told c at (Some (Ended call)) = ended_outcome at (operation_of c Update call)
told c at (Some (EndedInstall new)) = ended_outcome at (install_of c new)

unfoldable pub line_outcome : CatalogueView → Replayed → List ℕ → LineOutcome
line_outcome c at line = told c at (transcript_line_meaning line)

-- ---- a transcript

abbrev pub good_answer : Replayed → Answer
good_answer at = record { text = good_text (length at.history) at.reads at.ended; verdict = verdicts.Good }

-- the line whose index or reply is another
abbrev pub differing_line : ℕ → Answer
differing_line n = record { text = codes "line " ++ (decimal n ++ codes " differs\n"); verdict = verdicts.Differs }

abbrev pub by_outcome : ℕ → (Replayed → Answer) → LineOutcome → Answer
by_outcome n next Bad = bad_line n
by_outcome n next Differs = differing_line n
by_outcome n next (Agrees at) = next at

-- the first line that does not agree ends the replay; where all do, they are counted
unfoldable pub transcript_answer : CatalogueView → ℕ → Replayed → List (List ℕ) → Answer
transcript_answer c n at [] = good_answer at
transcript_answer c n at (l ∷ ls) = by_outcome n (λ next. transcript_answer c (next_line n) next ls) (line_outcome c at l)

abbrev pub nothing_replayed : Replayed
nothing_replayed = record { history = []; reads = 0; ended = 0 }

-- what is answered to a transcript on a catalogue, unless this is answered in its place
abbrev pub replayed_on : List ℕ → Result CatalogueView Answer → Answer
replayed_on transcript (Ok c) = transcript_answer c 1 nothing_replayed (lines_of transcript)
replayed_on transcript (Err a) = a

-- what `replay` answers to what was read: the manifest is loaded, then the places are judged, then the state is loaded, then the lines are
-- replayed
abbrev pub replay_answer : ℕ → Option TextsRead → Answer
replay_answer spare None = not_text
replay_answer spare (Some t) = replayed_on t.file (opening (places_within spare) t)
