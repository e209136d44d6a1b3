-- What is kept while a transcript is replayed. Clauses of private functions alone cite this.
use Rattle.std.specs.Prelude.{◌≡◌, ℕ, Bool, true, false, List, [], Option, Some}
use Rattle.std.specs.Option.{option_map_or}
use Rattle.verifier.specs.declared.refusal.Mode.{Mode}
use Rattle.verifier.specs.declared.refusal.Mode.TheVariants.{Update, Read}
use Rattle.loader.specs.CatalogueView.{CatalogueView}
use Rattle.oplog.specs.Calls.{NewProgram}
use Rattle.oplog.specs.Operations.{Operation}
use Rattle.oplog.specs.Logs.{tail_of}
use Rattle.oplog.specs.History.{History}
use Rattle.oplog.specs.declared.configuration.TheConstants.{MAX_LIMIT}
use Rattle.replaying.specs.declared.lines.Due.{Due}
use Rattle.replaying.specs.declared.lines.Replaying.{Replaying}
use Rattle.replaying.specs.declared.lines.LineVerdict.{LineVerdict}
use Rattle.replaying.specs.declared.lines.LineVerdict.TheVariants as lines
use Rattle.replaying.specs.declared.lines.ReplayEnd.{ReplayEnd}
use Rattle.replaying.specs.declared.lines.ReplayEnd.TheVariants as ends
use Rattle.engine.specs.declared.replies.Verdict.{Verdict}
use Rattle.engine.specs.declared.replies.Verdict.TheVariants as verdicts
use Rattle.running.specs.Running.{Follows}
use Rattle.engine.specs.Answer.{Answer}
use Rattle.scripts.specs.Script.{KeyedCall}
use Rattle.scripts.specs.declared.transcripts.ToldReply.{ToldReply}
use Rattle.running.specs.RunAnswer.{bad_line}
use Rattle.replaying.specs.Noted.{due_at, due_text, line_due}
use Rattle.replaying.specs.ReplayAnswer.{Replayed, LineOutcome, Bad, Differs, Agrees, compared, differing_line, good_text, install_of, operation_of, update_agrees, read_agrees, with_update, next_count}

-- so much was replayed
pub record HasReplayed (c : CatalogueView) (at : Replayed) (r : Replaying) : Type 0 where
  pub placed : Follows MAX_LIMIT c at.history r.node
  pub reads : r.reads ≡ at.reads
  pub ended : r.ended ≡ at.ended

-- what a call that was answered, and an install, is found to be
abbrev pub answered_outcome : CatalogueView → Replayed → Mode → KeyedCall → ToldReply → LineOutcome
answered_outcome c at mode call a = option_map_or (compared c at mode a.index a.reply) (operation_of c mode call) Bad

abbrev pub installed_outcome : CatalogueView → Replayed → NewProgram → ToldReply → LineOutcome
installed_outcome c at new a = option_map_or (compared c at Update a.index a.reply) (install_of c new) Bad

-- whether a call agrees was told, and where it does so much is replayed
pub record IsCompared (c : CatalogueView) (agrees : Bool) (next : Replayed) (answer : Bool) (r : Replaying) : Type 0 where
  pub told : answer ≡ agrees
  pub goes_on : agrees ≡ true → HasReplayed c next r

-- whether a call of this mode has this index and this reply in a history, and what is replayed where it has
abbrev pub call_agrees : CatalogueView → Mode → History → Operation → ℕ → ℕ → Bool
call_agrees c Update h op index reply = update_agrees c h op index reply
call_agrees c Read h op index reply = read_agrees c h op index reply

abbrev pub with_call : Mode → Replayed → Operation → Replayed
with_call Update at op = with_update at op
with_call Read at op = record at { reads = next_count at.reads }

-- after whatever was replayed before: whether this operation has the index and the reply that its call tells, and what is replayed then
abbrev pub Compares : CatalogueView → Mode → Operation → (index reply : ℕ) → Replaying → Bool → Replaying → Type 0
Compares c mode op index reply old answer new = (at : Replayed) → HasReplayed c at old → IsCompared c (call_agrees c mode at.history op index reply) (with_call mode at op) answer new

-- after whatever was replayed before, that is it
abbrev pub TellsWhatIsDue : CatalogueView → Mode → Operation → Replaying → Due → Type 0
TellsWhatIsDue c mode op old due = (at : Replayed) → HasReplayed c at old → due ≡ due_at c mode at.history op

-- what a line does was told, and where it agrees so much is replayed
abbrev pub LineReplayed : CatalogueView → LineOutcome → LineVerdict → Replaying → Type 0
LineReplayed c Bad lines.Bad r = Unit {0}
LineReplayed c Differs lines.Differs r = Unit {0}
LineReplayed c (Agrees next) lines.Agrees r = HasReplayed c next r
LineReplayed c outcome answer r = ⊥

-- after whatever was replayed before: what this line does, and what is replayed then
abbrev pub ReplaysLine : CatalogueView → (Replayed → LineOutcome) → Replaying → LineVerdict → Replaying → Type 0
ReplaysLine c outcome old answer new = (at : Replayed) → HasReplayed c at old → LineReplayed c (outcome at) answer new

abbrev pub compared_verdict : Bool → LineVerdict
compared_verdict true = lines.Agrees
compared_verdict false = lines.Differs

-- what is written where a replay ended so, and what the transcript is then
abbrev pub ended_text : ReplayEnd → Replaying → List ℕ
ended_text ends.Agrees r = good_text (tail_of r.node.log) r.reads r.ended
ended_text (ends.Bad n) r = (bad_line n).text
ended_text (ends.Differs n due) r = (differing_line n).text

abbrev pub ended_verdict : ReplayEnd → Verdict
ended_verdict ends.Agrees = verdicts.Good
ended_verdict (ends.Bad n) = verdicts.Refused
ended_verdict (ends.Differs n due) = verdicts.Differs

abbrev pub ended_answer : ReplayEnd → Replaying → Answer
ended_answer end r = record { text = ended_text end r; verdict = ended_verdict end }

-- after whatever was replayed before: where the line differs, this is what it should tell
abbrev pub DiffersFrom : CatalogueView → (Replayed → Option Due) → Replaying → LineVerdict → Due → Type 0
DiffersFrom c line old answer due = (at : Replayed) → HasReplayed c at old → answer ≡ lines.Differs → line at ≡ Some due

-- what is told of how a replay ended
abbrev pub ended_note : ReplayEnd → List ℕ
ended_note (ends.Differs n due) = due_text n due
ended_note end = []
