-- What a good history of a good transcript shows: one list of operations explains the trace that has each call where it began and each answer
-- where the call was back (Herlihy and Wing, "Linearizability", TOPLAS 1990).
use Rattle.std.specs.Prelude.{◌≡◌, ℕ, ◌*◌, List, [], map, length, filter_map, Option, Some, None, option_map, option_and_then, Ok, slice_get}
use Rattle.verifier.specs.declared.refusal.Mode.{Mode}
use Rattle.verifier.specs.declared.refusal.Mode.TheVariants.{Update, Read}
use Rattle.text.specs.Lines.{lines_of}
use Rattle.loader.specs.CatalogueView.{CatalogueView, with_places}
use Rattle.oplog.specs.declared.configuration.Sizes.{Sizes}
use Rattle.oplog.specs.Operations.{Operation}
use Rattle.oplog.specs.History.{History}
use Rattle.combiner.specs.declared.slots.Reply.TheVariants as replies
use Rattle.schedule.specs.declared.parts.Opening.{Opening}
use Rattle.schedule.specs.Trace.{Answer, Updated, ReadBack, Call, Back, Trace, Positions}
use Rattle.schedule.specs.Explains.{Explains}
use Rattle.scripts.specs.Transcript.{TranscriptMeaning, Comment, Answered, Installed, Ended, EndedInstall, transcript_line_meaning}
use Rattle.engine.specs.Reading.{TextsRead, loaded_by}
use Rattle.engine.specs.StateAnswer.{opened_by}
use Rattle.replaying.specs.ReplayAnswer.{operation_of, install_of}
use Rattle.realtime.specs.declared.histories.Timed.{Timed}
use Rattle.realtime.specs.Histories.{calls_behind}
use Rattle.realtime.specs.Ranks.{ranks_of}

-- ---- what a transcript tells

-- what is told of a call: an update or a read, its operation, and what it was answered
pub record TranscriptCall : Type 0 where
  pub mode : Mode
  pub op : Operation
  pub answer : Answer

-- a comment is no call; an update is answered its index and its reply, a read its point and its reply
abbrev pub told_by : CatalogueView → TranscriptMeaning → Option TranscriptCall
told_by c Comment = None
told_by c (Answered Update call a) = option_map (λ op. record { mode = Update; op = op; answer = Updated (replies.Placed a.index a.reply) }) (operation_of c Update call)
told_by c (Answered Read call a) = option_map (λ op. record { mode = Read; op = op; answer = ReadBack (record { point = a.index; reply = a.reply }) }) (operation_of c Read call)
told_by c (Installed new a) = option_map (λ op. record { mode = Update; op = op; answer = Updated (replies.Placed a.index a.reply) }) (install_of c new)
told_by c (Ended call) = option_map (λ op. record { mode = Update; op = op; answer = Updated replies.Ended }) (operation_of c Update call)
told_by c (EndedInstall new) = option_map (λ op. record { mode = Update; op = op; answer = Updated replies.Ended }) (install_of c new)

-- what the lines tell that are calls, in their order
abbrev pub calls_told : CatalogueView → List (List ℕ) → List TranscriptCall
calls_told c lines = filter_map (λ line. option_and_then (told_by c) (transcript_line_meaning line)) lines

-- the operation, where the answer has an index
abbrev pub if_placed : Operation → Answer → Option Operation
if_placed op (Updated (replies.Placed index reply)) = Some op
if_placed op (Updated replies.Ended) = None
if_placed op (ReadBack answer) = None

-- the operations that were given an index, in the order of their lines
abbrev pub operations_of : List TranscriptCall → List Operation
operations_of told = filter_map (λ a. if_placed a.op a.answer) told

-- where a call was told that the history has ended, the limit is how many these are
abbrev pub IsLimitOf : List TranscriptCall → ℕ → Type 0
IsLimitOf told limit = (k : ℕ) (a : TranscriptCall) → slice_get told k ≡ Some a → a.answer ≡ Updated replies.Ended → limit ≡ length (operations_of told)

-- ---- what a history shows

-- two events for each call, and no others: its session calls it at the number where it began, and is answered at that where it was back
pub record IsTraceOf (told : List TranscriptCall) (calls : List Timed) (t : Trace) : Type 0 where
  pub each : length told ≡ length calls
  pub events : length t ≡ 2 * length calls
  pub called : (k : ℕ) (a : TranscriptCall) (call : Timed) → slice_get told k ≡ Some a → slice_get calls k ≡ Some call
      → slice_get t call.begun ≡ Some (Call call.session a.mode a.op)
  pub back : (k : ℕ) (a : TranscriptCall) (call : Timed) → slice_get told k ≡ Some a → slice_get calls k ≡ Some call
      → slice_get t call.ended ≡ Some (Back call.session a.answer)

-- the lines of the history are the calls of such a trace, and one list of operations, the transcript's own in its order, explains it
pub record IsLinearizable (m : Opening) (transcript history : List (List ℕ)) : Type 0 where
  pub calls : List Timed
  pub read : calls_behind (ranks_of transcript) [] history ≡ Ok calls
  pub trace : Trace
  pub is_trace : IsTraceOf (calls_told m.catalogue transcript) calls trace
  pub list : History
  pub positions : Positions
  pub own : map (λ r. r.op) list ≡ operations_of (calls_told m.catalogue transcript)
  pub explains : Explains m list positions trace

-- what was read is linearizable, in a store of the manifest's maps and programs that was opened on the state, whatever its sizes, if its limit
-- was met where a call was told that the history has ended
pub record AreLinearizable (spare : ℕ) (t : TextsRead) : Type 0 where
  pub manifest : CatalogueView
  pub is_loaded : loaded_by t ≡ Ok manifest
  pub catalogue : CatalogueView
  pub is_opened : opened_by (with_places manifest spare) t.state ≡ Ok catalogue
  pub linearizable : (config : Sizes) → IsLimitOf (calls_told catalogue (lines_of t.file)) config.limit
      → IsLinearizable (record { config = config; catalogue = catalogue }) (lines_of t.file) (lines_of t.history)
