-- What stands behind each line of a transcript that a replay finds to agree: what its operation does there.
use Rattle.std.specs.Prelude.{◌≡◌, ◌⊎◌, ℕ, ◌<◌, List, [], ◌∷◌, length, Some, Ok}
use Rattle.verifier.specs.declared.refusal.Mode.TheVariants.{Update, Read}
use Rattle.verifier.specs.Accepted.{Checked}
use Rattle.machine.specs.Effects.{Effect as RunEffect}
use Rattle.text.specs.Lines.{next_line}
use Rattle.loader.specs.CatalogueView.{CatalogueView, IsCatalogue}
use Rattle.loader.specs.Installed.{installed_program}
use Rattle.loader.specs.StoreState.{StoreState}
use Rattle.oplog.specs.declared.configuration.TheConstants.{MAX_LIMIT}
use Rattle.oplog.specs.Calls.{Call}
use Rattle.oplog.specs.Operations.{Operation}
use Rattle.oplog.specs.declared.records.Op.TheVariants.{Run, Install}
use Rattle.oplog.specs.History.{History}
use Rattle.replica.specs.StoreMeaning.{AreUpdates, IsOperation, placed}
use Rattle.engine.specs.Answer.{Answer}
use Rattle.scripts.specs.Script.{KeyedCall}
use Rattle.scripts.specs.Transcript.{TranscriptMeaning, Comment, Answered, Installed, Ended, EndedInstall, transcript_line_meaning}
use Rattle.running.specs.RunAnswer.{bad_line, state_of}
use Rattle.running.specs.RunLines.{CallDoes}
use Rattle.replaying.specs.ReplayAnswer.{Replayed, Bad, Differs, Agrees, number_told, with_update, next_count, good_answer, differing_line, line_outcome, transcript_answer}

-- what an update replies behind a history, and leaves: a call is the run of its program there, or nothing, with the reply that there is none;
-- an install puts the program that its bytes spell behind the others, and replies its number, or that no place is free
abbrev pub Does : CatalogueView → History → Operation → ℕ → StoreState → Type 0
Does c h (Run call) reply left = (done : RunEffect) × CallDoes c h call Update done × (reply ≡ done.reply) × (left.maps ≡ done.maps)
Does c h (Install new) reply left =
    (program : Checked) × (installed_program c.shapes new.mode new.arg_len new.bytes ≡ Ok program) × (reply ≡ (placed c (state_of c h) program).reply)
    × (left ≡ (placed c (state_of c h) program).left)

-- an update or an install has the next index of the history, which has room for it, with the reply of what it does there; it is in the history then
pub record AgreesUpdate (c : CatalogueView) (at : Replayed) (op : Operation) (index reply : ℕ) (next : Replayed) : Type 0 where
  pub asked : IsOperation Update c op
  pub place : index ≡ length at.history
  pub room : length at.history < MAX_LIMIT
  pub next_is : next ≡ with_update at op
  pub does : Does c at.history op reply (state_of c next.history)

-- a read has the whole history before it, with the reply of what it does there, and leaves it
pub record AgreesRead (c : CatalogueView) (at : Replayed) (call : Call) (point reply : ℕ) (next : Replayed) : Type 0 where
  pub asked : IsOperation Read c (Run call)
  pub place : point ≡ length at.history
  pub next_is : next ≡ record at { reads = next_count at.reads }
  pub done : RunEffect
  pub does : CallDoes c at.history call Read done
  pub reply_is : reply ≡ done.reply
  pub left : done.maps ≡ (state_of c at.history).maps

-- what was told that the history has ended is an update, and leaves it
abbrev pub AgreesEnded : CatalogueView → Replayed → Operation → Replayed → Type 0
AgreesEnded c at op next = IsOperation Update c op × (next ≡ record at { ended = next_count at.ended })

-- the call of the program that a line names
abbrev pub IsCallOf : CatalogueView → KeyedCall → Call → Type 0
IsCallOf c keyed call = (number_told c keyed.key ≡ Some call.program) × (call.argument ≡ keyed.argument)

-- what a line tells that agrees, by what it says
abbrev pub AgreesTold : CatalogueView → Replayed → TranscriptMeaning → Replayed → Type 0
AgreesTold c at Comment next = next ≡ at
AgreesTold c at (Answered Update keyed a) next = (call : Call) × IsCallOf c keyed call × AgreesUpdate c at (Run call) a.index a.reply next
AgreesTold c at (Answered Read keyed a) next = (call : Call) × IsCallOf c keyed call × AgreesRead c at call a.index a.reply next
AgreesTold c at (Installed new a) next = AgreesUpdate c at (Install new) a.index a.reply next
AgreesTold c at (Ended keyed) next = (call : Call) × IsCallOf c keyed call × AgreesEnded c at (Run call) next
AgreesTold c at (EndedInstall new) next = AgreesEnded c at (Install new) next

abbrev pub LineAgrees : CatalogueView → Replayed → List ℕ → Replayed → Type 0
LineAgrees c at line next = (told : TranscriptMeaning) × (transcript_line_meaning line ≡ Some told) × AgreesTold c at told next

-- from line n on, behind what was replayed: each line agrees with what its operation does, one after the other, until one that is bad or differs
abbrev pub Replays : CatalogueView → ℕ → Replayed → List (List ℕ) → Answer → Type 0
Replays c n at [] a = a ≡ good_answer at
Replays c n at (l ∷ ls) a =
    ((line_outcome c at l ≡ Bad) × (a ≡ bad_line n)) ⊎ ((line_outcome c at l ≡ Differs) × (a ≡ differing_line n))
    ⊎ ((next : Replayed) × LineAgrees c at l next × Replays c (next_line n) next ls a)

-- behind any updates of a catalogue a line that agrees tells what its operation does there, and leaves such a history
abbrev pub AgreeingLinesAreRuns : Type 0
AgreeingLinesAreRuns =
    (c : CatalogueView) (at next : Replayed) (line : List ℕ) → IsCatalogue c → AreUpdates c at.history → line_outcome c at line ≡ Agrees next
    → LineAgrees c at line next × AreUpdates c next.history

-- and what is answered to a transcript from there on tells of such lines, on a new state and on each that a text says
abbrev pub ReplaysAreRuns : Type 0
ReplaysAreRuns = (c : CatalogueView) (n : ℕ) (at : Replayed) (ls : List (List ℕ)) → IsCatalogue c → AreUpdates c at.history → Replays c n at ls (transcript_answer c n at ls)
