-- What `replay --explain` tells beside the answer: of the first line that does not agree, if it differs, what it should tell.
use Rattle.std.specs.Prelude.{◌≡◌, ℕ, List, [], ◌∷◌, ◌++◌, length, codes, decimal, Option, Some, None, option_map, Result, Ok, Err, nat_lt, if◌then◌else◌}
use Rattle.std.specs.Option.{option_map_or}
use Rattle.text.specs.Lines.{lines_of, next_line}
use Rattle.verifier.specs.declared.refusal.Mode.{Mode}
use Rattle.verifier.specs.declared.refusal.Mode.TheVariants.{Update, Read}
use Rattle.loader.specs.CatalogueView.{CatalogueView}
use Rattle.oplog.specs.Operations.{Operation}
use Rattle.oplog.specs.History.{History, reply_at, read_reply_at}
use Rattle.oplog.specs.declared.configuration.TheConstants.{MAX_LIMIT}
use Rattle.replica.specs.StoreMeaning.{store_meaning}
use Rattle.replaying.specs.declared.lines.Due.{Due}
use Rattle.engine.specs.declared.replies.Notes.{Notes}
use Rattle.engine.specs.declared.replies.Telling.TheVariants.{Reasons}
use Rattle.engine.specs.Answer.{Answer}
use Rattle.engine.specs.Opening.{opening, places_within}
use Rattle.engine.specs.Reading.{TextsRead}
use Rattle.scripts.specs.Transcript.{TranscriptMeaning, Answered, Installed, transcript_line_meaning}
use Rattle.replaying.specs.ReplayAnswer.{Replayed, LineOutcome, Bad, Differs, Agrees, install_of, line_outcome, nothing_replayed, operation_of}

-- what an operation behind a history should tell: its place, and its reply there; none where the history has all its updates
abbrev pub due_at : CatalogueView → Mode → History → Operation → Due
due_at c Update h op = record { mode = Update; place = length h; reply = if nat_lt (length h) MAX_LIMIT then reply_at store_meaning c h (length h) op else None }
due_at c Read h op = record { mode = Read; place = length h; reply = read_reply_at store_meaning c h (length h) op }

-- what a line should tell that an operation answered
abbrev pub line_due : CatalogueView → Replayed → Option TranscriptMeaning → Option Due
line_due c at (Some (Answered mode call a)) = option_map (due_at c mode at.history) (operation_of c mode call)
line_due c at (Some (Installed new a)) = option_map (due_at c Update at.history) (install_of c new)
line_due c at said = None

-- an update's index or a read's point, and the reply there
abbrev pub place_text : Mode → ℕ → ℕ → List ℕ
place_text Update place reply = codes "index " ++ (decimal place ++ (codes " reply " ++ (decimal reply ++ codes "\n")))
place_text Read place reply = codes "point " ++ (decimal place ++ (codes " reply " ++ (decimal reply ++ codes "\n")))

abbrev pub reply_text : Mode → ℕ → Option ℕ → List ℕ
reply_text mode place (Some reply) = codes ": differs: should be " ++ place_text mode place reply
reply_text mode place None = codes ": differs: the history has its " ++ (decimal MAX_LIMIT ++ codes " updates\n")

-- the line that tells what line n should tell
abbrev pub due_text : ℕ → Due → List ℕ
due_text n due = codes "line " ++ (decimal n ++ reply_text due.mode due.place due.reply)

-- by what the line is found to be
abbrev pub noted_by : ℕ → Option Due → (Replayed → List ℕ) → LineOutcome → List ℕ
noted_by n due next Bad = []
noted_by n due next Differs = option_map_or (due_text n) due []
noted_by n due next (Agrees at) = next at

-- what is told of lines from number n on, behind what was replayed
unfoldable pub notes_text : CatalogueView → ℕ → Replayed → List (List ℕ) → List ℕ
notes_text c n at [] = []
notes_text c n at (l ∷ ls) = noted_by n (line_due c at (transcript_line_meaning l)) (λ next. notes_text c (next_line n) next ls) (line_outcome c at l)

-- what is told of a transcript on a catalogue; where no line is replayed, nothing
abbrev pub notes_on : List ℕ → Result CatalogueView Answer → List ℕ
notes_on transcript (Ok c) = notes_text c 1 nothing_replayed (lines_of transcript)
notes_on transcript (Err a) = []

-- what is told beside `replay_answer`; nothing of a text that is not UTF-8
abbrev pub replay_notes : ℕ → Option TextsRead → List ℕ
replay_notes spare None = []
replay_notes spare (Some t) = notes_on t.file (opening (places_within spare) t)

-- if reasons are to be told, this text comes after what was told before
abbrev pub Explains : Notes → Notes → List ℕ → Type 0
Explains old new text = old.telling ≡ Reasons → (new.telling ≡ Reasons) × (new.text.items ≡ old.text.items ++ text)
