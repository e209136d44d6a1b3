-- What `serve` writes: the answer of each line as soon as it ends, as `run` writes it; a bad line is answered too, and does not end it. And the
-- state that it leaves.
use Rattle.std.specs.Prelude.{◌≡◌, ◌⊎◌, ℕ, ◌+◌, ◌≤◌, Bool, true, false, List, [], ◌∷◌, ◌++◌, length, take, Option, Some, None, option_and_then, unwrap_or, Result, Err, MatchResult, ◌==◌, if◌then◌else◌}
use Rattle.std.specs.Result.{result_ok}
use Rattle.std.specs.Str.{is_utf8}
use Rattle.std.specs.Io.KnownBytes.{Appends, Consumes, IsAtEnd}
use Rattle.text.specs.Lines.{next_line}
use Rattle.encoding.specs.Encoded.{encoded}
use Rattle.loader.specs.StoreState.{StoreState}
use Rattle.loader.specs.CatalogueView.{CatalogueView}
use Rattle.oplog.specs.declared.configuration.TheConstants.{ENDLESS}
use Rattle.oplog.specs.History.{History}
use Rattle.serving.specs.declared.turns.ServeEnd.{ServeEnd}
use Rattle.serving.specs.declared.turns.TheConstants.{ROOM_BYTES}
use Rattle.serving.specs.declared.turns.ServeOptions.{ServeOptions}
use Rattle.engine.specs.declared.replies.Status.{Status}
use Rattle.engine.specs.declared.replies.Status.TheVariants as statuses
use Rattle.engine.specs.Texts.{no_memory_line}
use Rattle.engine.specs.Answer.{Answer, not_text}
use Rattle.running.specs.RunAnswer.{Turn, bad_line, line_turn, state_of}
use Rattle.serving.specs.StoreText.{asks, store_text}
use Rattle.engine.specs.Reading.{Given, TextsRead, read}
use Rattle.engine.specs.Opening.{long_opening, places_within}
use Rattle.engine.specs.Transfer.{AppendsBeginning}
use Rattle.engine.specs.Report.{answer_of}
use Rattle.engine.specs.Engine.{Reports}

-- ---- lines as they end

-- what is known between two bytes: whether calls have values, the number of the line at hand, the history before it, and what came of it so far
pub record ServiceState : Type 0 where
  pub has_values : Bool
  pub number : ℕ
  pub history : History
  pub left : List ℕ

abbrev pub nothing_served : Bool → ServiceState
nothing_served has_values = record { has_values = has_values; number = 1; history = []; left = [] }

-- the line of a script that a line says: the line itself, or if calls have values the one that `encode` makes of it
abbrev pub said_line : Bool → List ℕ → Option (List ℕ)
said_line false line = Some line
said_line true line = result_ok (encoded line)

-- what a line that asks what the store has gets; the history stays
abbrev pub asking_turn : CatalogueView → History → Turn
asking_turn c history = record { text = store_text (length history) c (state_of c history); history = history }

-- a service has no end; a line that asks is none of a script; a line that is not UTF-8 is bad
abbrev pub text_turn : Bool → CatalogueView → History → List ℕ → Option Turn
text_turn has_values c history line =
    if asks line then Some (asking_turn c history)
    else if is_utf8 line then option_and_then (line_turn ENDLESS c history) (said_line has_values line)
    else None

-- the turn of the line at hand, when it ends; a bad line writes that it is, and the history stays
abbrev pub turn_at : CatalogueView → ServiceState → Turn
turn_at c s = unwrap_or (text_turn s.has_values c s.history s.left) (record { text = (bad_line s.number).text; history = s.history })

-- the line behind it is at hand then
abbrev pub after_line : CatalogueView → ServiceState → ServiceState
after_line c s = record s { number = next_line s.number; history = (turn_at c s).history; left = [] }

-- what bytes make a service write, and what stands behind them
pub record Served : Type 0 where
  pub text : List ℕ
  pub serving : ServiceState

-- with this text before
abbrev pub served_after : List ℕ → Served → Served
served_after text t = record { text = text ++ t.text; serving = t.serving }

-- a line feed ends a line, which then is answered; a last line that has none is not
unfoldable pub served : CatalogueView → ServiceState → List ℕ → Served
served c s [] = record { text = []; serving = s }
served c s (b ∷ bs) = if b == 10 then served_after (turn_at c s).text (served c (after_line c s) bs) else served c (record s { left = s.left ++ b ∷ [] }) bs

-- what a catalogue's programs answer to an input of script lines, or of calls with values
abbrev pub served_text : Bool → CatalogueView → List ℕ → List ℕ
served_text has_values c bytes = (served c (nothing_served has_values) bytes).text

-- ---- what was read and written

-- the two ends of a service, where they are known: what there was to read and what is left of it, and what was written before and after
pub record Ports : Type 0 where
  pub given : Option (List ℕ)
  pub left : Option (List ℕ)
  pub old : Option (List ℕ)
  pub new : Option (List ℕ)

-- the ports of a reader, by what it has left, and of a writer, by what it holds
abbrev pub ports : {R W : Type 0} → (R → Option (List ℕ)) → R → R → (W → Option (List ℕ)) → W → W → Ports
ports remaining given left contents old new = record { given = remaining given; left = remaining left; old = contents old; new = contents new }

-- these bytes were read and served, by how that ended: each line is answered; where memory ran out those of the first k bytes, for a k of which P
-- is so, and that none is left; and where a write failed, a beginning of either is written
abbrev pub AnswersBytes : Option (List ℕ) → Option (List ℕ) → Status → (ℕ → Type 0) → (List ℕ → List ℕ) → List ℕ → Type 0
AnswersBytes old new statuses.Good P text bytes = Appends old new (text bytes)
AnswersBytes old new statuses.CannotRead P text bytes = Appends old new (text bytes)
AnswersBytes old new statuses.NoMemory P text bytes = (k : ℕ) × P k × Appends old new (text (take k bytes) ++ no_memory_line)
AnswersBytes old new statuses.CannotWrite P text bytes = AppendsBeginning old new (text bytes) ⊎ ((k : ℕ) × P k × AppendsBeginning old new (text (take k bytes) ++ no_memory_line))
AnswersBytes old new statuses.Refused P text bytes = ⊥
AnswersBytes old new statuses.Differs P text bytes = ⊥

-- behind the first k of these bytes there are no more than one read brings
abbrev pub IsInLastRead : List ℕ → ℕ → Type 0
IsInLastRead bytes k = length bytes ≤ k + ROOM_BYTES

-- a state that is given back where all is well
abbrev pub given_back : Status → StoreState → Option StoreState
given_back statuses.Good s = Some s
given_back statuses.Refused s = None
given_back statuses.NoMemory s = None
given_back statuses.CannotRead s = None
given_back statuses.CannotWrite s = None
given_back statuses.Differs s = None

-- the programs of a catalogue were served an input, from what it had to what it has left, and to its end where all is well; the state that its
-- lines leave is given back then; where memory ran out, only lines that end in what the last read brought may be without an answer
pub record Serves (has_values : Bool) (c : CatalogueView) (at : Ports) (ended : ServeEnd) : Type 0 where
  pub bytes : List ℕ
  pub read : Consumes at.given at.left bytes
  pub whole : ended.status ≡ statuses.Good → IsAtEnd at.left
  pub answers : AnswersBytes at.old at.new ended.status (IsInLastRead bytes) (served_text has_values c) bytes
  pub state : ended.state ≡ given_back ended.status (state_of c (served c (nothing_served has_values) bytes).serving.history)

-- ---- the command

-- what is served of what was read, with so many places behind the manifest's programs and on the state, or what is answered in its place
abbrev pub service : ℕ → Option TextsRead → Result CatalogueView Answer
service spare None = Err not_text
service spare (Some t) = long_opening (places_within spare) t

-- what `serve` did; what is answered in its place leaves no state, and nothing of the input is read then
abbrev pub ServesAll : Bool → Ports → ServeEnd → Result CatalogueView Answer → Type 0
ServesAll has_values at ended opening =
    MatchResult opening (λ c. Serves has_values c at ended) (λ a. Reports answer_of (λ r. answer_of r ≡ a) at.old at.new ended.status × (ended.state ≡ None) × (at.left ≡ at.given))

-- `ServesAll` of what was read
abbrev pub ServesRead : ServeOptions → Ports → ServeEnd → Option TextsRead → Type 0
ServesRead how at ended t = ServesAll how.has_values at ended (service how.spare t)

-- of what there was to read before
abbrev pub ServesGiven : ServeOptions → Ports → ServeEnd → Given → Type 0
ServesGiven how at ended g = ServesRead how at ended (read g)
