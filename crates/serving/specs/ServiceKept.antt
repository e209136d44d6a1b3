-- What is kept while an input is served. Clauses of private functions alone cite this.
use Rattle.std.specs.Prelude.{◌≡◌, ◌≤◌, ℕ, Bool, List, [], ◌∷◌, ◌++◌, length, take, Option, Some, None, option_and_then, Result, Ok, Err, IfOk}
use Rattle.std.specs.Io.KnownBytes.{Appends, Consumes, IsAtEnd}
use Rattle.loader.specs.CatalogueView.{CatalogueView}
use Rattle.oplog.specs.declared.configuration.TheConstants.{ENDLESS}
use Rattle.oplog.specs.History.{History}
use Rattle.engine.specs.declared.replies.Status.{Status}
use Rattle.engine.specs.declared.replies.Status.TheVariants as statuses
use Rattle.engine.specs.declared.opening.Opened.{Opened}
use Rattle.engine.specs.Answer.{Answer}
use Rattle.engine.specs.Opening.{on_which}
use Rattle.serving.specs.declared.service.TheConstants.{KEPT_BYTES}
use Rattle.serving.specs.declared.turns.TheConstants.{ROOM_BYTES}
use Rattle.serving.specs.declared.service.Service.{Service}
use Rattle.serving.specs.declared.turns.ServeEnd.{ServeEnd}
use Rattle.running.specs.declared.single_node.SingleNode.{SingleNode}
use Rattle.running.specs.RunAnswer.{Turn, line_turn}
use Rattle.running.specs.Running.{Follows, LineTaken}
use Rattle.serving.specs.ServeAnswer.{Serves, ServiceState, Ports, nothing_served, text_turn, served, served_text, AnswersBytes}

-- one more byte of the line at hand
abbrev pub with_byte : ServiceState → ℕ → ServiceState
with_byte s b = record s { left = s.left ++ b ∷ [] }

-- P holds of what is served, or answered in its place, if that was opened
abbrev pub IfOpened : {E : Type 0} → Result Opened E → (Result CatalogueView Answer → Type 0) → Type 0
IfOpened opened P = (on : Result CatalogueView Answer) → IfOk opened (λ o. on_which o ≡ on) → P on

-- the service is in the state s; of a line that is longer than any good one it keeps the first bytes
pub record Stands (s : ServiceState) (service : Service) : Type 0 where
  pub has_values : service.has_values ≡ s.has_values
  pub number : service.number ≡ s.number
  pub follows : Follows ENDLESS service.catalogue s.history service.node
  pub left : service.left.items ≡ take KEPT_BYTES s.left

-- it serves this catalogue, script lines or calls with values
pub record IsServiceOf (has_values : Bool) (c : CatalogueView) (service : Service) : Type 0 where
  pub mode : service.has_values ≡ has_values
  pub catalogue : service.catalogue ≡ c

-- where it was opened, what it serves is as `Serves` says
abbrev pub ServesOpened : {E : Type 0} → Result Service E → Ports → ServeEnd → Type 0
ServesOpened service at ended = (has_values : Bool) (c : CatalogueView) → IfOk service (IsServiceOf has_values c) → Serves has_values c at ended

-- the same line is at hand
pub record IsSameLine (old new : Service) : Type 0 where
  pub catalogue : new.catalogue ≡ old.catalogue
  pub has_values : new.has_values ≡ old.has_values
  pub number : new.number ≡ old.number
  pub left : new.left ≡ old.left

-- what a line of a script does was done, from any history of the node, unless memory runs out; if there is no line, nothing was
abbrev pub TakesSaid : {E : Type 0} → CatalogueView → Option (List ℕ) → SingleNode → SingleNode → List ℕ → List ℕ → Result Bool E → Type 0
TakesSaid c said node after old new r =
    (limit : ℕ) (h : History) → Follows limit c h node → IfOk r (λ good. LineTaken limit c (option_and_then (line_turn limit c h) said) good after old new)

-- what the line at hand does was done, unless memory runs out
abbrev pub TakesLeft : {E : Type 0} → Service → Service → ServiceState → Result Bool E → Type 0
TakesLeft old new s r =
    IfOk r (λ good. LineTaken ENDLESS old.catalogue (text_turn s.has_values old.catalogue s.history s.left) good new.node old.answer.items new.answer.items)

-- the text that these bytes are served with is put behind what was there
abbrev pub AddsServed : CatalogueView → ServiceState → List ℕ → List ℕ → List ℕ → Type 0
AddsServed c s bytes before after = after ≡ before ++ (served c s bytes).text

-- the turn of the line at hand was taken, and its text is the answer
pub record IsAnswered (turn : Turn) (service : Service) : Type 0 where
  pub text : service.answer.items ≡ turn.text
  pub follows : Follows ENDLESS service.catalogue turn.history service.node

-- a service goes on as it stood, on the same catalogue
abbrev pub GoesOn : Service → Service → (ServiceState → ServiceState) → Type 0
GoesOn old new next = (new.catalogue ≡ old.catalogue) × ((s : ServiceState) → Stands s old → Stands (next s) new)

-- the service has taken the turns of the lines that end in the first k of these bytes, and the next line is at hand
abbrev pub HasTaken : CatalogueView → ServiceState → List ℕ → Service → ℕ → Type 0
HasTaken c s bytes service k = service.number ≡ (served c s (take k bytes)).serving.number

-- these bytes' answers stand behind a text, and the service behind them; where memory runs out, those of all lines whose turns it has taken
abbrev pub TakesBytes : {E : Type 0} → CatalogueView → ServiceState → List ℕ → Service → List ℕ → List ℕ → Result (Unit {0}) E → Type 0
TakesBytes c s bytes new before after (Ok u) = (after ≡ before ++ (served c s bytes).text) × Stands (served c s bytes).serving new
TakesBytes c s bytes new before after (Err e) = (k : ℕ) × (after ≡ before ++ (served c s (take k bytes)).text) × HasTaken c s bytes new k

-- what a turn read is answered, and the service stands behind it; or how it ended: where memory ran out, all lines whose turns it has taken are answered
abbrev pub TurnEnds : CatalogueView → ServiceState → List ℕ → Service → Option (List ℕ) → Option (List ℕ) → Option Status → Type 0
TurnEnds c s bytes service old new None = Appends old new (served c s bytes).text × Stands (served c s bytes).serving service
TurnEnds c s bytes service old new (Some status) = AnswersBytes old new status (HasTaken c s bytes service) (λ b. (served c s b).text) bytes

-- a turn of a service that stands so: it reads as many bytes as there is room for, at most; where it ended well, its input is at its end and nothing was read
pub record Turns (c : CatalogueView) (s : ServiceState) (service : Service) (at : Ports) (ended : Option Status) : Type 0 where
  pub bytes : List ℕ
  pub read : Consumes at.given at.left bytes
  pub few : length bytes ≤ ROOM_BYTES
  pub whole : ended ≡ Some statuses.Good → IsAtEnd at.left × (bytes ≡ [])
  pub answers : TurnEnds c s bytes service at.old at.new ended

-- `Turns` from any state that the service is in
abbrev pub TakesTurns : Ports → Service → Service → Option Status → Type 0
TakesTurns at old new ended = (s : ServiceState) → Stands s old → Turns old.catalogue s new at ended

-- turns were taken, and the service stands behind all that they read
pub record Going (has_values : Bool) (c : CatalogueView) (service : Service) (at : Ports) : Type 0 where
  pub bytes : List ℕ
  pub read : Consumes at.given at.left bytes
  pub answers : Appends at.old at.new (served_text has_values c bytes)
  pub stands : Stands (served c (nothing_served has_values) bytes).serving service
