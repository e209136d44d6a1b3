-- A session as it is seen between its calls, and what a read replies.
use Rattle.std.specs.Prelude.{◌≡◌, ℕ, ◌≤◌, List, [], ◌∷◌, length, Some, None, option_map}
use Rattle.ownlock.specs.declared.known.ShelfStep.{ShelfStep}
use Rattle.ownlock.specs.Seats.{IsSession, Run as RunOf, ShelfId}
use Rattle.loader.specs.CatalogueView.{CatalogueView}
use Rattle.loader.specs.StoreState.{StoreState}
use Rattle.oplog.specs.Operations.{Operation}
use Rattle.oplog.specs.declared.records.Op.TheVariants.{Run}
use Rattle.replica.specs.StoreMeaning.{store_meaning}
use Rattle.accounts.specs.declared.sessions.Progress.{Progress}
use Rattle.accounts.specs.declared.sessions.Pending.{Pending}
use Rattle.accounts.specs.declared.sessions.SessionNote.{SessionNote}
use Rattle.accounts.specs.Accounts.{IsWellFormed}
use Rattle.accounts.specs.LogSteps.{first_progress, fresh_note}
use Rattle.store_steps.specs.declared.steps.Caller.{Caller}
use Rattle.store_steps.specs.declared.values.Value.{Value}
use Rattle.node.specs.declared.following.NodeReplica.{NodeReplica}
use Rattle.store_steps.specs.Standing.{SessionKnown, StoreSeat, IsFree}

-- a session: the shelf of its store, its number, the progress that it saw last, its note, each step that it has taken on the shelf, the last
-- first, and the run of all sessions' steps as it saw that last
pub record SessionView : Type 0 where
  pub shelf : ShelfId
  pub session : ℕ
  pub progress : Progress CatalogueView
  pub note : SessionNote
  pub steps : List (ShelfStep Value)
  pub run : RunOf (Progress CatalogueView) SessionNote Value

-- a catalogue of nothing
abbrev pub no_catalogue : CatalogueView
no_catalogue = record { shapes = []; programs = []; places = 0; long = 0; opening = None }

-- the first session of a seat that has any
abbrev pub nobody : SessionKnown
nobody = record { session = 0; progress = first_progress (record { nodes = 0; slots = 0; window = 0; limit = 0; spare = 0; long = 0 }) no_catalogue; note = fresh_note; held = []; steps = []; run = [] }

abbrev pub first_in : List SessionKnown → SessionKnown
first_in [] = nobody
first_in (k ∷ ks) = k

abbrev pub session_view : StoreSeat → SessionView
session_view s = let k = first_in s.sessions in record { shelf = s.shelf; session = k.session; progress = k.progress; note = k.note; steps = k.steps; run = k.run }

-- what a session knows that holds nothing
abbrev pub known_of : SessionView → SessionKnown
known_of s = record { session = s.session; progress = s.progress; note = s.note; held = []; steps = s.steps; run = s.run }

-- between its calls the session of that slot holds nothing, waits for nothing, and combines for nobody
pub record IsIdle (s : StoreSeat) (caller : Caller) : Type 0 where
  pub known : SessionKnown
  pub is : IsSession s known
  pub free : IsFree caller known
  pub pending : known.note.pending ≡ None
  pub unread : known.note.begun ≡ None
  pub batch : known.note.batch ≡ []
  -- what the session knows is a history of the store's catalogue, within its limit
  pub well_formed : IsWellFormed store_meaning known.progress
  -- each answered update has its index in the history
  pub within : length known.note.answered ≤ length known.progress.history

-- the run of this program on this argument, as an operation
abbrev pub op_of : ℕ → List ℕ → Operation
op_of program argument = Run (record { program = program; argument = argument })

-- the operation as a request of this session
abbrev pub request_of : Progress CatalogueView → Operation → Pending
request_of known op = record { op = op; seen = length known.history }

-- the operation replies this on that state, and on the node's
abbrev pub RepliesIn : CatalogueView → Operation → StoreState → ℕ → Type 0
RepliesIn c op state reply = option_map (λ e. e.reply) (store_meaning.read c op state) ≡ Some reply

abbrev pub RepliesThere : CatalogueView → Operation → NodeReplica → ℕ → Type 0
RepliesThere c op n reply = RepliesIn c op n.replica.state reply
