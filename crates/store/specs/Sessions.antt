-- A session and a store as their users see them, and what a call answers.
use Rattle.std.specs.Prelude.{◌≡◌, ℕ, zero, suc, ◌≤◌, List, [], ◌∷◌, ◌++◌, length, Option, None, Result, Ok, Err, MatchResult}
use Rattle.ownlock.specs.Seats.{ShelfId, tails_in}
use Rattle.loader.specs.CatalogueView.{CatalogueView}
use Rattle.loader.specs.Installed.{InstalledView}
use Rattle.oplog.specs.declared.configuration.Sizes.{Sizes}
use Rattle.oplog.specs.declared.configuration.TheConstants.{MAX_NODES, MAX_NODE_SLOTS}
use Rattle.verifier.specs.declared.refusal.Mode.{Mode}
use Rattle.verifier.specs.declared.refusal.Mode.TheVariants.{Update}
use Rattle.oplog.specs.Calls.{NewProgram}
use Rattle.oplog.specs.Operations.{Operation}
use Rattle.oplog.specs.declared.records.Op.TheVariants.{Install}
use Rattle.replica.specs.StoreMeaning.{store_meaning}
use Rattle.replica.specs.Refusals.{early_refusal, install_refusal, IsRoomFor}
use Rattle.combiner.specs.declared.slots.Reply.{Reply}
use Rattle.combiner.specs.declared.slots.Reply.TheVariants.{Placed, Ended as EndedAnswer}
use Rattle.accounts.specs.Accounts.{Extends, IsWellFormed}
use Rattle.accounts.specs.LogSteps.{first_progress, fresh_note}
use Rattle.accounts.specs.Told.{Tells, note_ended, note_with}
use Rattle.store.specs.declared.answers.Answer.{Answer}
use Rattle.store_laws.specs.Gone.{GoneOn}
use Rattle.replica.specs.declared.refusals.StoreRefused.{StoreRefused}
use Rattle.replica.specs.declared.refusals.StoreRefused.TheVariants.{Ended as TheEnd}
use Rattle.store_steps.specs.declared.steps.Shared.{Shared}
use Rattle.store_steps.specs.Standing.{SessionKnown, StoreSeat}
use Rattle.store_steps.specs.Views.{SessionView, request_of, session_view}
pub use Rattle.store_steps.specs.Views.{known_of}

-- the shelf of a store, and what the store was opened with
pub record StoreView : Type 0 where
  pub id : ShelfId
  pub config : Sizes
  pub catalogue : CatalogueView

-- a store's sessions share so many nodes, each with so many slots, as the store has
abbrev pub HasNodes : Shared → StoreView → Type 0
HasNodes shared store =
    (shared.nodes ≡ store.config.nodes) × (store.config.nodes ≤ MAX_NODES)
    × (shared.slots ≡ store.config.slots) × (store.config.slots ≤ MAX_NODE_SLOTS)

-- the session is one of this store
pub record IsOf (store : StoreView) (s : SessionView) : Type 0 where
  pub shelf : s.shelf ≡ store.id
  pub config : s.progress.config ≡ store.config
  pub catalogue : s.progress.catalogue ≡ store.catalogue

-- the session before and after a call is the same one, and of this store still; what it knew of the history stays, and what it knows now is a
-- history that the store may have; the run that it knows has gone on by steps of others and by its own, of which it knows each
pub record SessionGoesOn (store : StoreView) (old new : SessionView) : Type 0 where
  pub own : IsOf store new
  pub same : (new.shelf ≡ old.shelf) × (new.session ≡ old.session)
  pub grown : Extends old.progress new.progress
  pub well_formed : IsWellFormed store_meaning new.progress
  pub gone : GoneOn (known_of old) (known_of new)

-- what the session a knows at first, and the session
abbrev pub fresh_known : Sizes → CatalogueView → ℕ → SessionKnown
fresh_known config c a = record { session = a; progress = first_progress config c; note = fresh_note; held = []; steps = []; run = [] }

abbrev pub fresh_session : ShelfId → Sizes → CatalogueView → ℕ → SessionView
fresh_session shelf config c a = record { shelf = shelf; session = a; progress = first_progress config c; note = fresh_note; steps = []; run = [] }

-- so many of them, from the session a on
abbrev pub fresh_sessions : ShelfId → Sizes → CatalogueView → ℕ → ℕ → List SessionView
fresh_sessions shelf config c a zero = []
fresh_sessions shelf config c a (suc n) = fresh_session shelf config c a ∷ fresh_sessions shelf config c (suc a) n

-- room for a program that the session's store may install
abbrev pub HasRoom : InstalledView → StoreSeat → Type 0
HasRoom room s = IsRoomFor (session_view s).progress.catalogue.shapes (session_view s).progress.catalogue.long room

-- the store does not refuse to run this program on this argument as an update
abbrev pub MayUpdate : StoreView → (program : ℕ) → (argument : List ℕ) → Type 0
MayUpdate store program argument = early_refusal store.catalogue Update program argument ≡ None

-- a program of this mode, for arguments of that length, which these bytes spell, as it is to be installed
abbrev pub new_program : Mode → ℕ → List ℕ → NewProgram
new_program mode arg_len bytes = record { mode = mode; arg_len = arg_len; bytes = bytes }

-- the install of a program, as an operation, and its refusal by a store
abbrev pub install_of : Mode → ℕ → List ℕ → Operation
install_of mode arg_len bytes = Install (new_program mode arg_len bytes)

abbrev pub install_refused : StoreView → Mode → ℕ → List ℕ → Option StoreRefused
install_refused store mode arg_len bytes = install_refusal store.catalogue.shapes store.catalogue.long (new_program mode arg_len bytes)

-- what a call answers, by what became of its update
abbrev pub said : Reply → Result Answer StoreRefused
said (Placed i reply) = Ok (record { index = i; reply = reply })
said EndedAnswer = Err TheEnd

-- an answered update: its request has that index in the history and that reply there, and the session counts it
abbrev pub TellsAnswered : (old new : SessionView) → Operation → Answer → Type 0
TellsAnswered old new op a =
    Tells store_meaning new.progress old.session (length old.note.answered) (request_of old.progress op) (Placed a.index a.reply) × (new.note ≡ note_with old.note a.index op a.reply)

-- an ended update: S4, the history has its last record, and none of this request, and the session counts no update
abbrev pub TellsEnded : (old new : SessionView) → Operation → StoreRefused → Type 0
TellsEnded old new op refused =
    (refused ≡ TheEnd) × Tells store_meaning new.progress old.session (length old.note.answered) (request_of old.progress op) EndedAnswer × (new.note ≡ note_ended old.note op)

-- the answer to an update that was not refused early: it is answered or it is ended
abbrev pub TellsUpdate : (old new : SessionView) → Operation → Result Answer StoreRefused → Type 0
TellsUpdate old new op result = MatchResult result (TellsAnswered old new op) (TellsEnded old new op)

-- within a call the session has read the completed tail, and this point is not below what it was then
abbrev pub IsFresh : (old new : SessionView) → ℕ → Type 0
IsFresh old new point = (begun : ℕ) × (more : List ℕ) × (tails_in new.steps ≡ tails_in old.steps ++ begun ∷ more) × (begun ≤ point)
