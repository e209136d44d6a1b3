-- What a store may be opened with, and what it gives back when it is closed.
use Rattle.std.specs.Prelude.{◌≡◌, ℕ, ◌<◌, List, [], ◌∷◌, ◌++◌, length, refl, Option, Some, None}
use Rattle.std.specs.Coded.{Coded, code_by, coded×, coded_list}
use Rattle.std.specs.Global.{Box}
use Rattle.loader.specs.StoreState.{StoreState, sizes_of}
use Rattle.ownlock.specs.Runs.{Runs}
use Rattle.ownlock.specs.Seats.{At, Continues, EndsWithOwn, Run, own_steps}
use Rattle.loader.specs.CatalogueView.{CatalogueView, opening_state, sizes_for}
use Rattle.loader.specs.Codes.{catalogue_code}
use Rattle.oplog.specs.declared.records.Record.{Record}
use Rattle.oplog.specs.History.{after, state_after}
use Rattle.oplog.specs.Logs.{Log, opened_log, tail_of}
use Rattle.replica.specs.StoreMeaning.{AreUpdates, store_meaning}
use Rattle.oplog.specs.Codes.{log_code}
use Rattle.replica.specs.Views.{ReplicaView, replica_code}
use Rattle.accounts.specs.declared.sessions.AnsweredUpdate.{AnsweredUpdate}
use Rattle.accounts.specs.declared.sessions.Progress.{Progress}
use Rattle.accounts.specs.declared.sessions.SessionNote.{SessionNote}
use Rattle.accounts.specs.Accounts.{Extends, IsWellFormed}
use Rattle.accounts.specs.Agreement.{LogAgrees, ReplicaAgrees}
use Rattle.accounts.specs.Told.{StandsOnce, records_of, numbered}
use Rattle.node.specs.declared.following.NodeReplica.{NodeReplica}
use Rattle.store_steps.specs.declared.values.Setup.{Setup}
use Rattle.store_steps.specs.declared.values.Value.{Value}
use Rattle.store_steps.specs.declared.values.Value.TheVariants.{Log as LogPlace, Replica}
use Rattle.store_steps.specs.Views.{SessionView, no_catalogue}
use Rattle.store.specs.Sessions.{StoreView, IsOf, known_of}
use Rattle.store_steps.specs.Standing.{SessionKnown}
use Rattle.store_steps.specs.Shelving.{log_value, replica_value, sessions_of, HasLogSizes, store_opening, store_rules}

-- each of these sessions is one of the store
abbrev pub AreOf : StoreView → List SessionView → Type 0
AreOf store sessions = (a : ℕ) (s : SessionView) → At a s sessions → IsOf store s

-- none of these sessions waits for an answer
abbrev pub AreIdle : List SessionView → Type 0
AreIdle sessions = (a : ℕ) (s : SessionView) → At a s sessions → s.note.pending ≡ None

-- what the sessions know, the last first
abbrev pub known_back : List SessionView → List SessionKnown
known_back [] = []
known_back (s ∷ ss) = known_back ss ++ known_of s ∷ []

-- a closed store: its catalogue, its log, and the replica of each node
pub record ClosedView : Type 0 where
  pub catalogue : CatalogueView
  pub log : Log
  pub replicas : List ReplicaView

-- the state after the whole history: what the records that the log keeps leave of its base
abbrev pub last_state : ClosedView → StoreState
last_state closed = after store_meaning closed.catalogue closed.log.base_state closed.log.records

-- the log has the sizes of the catalogue, and updates of it
pub record IsLogFor (c : CatalogueView) (g : Log) : Type 0 where
  pub sizes : sizes_of g.base_state ≡ sizes_for c
  pub updates : AreUpdates c g.records

-- the log, and then the replicas
abbrev pub replica_slots : List (Box NodeReplica) → List (Option Value)
replica_slots [] = []
replica_slots (n ∷ ns) = Some (Replica n) ∷ replica_slots ns

abbrev pub AreLeft : List (Option Value) → Type 0
AreLeft values = (g : Box Log) × (ns : List (Box NodeReplica)) × (values ≡ Some (LogPlace g) ∷ replica_slots ns)

-- and how they are seen
abbrev pub log_in : List (Option Value) → Log
log_in (Some (LogPlace g) ∷ vs) = g.value
log_in _ = opened_log (opening_state no_catalogue) 0 0 0

abbrev pub replicas_in : List (Option Value) → List ReplicaView
replicas_in [] = []
replicas_in (Some (Replica n) ∷ vs) = n.value.replica ∷ replicas_in vs
replicas_in (v ∷ vs) = replicas_in vs

abbrev pub closed_view : CatalogueView → List (Option Value) → ClosedView
closed_view c values = record { catalogue = c; log = log_in values; replicas = replicas_in values }

pub closed_code : Coded ClosedView
closed_code =
    code_by (CatalogueView × (Log × List ReplicaView)) (coded× catalogue_code (coded× log_code (coded_list replica_code)))
    (λ c. (c.catalogue, (c.log, c.replicas))) (λ p. record { catalogue = p.0; log = p.1.0; replicas = p.1.1 }) (λ _. refl)

-- what a store was opened with: its sizes and its catalogue
abbrev pub setup_of : StoreView → Setup
setup_of store = record { config = store.config; catalogue = store.catalogue }

-- what a closed store has, by what its sessions bring
pub record IsClosed (store : StoreView) (sessions : List SessionView) (closed : ClosedView) : Type 0 where
  -- one history of the store's catalogue within its limit, grown from what each session knew
  pub progress : Progress CatalogueView
  pub of : (progress.config ≡ store.config) × (progress.catalogue ≡ store.catalogue)
  pub well_formed : IsWellFormed store_meaning progress
  pub grown : (a : ℕ) (s : SessionView) → At a s sessions → Extends s.progress progress
  -- the closed store's catalogue is the store's, and its last state is that after the whole history
  pub catalogue : closed.catalogue ≡ store.catalogue
  pub last : last_state closed ≡ state_after store_meaning store.catalogue progress.history (length progress.history)
  -- the log agrees with it, and has the store's sizes
  pub log_is : LogAgrees store_meaning progress (log_value closed.log)
  pub log_tail : tail_of closed.log ≡ length progress.history
  pub log_sizes : HasLogSizes store.config store.catalogue closed.log
  -- each node has a replica, which agrees too, and has the store's sizes
  pub nodes : length closed.replicas ≡ store.config.nodes
  pub replica_is : (node : ℕ) (r : ReplicaView) → At node r closed.replicas → ReplicaAgrees store_meaning progress (replica_value r)
  pub replica_sizes : (node : ℕ) (r : ReplicaView) → At node r closed.replicas → sizes_of r.state ≡ sizes_for store.catalogue
  -- one run of the steps of all sessions leads there from what the store was opened with, and the rules allow each step; it goes on from the
  -- run that a session knows, and has exactly the session's own steps, the last of which left the session's progress and note
  pub notes : List SessionNote
  pub run : Run (Progress CatalogueView) SessionNote Value
  pub leads : Runs store_rules (store_opening (setup_of store)) run progress notes
  pub noted : (a : ℕ) (s : SessionView) → At a s sessions → At s.session s.note notes
  pub goes_on : (a : ℕ) (s : SessionView) → At a s sessions → Continues s.run run
  pub own : (a : ℕ) (s : SessionView) → At a s sessions → own_steps s.session run ≡ s.steps
  pub ends : (a : ℕ) (s : SessionView) → At a s sessions → EndsWithOwn (known_of s)
  -- each session of the store is among these, so no other has a step in the run
  pub all : (c : ℕ) → c < sessions_of store.config → (a : ℕ) × (s : SessionView) × At a s sessions × (s.session ≡ c)
  -- the records of each session are its answered updates in order, and there are no others; each stands once, at its
  -- index, with the reply that it gets there
  pub records : (a : ℕ) (s : SessionView) → At a s sessions → records_of s.session progress.history ≡ numbered s.session 0 s.note.answered
  pub answered : (a q : ℕ) (s : SessionView) (u : AnsweredUpdate) → At a s sessions → At q u s.note.answered → StandsOnce store_meaning progress s.session q u
  pub authors : (i : ℕ) (r : Record) → At i r progress.history → (a : ℕ) × (s : SessionView) × At a s sessions × (r.author ≡ s.session)
