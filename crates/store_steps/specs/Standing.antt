-- What a session knows, and what its calls on the shelf make of that.
use Rattle.std.specs.Prelude.{◌≡◌, ℕ, ◌+◌, ◌<◌, ◌≤◌, min, List, [], ◌∷◌, length, drop, Some, IsSome, slice_get}
use Rattle.loader.specs.StoreState.{sizes_of}
use Rattle.ownlock.specs.declared.known.Known.{Known}
use Rattle.ownlock.specs.Rules.{leader}
use Rattle.ownlock.specs.declared.known.ShelfStep.TheVariants.{Raised}
use Rattle.ownlock.specs.Seats.{At, SeatView, tails_in}
use Rattle.loader.specs.CatalogueView.{CatalogueView, longest_part, sizes_for}
use Rattle.oplog.specs.declared.records.Record.{Record}
use Rattle.oplog.specs.declared.configuration.TheConstants.{ENDLESS, MAX_NODES, MAX_NODE_SLOTS}
use Rattle.oplog.specs.Logs.{Log as LogView, tail_of, left_of, room_in}
use Rattle.oplog.specs.History.{History, state_after}
use Rattle.oplog.specs.Sessions.{IsSessionOf, session}
use Rattle.machine.specs.declared.running.Outcome.{Outcome}
use Rattle.replica.specs.StoreMeaning.{store_meaning}
use Rattle.replica.specs.Views.{RepliesView}
use Rattle.replica.specs.Replaying.{IsAnswered}
use Rattle.accounts.specs.declared.sessions.Progress.{Progress}
use Rattle.accounts.specs.declared.sessions.SessionNote.{SessionNote}
use Rattle.accounts.specs.Accounts.{Accounts, Extends, IsWellFormed}
use Rattle.accounts.specs.Agreement.{LogAgrees, ReplicaAgrees, replica_place}
use Rattle.accounts.specs.Moves.{placed_from, raised, unplaced}
use Rattle.store_steps.specs.declared.steps.Caller.{Caller}
use Rattle.node.specs.declared.following.NodeReplica.{NodeReplica}
use Rattle.store_steps.specs.declared.values.Value.{Value}
use Rattle.store_steps.specs.Doing.{Did}
use Rattle.store_steps.specs.Lending.{replica_of}
use Rattle.store_steps.specs.Shelving.{IsSized, HasLogSizes, HasReplicaSizes, log_value, replica_value}

-- what a session of a store knows
abbrev pub SessionKnown : Type 0
SessionKnown = Known (Progress CatalogueView) SessionNote Value

-- a seat of its sessions
abbrev pub StoreSeat : Type 0
StoreSeat = SeatView (Progress CatalogueView) SessionNote Value

-- some notes, of which the session's own is one, go with the progress that it knows
pub record Stands (k : SessionKnown) : Type 0 where
  pub notes : List SessionNote
  pub accounts : Accounts store_meaning k.progress notes
  pub here : At k.session k.note notes

-- ---- the parts that are lent to it

-- the replica agrees with the progress, and its hand is empty
abbrev pub Agrees : Progress CatalogueView → NodeReplica → Type 0
Agrees l n = ReplicaAgrees store_meaning l (replica_value n.replica) × HasReplicaSizes l.config l.catalogue n

-- the replica has the state after a beginning of the history, completed or not, and its hand is empty
pub record Follows (l : Progress CatalogueView) (n : NodeReplica) : Type 0 where
  pub within : n.replica.tail ≤ length l.history
  pub state : n.replica.state ≡ state_after store_meaning l.catalogue l.history n.replica.tail
  pub sizes : sizes_of n.replica.state ≡ sizes_for l.catalogue
  pub window : n.hand.window ≡ l.config.window
  pub long : n.hand.long ≡ longest_part l.catalogue
  pub begins : n.hand.begin ≡ n.replica.tail
  pub empty : n.hand.records ≡ []

-- the replica has the state after a beginning of the history, and its hand has all other records
pub record HasOthers (l : Progress CatalogueView) (n : NodeReplica) : Type 0 where
  pub within : n.replica.tail ≤ length l.history
  pub state : n.replica.state ≡ state_after store_meaning l.catalogue l.history n.replica.tail
  pub sizes : sizes_of n.replica.state ≡ sizes_for l.catalogue
  pub few : length l.history ≤ ENDLESS
  pub hand : n.hand ≡ record { begin = n.replica.tail; records = drop n.replica.tail l.history; window = l.config.window; long = longest_part l.catalogue }

-- the log is that of the progress, and ends where the history ends
pub record IsLogOf (l : Progress CatalogueView) (g : LogView) : Type 0 where
  pub agrees : LogAgrees store_meaning l (log_value g)
  pub tail : tail_of g ≡ length l.history
  pub sizes : HasLogSizes l.config l.catalogue g

-- ---- which values it holds

-- the session holds its node's replica alone, which it took as w
pub record HoldsReplica (k : SessionKnown) (w : Value) : Type 0 where
  pub node : ℕ
  pub own : IsSessionOf k.progress.config node k.session
  pub held : k.held ≡ (replica_place k.progress.config node, w) ∷ []
  pub replica : IsSome (replica_of w)
  pub sized : IsSized k.progress.config k.progress.catalogue w

-- the session holds the log
abbrev pub HoldsLog : SessionKnown → Type 0
HoldsLog k = (x : Value) × (a : ℕ) × At a (leader, x) k.held

-- the session is that of the caller's slot, and holds nothing
pub record IsFree (caller : Caller) (k : SessionKnown) : Type 0 where
  pub own : k.session ≡ session k.progress.config caller.node caller.slot
  pub within : caller.slot < k.progress.config.slots
  pub near : caller.node < k.progress.config.nodes
  pub held : k.held ≡ []

-- the session's store has this catalogue and so many nodes, each with so many slots, and with a replica and a desk on
-- the shelf after the log
pub record IsOnShelf (places nodes slots : ℕ) (c : CatalogueView) (k : SessionKnown) : Type 0 where
  pub places_are : places ≡ 1 + nodes + nodes
  pub few : nodes ≤ MAX_NODES
  pub nodes_are : k.progress.config.nodes ≡ nodes
  pub slots_are : (k.progress.config.slots ≡ slots) × (slots ≤ MAX_NODE_SLOTS)
  pub catalogue_is : k.progress.catalogue ≡ c

-- ---- what its calls leave

-- the session has not let go of anything, nor read the completed tail, and its note may have changed
pub record GoesOn (k after : SessionKnown) : Type 0 where
  pub session : after.session ≡ k.session
  pub held : after.held ≡ k.held
  pub tails : tails_in after.steps ≡ tails_in k.steps
  pub extends : Extends k.progress after.progress

-- the session knows that so many operations are completed; while it holds the log, the history stands still
pub record HasRaised (k after : SessionKnown) (n : ℕ) : Type 0 where
  pub goes : GoesOn k after
  pub note : after.note ≡ k.note
  pub stands : Stands after
  pub completed : n ≤ after.progress.completed
  pub still : HoldsLog k → k.progress.history ≡ after.progress.history
  -- what stood just before the raise
  pub before : Progress CatalogueView
  pub was : Extends k.progress before
  pub is : after.progress ≡ raised before n
  pub did : Did k after (Raised n ∷ [])

-- the second log has the sizes of the first
abbrev pub KeepsLogSizes : LogView → LogView → Type 0
KeepsLogSizes g h = (h.window ≡ g.window) × (h.limit ≡ g.limit) × (sizes_of h.base_state ≡ sizes_of g.base_state) × (h.long ≡ g.long)

-- the log h has room for so many records, if the history may have them; it is g with a base that may have risen to the replica's tail
pub record HasPlace (k after : SessionKnown) (want : ℕ) (g h : LogView) (n : NodeReplica) : Type 0 where
  pub goes : GoesOn k after
  pub note : after.note ≡ k.note
  pub well : IsWellFormed store_meaning after.progress
  pub same : after.progress.history ≡ k.progress.history
  pub log : IsLogOf after.progress h
  pub keeps : KeepsLogSizes g h
  pub follows : Follows after.progress n
  pub above : h.base ≤ n.replica.tail
  pub room : min want (left_of h) ≤ room_in h

-- the log was taken and put back with the first of these records, all of them where the history may have so many, whose places the
-- session notes and for which outcomes are to be kept: the history ends with them; the hand of n has what its replica
-- has still to apply
pub record HasAppended (k after : SessionKnown) (records : History) (kept : RepliesView) (n : NodeReplica) : Type 0 where
  pub goes : GoesOn k after
  pub stands : Stands after
  pub rest : HasOthers after.progress n
  pub count : length kept.outcomes ≤ length records
  pub last : kept.first + length kept.outcomes ≡ length after.progress.history
  pub within : kept.first + length kept.outcomes ≤ ENDLESS
  pub above : n.replica.tail ≤ kept.first
  pub note : after.note ≡ record k.note { batch = placed_from kept.first (length kept.outcomes) (unplaced records) }
  pub placed : (j : ℕ) (r : Record) → j < length kept.outcomes → At j r records → At (kept.first + j) r after.progress.history
  pub ended : length kept.outcomes < length records → after.progress.config.limit ≤ length after.progress.history

-- of each record from the place t on, the outcome is kept, if its place is one of those that are kept
abbrev pub KeepsOutcomesOf : Progress CatalogueView → ℕ → RepliesView → RepliesView → Type 0
KeepsOutcomesOf l t old new =
    (k i : ℕ) (r : Record) → k < length old.outcomes → t ≤ i → At i r l.history → old.first + k ≡ i
    → (o : Outcome) × (slice_get new.outcomes k ≡ Some (Some o)) × IsAnswered l.catalogue r.op (state_after store_meaning l.catalogue l.history i) o

-- the replica has applied the whole history that the session k knew, and all of that is completed
pub record HasReplayed (k after : SessionKnown) (n m : NodeReplica) (old new : RepliesView) : Type 0 where
  pub goes : GoesOn k after
  pub note : after.note ≡ k.note
  pub completed : length k.progress.history ≤ after.progress.completed
  pub agrees : Agrees after.progress m
  pub within : m.replica.tail ≤ length after.progress.history
  pub first : new.first ≡ old.first
  pub count : length new.outcomes ≡ length old.outcomes
  pub replies : KeepsOutcomesOf k.progress n.replica.tail old new

-- the replica has reached at least that tail
pub record HasReached (k after : SessionKnown) (done : ℕ) (n : NodeReplica) : Type 0 where
  pub goes : GoesOn k after
  pub agrees : Agrees after.progress n
  pub within : n.replica.tail ≤ length after.progress.history
  pub reached : done ≤ n.replica.tail
