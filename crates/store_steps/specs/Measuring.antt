-- What a store has done at one moment, how far a session's node has come then, and the steps that find it.
use Rattle.std.specs.Prelude.{◌≡◌, ℕ, ◌-◌, List, [], ◌∷◌, ◌++◌, length}
use Rattle.loader.specs.CatalogueView.{CatalogueView}
use Rattle.ownlock.specs.declared.known.ShelfStep.{ShelfStep}
use Rattle.ownlock.specs.declared.known.ShelfStep.TheVariants.{Took, Put, Read}
use Rattle.oplog.specs.Logs.{Log as LogView, tail_of}
use Rattle.oplog.specs.Sessions.{IsSessionOf}
use Rattle.replica.specs.StoreMeaning.{store_meaning}
use Rattle.accounts.specs.declared.sessions.Progress.{Progress}
use Rattle.accounts.specs.Accounts.{Extends, IsWellFormed}
use Rattle.accounts.specs.Agreement.{log_place, replica_place}
use Rattle.node.specs.declared.following.NodeReplica.{NodeReplica}
use Rattle.store_steps.specs.declared.measuring.Stats.{Stats}
use Rattle.store_steps.specs.Doing.{ALog, AReplica, ChangesNothing, Did, Part}
use Rattle.store_steps.specs.Standing.{Agrees, IsLogOf, SessionKnown}

-- the figures of this log and this replica, when so many operations are completed
pub record AreStats (stats : Stats) (completed : ℕ) (g : LogView) (n : NodeReplica) : Type 0 where
  pub completed_is : stats.completed ≡ completed
  pub appended : stats.appended ≡ tail_of g
  pub kept : stats.kept ≡ length g.records
  pub tail : stats.tail ≡ n.replica.tail
  pub lag : stats.lag ≡ completed - n.replica.tail

-- the log is taken, the completed tail is read, and the log is put back as it was
abbrev pub find_deeds : LogView → (completed : ℕ) → List (ShelfStep Part)
find_deeds g completed = Took log_place (ALog g) ∷ Read completed ∷ Put log_place (ALog g) ∷ []

-- so it is while the replica of this place is held, which is put back as it was
abbrev pub measure_deeds : (place : ℕ) → LogView → NodeReplica → (completed : ℕ) → List (ShelfStep Part)
measure_deeds place g n completed = Took place (AReplica n) ∷ (find_deeds g completed ++ Put place (AReplica n) ∷ [])

-- while it holds the replica n, the session has taken the log and read the completed tail
pub record HasFound (n : NodeReplica) (stats : Stats) (k after : SessionKnown) : Type 0 where
  pub session : after.session ≡ k.session
  pub held : after.held ≡ k.held
  pub note : after.note ≡ k.note
  pub moment : Progress CatalogueView
  pub since : Extends k.progress moment
  pub until : Extends moment after.progress
  pub log : LogView
  pub log_is : IsLogOf moment log
  pub are : AreStats stats moment.completed log n
  pub did : Did k after (find_deeds log stats.completed)

-- At one moment the session held the log and the replica of its own node, and these are the figures of that moment. Except for tries in vain the
-- session took nothing else, and it put both back as they were.
pub record MeasuresBy (k after : SessionKnown) (stats : Stats) : Type 0 where
  pub node : ℕ
  pub mine : IsSessionOf k.progress.config node k.session
  -- the history and its completed tail at that moment
  pub moment : Progress CatalogueView
  pub since : Extends k.progress moment
  pub until : Extends moment after.progress
  pub log : LogView
  pub log_is : IsLogOf moment log
  pub own : NodeReplica
  pub own_is : Agrees moment own
  pub are : AreStats stats moment.completed log own
  pub tries : List (ShelfStep Part)
  pub nothing : ChangesNothing tries
  pub did : Did k after (tries ++ measure_deeds (replica_place k.progress.config node) log own stats.completed)

-- the session has measured so, and holds nothing
pub record HasMeasured (stats : Stats) (k after : SessionKnown) : Type 0 where
  pub session : after.session ≡ k.session
  pub held : after.held ≡ []
  pub note : after.note ≡ k.note
  pub extends : Extends k.progress after.progress
  pub well_formed : IsWellFormed store_meaning after.progress
  pub by : MeasuresBy k after stats
