-- What a session of a store is told when it takes a value, and what it may put back, under any rules R of a store. A value of type V
-- is seen as a store's value, and its sizes are those of the configuration and the catalogue.
use Rattle.std.specs.Prelude.{◌≡◌, ◌≢◌, ℕ, ◌<◌, ◌≤◌, List, [], ◌∷◌, length, replicate}
use Rattle.ownlock.specs.declared.known.Known.{Known}
use Rattle.ownlock.specs.declared.known.ShelfStep.TheVariants.{Took}
use Rattle.ownlock.specs.Rules.{Rules}
use Rattle.ownlock.specs.Seats.{At, HasStepped}
use Rattle.ownlock.specs.Knowledge.{Acquired, MayTake, MayPut}
use Rattle.oplog.specs.declared.configuration.Sizes.{Sizes}
use Rattle.oplog.specs.History.{Meaning, History}
use Rattle.accounts.specs.declared.sessions.Progress.{Progress}
use Rattle.accounts.specs.declared.sessions.SessionNote.{SessionNote}
use Rattle.accounts.specs.Values.{LogValue, ReplicaValue, StoreValue, TheLog, TheReplica, TheDesk}
use Rattle.oplog.specs.Sessions.{IsSessionOf}
use Rattle.accounts.specs.Accounts.{Accounts, Extends}
use Rattle.accounts.specs.Agreement.{log_place, replica_place, LogAgrees, ReplicaAgrees, DeskAgrees, desk_place}
use Rattle.accounts.specs.LogSteps.{first_progress, fresh_note, first_log, first_replica}
use Rattle.accounts.specs.Moves.{with_records, desk_rules}
use Rattle.accounts.specs.Seen.{seen_rules}
use Rattle.accounts.specs.StoreRules.{HasNoDesk, MayAppend, IsLogAfter}
use Rattle.combiner.specs.Desks.{DeskView}
use Rattle.accounts.specs.DeskSteps.{DeskStep}

-- the second value has the sizes that the first has
abbrev pub KeepsSizes : {C V : Type 0} → (Sizes → C → V → Type 0) → V → V → Type 0
KeepsSizes {C} IsSized v w = (config : Sizes) (c : C) → IsSized config c v → IsSized config c w

module _ {C M V : Type 0} (E : Meaning C M) (R : Rules (Progress C) SessionNote (StoreValue M)) (view : V → StoreValue M) (IsSized : Sizes → C → V → Type 0) where
  abbrev pub the_rules : Rules (Progress C) SessionNote V
  the_rules = seen_rules view IsSized R

  -- who holds nothing may take the log or the replica of its node, and who holds that replica alone may take the log
  abbrev pub MayTakeFirst : Type 0
  MayTakeFirst =
      (k : Known (Progress C) SessionNote V) (node : ℕ) → k.held ≡ [] → IsSessionOf k.progress.config node k.session → MayTake the_rules (replica_place k.progress.config node) k × MayTake the_rules log_place k

  abbrev pub MayTakeSecond : Type 0
  MayTakeSecond = (k : Known (Progress C) SessionNote V) (node : ℕ) (v : V) → k.held ≡ (replica_place k.progress.config node, v) ∷ [] → IsSessionOf k.progress.config node k.session → MayTake the_rules log_place k

  -- who holds nothing may take the desk of its node
  abbrev pub MayTakeDesk : Type 0
  MayTakeDesk = (k : Known (Progress C) SessionNote V) (node : ℕ) → k.held ≡ [] → IsSessionOf k.progress.config node k.session → MayTake the_rules (desk_place k.progress.config node) k

  -- what the session k has become, now that it has taken the value v of the place p; and what all progress and notes may be
  pub record IsTaken (p : ℕ) (k now : Known (Progress C) SessionNote V) (v : V) : Type 0 where
    pub session : now.session ≡ k.session
    pub note : now.note ≡ k.note
    pub held : now.held ≡ (p, v) ∷ k.held
    pub steps : HasStepped k (Took p v) now
    pub extends : Extends k.progress now.progress
    pub sized : IsSized now.progress.config now.progress.catalogue v
    pub notes : List SessionNote
    pub accounts : Accounts E now.progress notes
    pub here : At now.session now.note notes

  -- who takes the first place has the log
  abbrev pub TakesLog : Type 0
  TakesLog = (k now : Known (Progress C) SessionNote V) (v : V) → Acquired the_rules log_place k now v → IsTaken log_place k now v × ((x : LogValue M) × (view v ≡ TheLog x) × LogAgrees E now.progress x)

  -- who takes another place, at which no desk is, has a replica
  abbrev pub TakesReplica : Type 0
  TakesReplica =
      (p : ℕ) (k now : Known (Progress C) SessionNote V) (v : V) → p ≢ log_place → HasNoDesk R p now.progress → Acquired the_rules p k now v
      → IsTaken p k now v × ((x : ReplicaValue M) × (view v ≡ TheReplica x) × ReplicaAgrees E now.progress x)

  -- as who takes the place of a node's replica
  abbrev pub TakesItsReplica : Type 0
  TakesItsReplica =
      (p node : ℕ) (k now : Known (Progress C) SessionNote V) (v : V) → p ≡ replica_place k.progress.config node → node < k.progress.config.nodes → Acquired the_rules p k now v
      → IsTaken p k now v × ((x : ReplicaValue M) × (view v ≡ TheReplica x) × ReplicaAgrees E now.progress x)

  -- who takes the place of a node's desk has that desk
  abbrev pub TakesDesk : Type 0
  TakesDesk =
      (p node : ℕ) (k now : Known (Progress C) SessionNote V) (v : V) → p ≡ desk_place k.progress.config node → Acquired the_rules p k now v
      → (t : IsTaken p k now v) × (x : DeskView) × (view v ≡ TheDesk x) × (x.node ≡ node) × DeskAgrees E now.progress t.notes x

  -- the log and the replicas that a store opens with agree
  abbrev pub StoreOpens : Type 0
  StoreOpens =
      (config : Sizes) (c : C) (count : ℕ)
      → Accounts E (first_progress config c) (replicate count fresh_note)
      × ((v : V) → view v ≡ TheLog (first_log E c) → IsSized config c v → the_rules.AgreesWith log_place (first_progress config c) (replicate count fresh_note) v)
      × ((node : ℕ) (v : V) → node < config.nodes → view v ≡ TheReplica (first_replica E c) → IsSized config c v → the_rules.AgreesWith (replica_place config node) (first_progress config c) (replicate count fresh_note) v)

  -- the value that agrees at the first place is the log, and one that agrees elsewhere, where no desk is, is a replica
  abbrev pub AgreesLog : Type 0
  AgreesLog = (l : Progress C) (ns : List SessionNote) (v : V) → the_rules.AgreesWith log_place l ns v → ((x : LogValue M) × (view v ≡ TheLog x) × LogAgrees E l x) × IsSized l.config l.catalogue v

  abbrev pub AgreesReplica : Type 0
  AgreesReplica =
      (p : ℕ) (l : Progress C) (ns : List SessionNote) (v : V) → p ≢ log_place → HasNoDesk R p l → the_rules.AgreesWith p l ns v → ((x : ReplicaValue M) × (view v ≡ TheReplica x) × ReplicaAgrees E l x) × IsSized l.config l.catalogue v

  -- a value that is seen as it was may be put back
  abbrev pub SameMayPut : Type 0
  SameMayPut = (k : Known (Progress C) SessionNote V) (p a : ℕ) (v w : V) → At a (p, v) k.held → view w ≡ view v → KeepsSizes IsSized v w → MayPut the_rules (λ l. l) (λ n. n) k p w

  -- a log with records that the session may append may be put back; the session's note is then the one that goes with these
  abbrev pub LogMayPut : Type 0
  LogMayPut =
      (k : Known (Progress C) SessionNote V) (a : ℕ) (v w : V) (x y : LogValue M) (more : History) (n' : SessionNote) → At a (log_place, v) k.held → view v ≡ TheLog x → view w ≡ TheLog y → KeepsSizes IsSized v w
      → MayAppend R k.progress k.session k.note more n' → IsLogAfter E k.progress more y → MayPut the_rules (λ l. with_records l more) (λ _. n') k log_place w

  -- a replica that was replayed as far as the known completed tail may be put back
  abbrev pub ReplicaMayPut : Type 0
  ReplicaMayPut =
      (k : Known (Progress C) SessionNote V) (p a : ℕ) (v w : V) (x y : ReplicaValue M) → At a (p, v) k.held → view v ≡ TheReplica x → view w ≡ TheReplica y → KeepsSizes IsSized v w → y.tail ≤ length k.progress.history → ReplicaAgrees E k.progress y
      → MayPut the_rules (λ l. l) (λ n. n) k p w

module _ {C M V : Type 0} (E : Meaning C M) (view : V → StoreValue M) (IsSized : Sizes → C → V → Type 0) where
  -- the session k holds the desk of its node, which it took from the place p as the value v, and has done a step there, after which the value is w
  -- and the session notes n'
  pub record HoldsDesk (k : Known (Progress C) SessionNote V) (p : ℕ) (v w : V) (x y : DeskView) (n' : SessionNote) : Type 0 where
    -- so many of the values that the session holds stand before the desk
    pub index : ℕ
    -- the session holds the desk
    pub held : At index (p, v) k.held
    -- the desk as it was taken
    pub was : view v ≡ TheDesk x
    -- the desk as it is after the step
    pub becomes : view w ≡ TheDesk y
    -- the desk has the sizes that it had
    pub sizes : KeepsSizes IsSized v w
    -- so much as the session knows to be completed is in the history that it knows
    pub completed : k.progress.completed ≤ length k.progress.history
    -- the desk is that of the session's own node
    pub own : IsSessionOf k.progress.config x.node k.session
    -- the step
    pub step : DeskStep E k.progress k.session k.note x n' y

  -- with desks: a desk after one of its steps may be put back
  abbrev pub SeenDeskMayPut : Type 0
  SeenDeskMayPut =
      (k : Known (Progress C) SessionNote V) (p : ℕ) (v w : V) (x y : DeskView) (n' : SessionNote) → HoldsDesk k p v w x y n' → MayPut (the_rules E (desk_rules E) view IsSized) (λ l. l) (λ _. n') k p w
