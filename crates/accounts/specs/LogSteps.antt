-- What a session puts back at the log and at a replica, by what it knows; and what a store opens with.
use Rattle.std.specs.Prelude.{◌≡◌, ℕ, ◌+◌, ◌*◌, ◌≤◌, List, [], ◌++◌, map, take, length, replicate, None}
use Rattle.ownlock.specs.Seats.{At}
use Rattle.oplog.specs.declared.configuration.Sizes.{Sizes}
use Rattle.oplog.specs.History.{Meaning}
use Rattle.accounts.specs.declared.sessions.Progress.{Progress}
use Rattle.accounts.specs.declared.sessions.Claim.{Claim}
use Rattle.accounts.specs.declared.sessions.SessionNote.{SessionNote}
use Rattle.accounts.specs.Values.{LogValue, ReplicaValue}
use Rattle.accounts.specs.Accounts.{Accounts, Extends}
use Rattle.accounts.specs.Agreement.{LogAgrees, ReplicaAgrees, DeskAgrees}
use Rattle.accounts.specs.Moves.{LogMove, desk_rules, placed_from, record_of, with_records}
use Rattle.accounts.specs.StoreRules.{IsLogAfter, MayAppend}
use Rattle.combiner.specs.Desks.{opened_desk}

abbrev pub fresh_note : SessionNote
fresh_note = record { answered = []; pending = None; batch = []; begun = None; events = [] }

-- no operation yet
abbrev pub first_progress : {C : Type 0} → Sizes → C → Progress C
first_progress config c = record { config = config; catalogue = c; history = []; completed = 0 }

module _ {C M : Type 0} (E : Meaning C M) where
  abbrev pub first_log : C → LogValue M
  first_log c = record { base = 0; base_state = E.opening c; records = []; done = 0 }

  abbrev pub first_replica : C → ReplicaValue M
  first_replica c = record { tail = 0; state = E.opening c }

  -- the first k requests of the batch may be appended, and y is the log with them
  pub record LogStep (known : Progress C) (n : SessionNote) (x : LogValue M) (k : ℕ) (y : LogValue M) : Type 0 where
    pub unplaced : (j : ℕ) (t : Claim) → At j t n.batch → t.index ≡ None
    pub count : k ≤ length n.batch
    pub limit : length (known.history ++ map record_of (take k n.batch)) ≤ known.config.limit
    pub log : IsLogAfter E known (map record_of (take k n.batch)) y

  abbrev pub appended_progress : Progress C → List Claim → Progress C
  appended_progress l batch = with_records l (map record_of batch)

  abbrev pub LogPuts : Type 0
  LogPuts =
      (known l : Progress C) (n : SessionNote) (x y : LogValue M) (k : ℕ) → Extends known l → known.history ≡ l.history → LogAgrees E l x → LogStep known n x k y
      → LogMove E l n (appended_progress l (take k n.batch)) (record n { batch = placed_from (length known.history) k n.batch })
      × LogAgrees E (appended_progress l (take k n.batch)) y

  -- such a step is one that the rules of desks allow
  abbrev pub BatchAppends : Type 0
  BatchAppends =
      (known : Progress C) (c : ℕ) (n : SessionNote) (x y : LogValue M) (k : ℕ) → LogStep known n x k y
      → MayAppend (desk_rules E) known c n (map record_of (take k n.batch)) (record n { batch = placed_from (length known.history) k n.batch })

  -- a replica that was replayed or rebased as far as the known completed tail
  abbrev pub ReplicaPuts : Type 0
  ReplicaPuts = (known l : Progress C) (y : ReplicaValue M) → y.tail ≤ length known.history → Extends known l → ReplicaAgrees E known y → ReplicaAgrees E l y

  -- what a store opens with agrees
  abbrev pub Opens : Type 0
  Opens =
      (config : Sizes) (c : C) (count : ℕ)
      → Accounts E (first_progress config c) (replicate count fresh_note)
      × LogAgrees E (first_progress config c) (first_log c)
      × ReplicaAgrees E (first_progress config c) (first_replica c)
      × ((node : ℕ) → node * config.slots + config.slots ≤ count → DeskAgrees E (first_progress config c) (replicate count fresh_note) (opened_desk node config.slots))
