-- What a session may change of the progress and of its own note, by the value that it took.
use Rattle.std.specs.Prelude.{max, ◌≡◌, ℕ, zero, suc, ◌≤◌, ◌⊎◌, true, List, [], ◌∷◌, ◌++◌, map, take, length, Some, None}
use Rattle.ownlock.specs.Rules.{Rules}
use Rattle.ownlock.specs.Seats.{At}
use Rattle.oplog.specs.Operations.{Operation}
use Rattle.oplog.specs.declared.records.Record.{Record}
use Rattle.oplog.specs.History.{Meaning, History}
use Rattle.accounts.specs.declared.sessions.Progress.{Progress}
use Rattle.accounts.specs.declared.sessions.Pending.{Pending}
use Rattle.accounts.specs.declared.sessions.BegunRead.{BegunRead}
use Rattle.accounts.specs.declared.sessions.Claim.{Claim}
use Rattle.accounts.specs.declared.sessions.SessionEvent.TheVariants.{UpdateCall, UpdateBack, ReadCall, ReadBack}
use Rattle.accounts.specs.declared.sessions.SessionNote.{SessionNote}
use Rattle.combiner.specs.Desks.{DeskView, batch_of}
use Rattle.combiner.specs.declared.slots.Slot.{Slot}
use Rattle.combiner.specs.declared.slots.Stage.TheVariants.{Answered}
use Rattle.combiner.specs.declared.slots.Reply.{Reply}
use Rattle.combiner.specs.declared.slots.Reply.TheVariants.{Placed, Ended}
use Rattle.accounts.specs.Values.{StoreValue, TheLog, TheReplica, TheDesk}
use Rattle.oplog.specs.Sessions.{IsSessionOf, session}
use Rattle.accounts.specs.Accounts.{Accounts, Extends, IsAllowed}
use Rattle.accounts.specs.Told.{ReadTells}
use Rattle.accounts.specs.Agreement.{AgreesWith, log_place, replica_place, desk_place}

-- the progress with these records at its end
abbrev pub with_records : {C : Type 0} → Progress C → History → Progress C
with_records l more = record { config = l.config; catalogue = l.catalogue; history = l.history ++ more; completed = l.completed }

-- a batch whose first k requests were appended, from this place on
abbrev pub placed_from : ℕ → ℕ → List Claim → List Claim
placed_from from zero ts = ts
placed_from from (suc k) [] = []
placed_from from (suc k) (t ∷ ts) = record { request = t.request; index = Some from } ∷ placed_from (suc from) k ts

abbrev pub record_of : Claim → Record
record_of t = t.request

-- requests, none of which has a place
abbrev pub unplaced : List Record → List Claim
unplaced rs = map (λ r. record { request = r; index = None }) rs

-- the note once the session has called this update; once it has posted this request; and once it has this answer
abbrev pub called_with : SessionNote → Operation → SessionNote
called_with n op = record n { events = n.events ++ UpdateCall op ∷ [] }

abbrev pub posted_with : SessionNote → Pending → SessionNote
posted_with n o = record (called_with n o.op) { pending = Some o }

abbrev pub answered_with : SessionNote → Operation → Reply → SessionNote
answered_with n op (Placed i reply) = record n {
  answered = n.answered ++ record { index = i; op = op; reply = reply } ∷ [];
  pending = None;
  events = n.events ++ UpdateBack (Placed i reply) ∷ [];
}
answered_with n op Ended = record n { pending = None; events = n.events ++ UpdateBack Ended ∷ [] }

-- the session waits for nothing: neither an update nor a read is out
abbrev pub IsAtRest : SessionNote → Type 0
IsAtRest n = (n.pending ≡ None) × (n.begun ≡ None)

-- the note once the session has asked this read, when no more than so many operations are completed; and once it has this answer
abbrev pub begun_with : SessionNote → Operation → ℕ → SessionNote
begun_with n op seen = record n { begun = Some (record { op = op; seen = seen }); events = n.events ++ ReadCall op ∷ [] }

abbrev pub heard_with : SessionNote → (point reply : ℕ) → SessionNote
heard_with n point reply = record n { begun = None; events = n.events ++ ReadBack point reply ∷ [] }

-- what session c may hold at once, the one taken last first: nothing, the desk of its node alone, the replica of its node, the log, or these two
pub data MayHold {C : Type 0} (l : Progress C) (c : ℕ) (places : List ℕ) : Type 0 where
  HoldsNothing : places ≡ [] → MayHold l c places
  HoldsLog : places ≡ log_place ∷ [] → MayHold l c places
  HoldsDesk : (node : ℕ) → IsSessionOf l.config node c → places ≡ desk_place l.config node ∷ [] → MayHold l c places
  HoldsReplica : (node : ℕ) → IsSessionOf l.config node c → places ≡ replica_place l.config node ∷ [] → MayHold l c places
  HoldsBoth : (node : ℕ) → IsSessionOf l.config node c → places ≡ log_place ∷ replica_place l.config node ∷ [] → MayHold l c places

-- the progress, all of whose first n operations are completed
abbrev pub raised : {C : Type 0} → Progress C → ℕ → Progress C
raised l n = record l { completed = max l.completed n }

module _ {C M : Type 0} (E : Meaning C M) where
  -- at the desk of its node a session changes nothing but its note
  pub data DeskMove (x : DeskView) (c : ℕ) (l : Progress C) (n n' : SessionNote) : Type 0 where
    Posts : (o : Pending) → IsAtRest n → IsAllowed E l.catalogue o.op → o.seen ≤ length l.history → n' ≡ posted_with n o → DeskMove x c l n n'
    Claims : n.batch ≡ [] → n' ≡ record n { batch = unplaced (batch_of x).records } → DeskMove x c l n n'
    Replies : n' ≡ record n { batch = [] } → DeskMove x c l n n'
    Collects : (s : ℕ) (slot : Slot) (o : Pending) (answer : Reply) → c ≡ session l.config x.node s → At s slot x.slots → slot.stage ≡ Answered answer → n.pending ≡ Some o → n' ≡ answered_with n o.op answer → DeskMove x c l n n'

  -- A session that waits for nothing asks a read. No more is completed than it notes, and it notes no more than the history has.
  pub record Begins (l : Progress C) (n n' : SessionNote) : Type 0 where
    pub op : Operation
    pub seen : ℕ
    pub rests : IsAtRest n
    pub may : E.is_read l.catalogue op ≡ true
    pub reached : l.completed ≤ seen
    pub within : seen ≤ length l.history
    pub note : n' ≡ begun_with n op seen

  -- it changes nothing, or asks a read
  abbrev pub MayBegin : Progress C → (n n' : SessionNote) → Type 0
  MayBegin l n n' = (n' ≡ n) ⊎ Begins l n n'

  -- the log is put back with the first k requests of the session's batch
  pub record BatchAppended (l : Progress C) (n : SessionNote) (l' : Progress C) (n' : SessionNote) : Type 0 where
    pub count : ℕ
    pub unplaced : (j : ℕ) (t : Claim) → At j t n.batch → t.index ≡ None
    pub within : count ≤ length n.batch
    pub history : l'.history ≡ l.history ++ map record_of (take count n.batch)
    pub limit : length l'.history ≤ l.config.limit
    pub note : n' ≡ record n { batch = placed_from (length l.history) count n.batch }

  -- who holds the log may append from its batch, or ask a read
  pub record LogMove (l : Progress C) (n : SessionNote) (l' : Progress C) (n' : SessionNote) : Type 0 where
    pub config : l'.config ≡ l.config
    pub catalogue : l'.catalogue ≡ l.catalogue
    pub completed : l'.completed ≡ l.completed
    pub appends : ((l'.history ≡ l.history) × MayBegin l n n') ⊎ BatchAppended l n l' n'

  -- it has the answer to the read that it asked
  abbrev pub Hears : Progress C → (n n' : SessionNote) → Type 0
  Hears l n n' = (read : BegunRead) × (point : ℕ) × (reply : ℕ) × (n.begun ≡ Some read)
      × ReadTells E l read.seen read.op point reply × (n' ≡ heard_with n point reply)

  abbrev pub Moves : ℕ → ℕ → StoreValue M → Progress C → SessionNote → Progress C → SessionNote → Type 0
  Moves p c (TheLog x) l n l' n' = (p ≡ log_place) × LogMove l n l' n'
  Moves p c (TheReplica x) l n l' n' = (l' ≡ l) × ((n' ≡ n) ⊎ Hears l n n')
  Moves p c (TheDesk x) l n l' n' = (l' ≡ l) × ((n' ≡ n) ⊎ (IsSessionOf l.config x.node c × DeskMove x c l n n'))

  -- a store whose sessions combine at desks
  abbrev pub desk_rules : Rules (Progress C) SessionNote (StoreValue M)
  desk_rules = record {
    Extends = Extends;
    SameHistory = λ a b. a.history ≡ b.history;
    Accounts = Accounts E;
    AgreesWith = AgreesWith E;
    Allows = MayHold;
    Moves = Moves;
    Asks = λ c. MayBegin;
    completed = λ l. l.completed;
    raised = raised;
    Reaches = λ l n. n ≤ length l.history;
  }
