-- What a session notes of a read: where it asks it, and where it puts back the replica that it has read.
use Rattle.std.specs.Prelude.{◌≡◌, ℕ, ◌≤◌, if◌then◌else◌, nat_le, true, length, Option, Some, None, option_map}
use Rattle.ownlock.specs.declared.known.Known.{Known}
use Rattle.ownlock.specs.Seats.{At}
use Rattle.ownlock.specs.Knowledge.{MayAsk, MayPut}
use Rattle.oplog.specs.declared.configuration.Sizes.{Sizes}
use Rattle.oplog.specs.Operations.{Operation}
use Rattle.oplog.specs.History.{Meaning}
use Rattle.accounts.specs.declared.sessions.Progress.{Progress}
use Rattle.accounts.specs.declared.sessions.BegunRead.{BegunRead}
use Rattle.accounts.specs.declared.sessions.SessionNote.{SessionNote}
use Rattle.accounts.specs.Values.{LogValue, ReplicaValue, StoreValue, TheLog, TheReplica}
use Rattle.accounts.specs.Agreement.{ReplicaAgrees, log_place}
use Rattle.accounts.specs.Moves.{IsAtRest, begun_with, desk_rules, heard_with}
use Rattle.accounts.specs.Putting.{KeepsSizes, the_rules}
use Rattle.accounts.specs.Told.{read_with}

-- the session asks this read, if it has one to ask, when no more than so many operations are completed
abbrev pub asked_with : Option Operation → (seen : ℕ) → SessionNote → SessionNote
asked_with None seen n = n
asked_with (Some op) seen n = begun_with n op seen

-- it does so where it loads the completed tail, if a replica with this tail has all that it finds to be completed
abbrev pub asked_at : Option Operation → (tail found : ℕ) → SessionNote → SessionNote
asked_at asked tail found n = if nat_le found tail then asked_with asked found n else n

-- and it has the answer to that
abbrev pub heard_at : Option Operation → (point reply : ℕ) → SessionNote → SessionNote
heard_at None point reply n = n
heard_at (Some op) point reply n = heard_with n point reply

-- the note after both
abbrev pub looked_with : Option Operation → (point reply : ℕ) → SessionNote → SessionNote
looked_with None point reply n = n
looked_with (Some op) point reply n = read_with n op point reply

module _ {C M V : Type 0} (E : Meaning C M) where
  -- the read, if there is one, is of the catalogue, and the session waits for nothing
  abbrev pub IsAskable : Known (Progress C) SessionNote V → Option Operation → Type 0
  IsAskable k asked = (op : Operation) → asked ≡ Some op → IsAtRest k.note × (E.is_read k.progress.catalogue op ≡ true)

module _ {C M V : Type 0} (E : Meaning C M) (view : V → StoreValue M) (IsSized : Sizes → C → V → Type 0) where
  -- so it may ask where it loads the completed tail, whatever it finds
  abbrev pub MayAskThere : Type 0
  MayAskThere =
      (asked : Option Operation) (tail : ℕ) (k : Known (Progress C) SessionNote V) → IsAskable E k asked
      → MayAsk (the_rules E (desk_rules E) view IsSized) (asked_at asked tail) k

  -- and where it puts back the log as it took it: it notes how long the history is
  abbrev pub AskedMayPut : Type 0
  AskedMayPut =
      (asked : Option Operation) (k : Known (Progress C) SessionNote V) (a : ℕ) (v : V) (x : LogValue M)
      → IsAskable E k asked → At a (log_place, v) k.held → view v ≡ TheLog x
      → MayPut (the_rules E (desk_rules E) view IsSized) (λ l. l) (asked_with asked (length k.progress.history)) k log_place v

  -- The session holds a replica that agrees with what it knows, as y, which it took from the place p as v. It has asked this read, which
  -- replies so on that replica.
  pub record HoldsAnswer (k : Known (Progress C) SessionNote V) (p : ℕ) (v w : V) (y : ReplicaValue M) (read : BegunRead) (reply : ℕ) : Type 0 where
    pub index : ℕ
    pub held : At index (p, v) k.held
    pub x : ReplicaValue M
    pub was : view v ≡ TheReplica x
    pub becomes : view w ≡ TheReplica y
    pub sizes : KeepsSizes IsSized v w
    pub within : y.tail ≤ length k.progress.history
    pub agrees : ReplicaAgrees E k.progress y
    pub begun : k.note.begun ≡ Some read
    pub seen : read.seen ≤ y.tail
    pub replies : option_map (λ e. e.reply) (E.read k.progress.catalogue read.op y.state) ≡ Some reply

  -- so it may put that replica back, and note the answer
  abbrev pub HeardMayPut : Type 0
  HeardMayPut =
      (k : Known (Progress C) SessionNote V) (p : ℕ) (v w : V) (y : ReplicaValue M) (read : BegunRead) (reply : ℕ)
      → HoldsAnswer k p v w y read reply
      → MayPut (the_rules E (desk_rules E) view IsSized) (λ l. l) (λ n. heard_with n y.tail reply) k p w
