-- What any rules of a store have to say, whatever moves they allow: a session takes, puts back and is told by these alone.
use Rattle.std.specs.Prelude.{◌≡◌, ℕ, ◌≤◌, List, [], ◌++◌, length, drop}
use Rattle.ownlock.specs.declared.known.Known.{Known}
use Rattle.ownlock.specs.Rules.{Rules, Laws}
use Rattle.ownlock.specs.Seats.{At}
use Rattle.oplog.specs.History.{Meaning, History, state_after}
use Rattle.accounts.specs.declared.sessions.Progress.{Progress}
use Rattle.accounts.specs.declared.sessions.SessionNote.{SessionNote}
use Rattle.combiner.specs.Desks.{DeskView}
use Rattle.accounts.specs.Values.{LogValue, ReplicaValue, StoreValue, TheLog, TheReplica, TheDesk}
use Rattle.accounts.specs.Accounts.{Accounts, Extends}
use Rattle.accounts.specs.Agreement.{AgreesWith, log_place}
use Rattle.accounts.specs.Moves.{MayHold, with_records}

module _ {C M : Type 0} (E : Meaning C M) (R : Rules (Progress C) SessionNote (StoreValue M)) where
  -- the rules are a store's: they say at least what its history, its notes and its values are, and let a session hold what it may, and change nothing
  pub record IsStoreRules : Type 0 where
    pub laws : Laws R
    pub extends : (a b : Progress C) → R.Extends a b → Extends a b
    pub same : (a b : Progress C) → R.SameHistory a b → a.history ≡ b.history
    pub accounts : (l : Progress C) (ns : List SessionNote) → R.Accounts l ns → Accounts E l ns
    pub agrees : (p : ℕ) (l : Progress C) (ns : List SessionNote) (v : StoreValue M) → R.AgreesWith p l ns v → AgreesWith E p l ns v
    pub log : (p : ℕ) (l : Progress C) (ns : List SessionNote) (x : LogValue M) → AgreesWith E p l ns (TheLog x) → R.AgreesWith p l ns (TheLog x)
    pub replica : (p : ℕ) (l : Progress C) (ns : List SessionNote) (x : ReplicaValue M) → AgreesWith E p l ns (TheReplica x) → R.AgreesWith p l ns (TheReplica x)
    pub allows : (l : Progress C) (c : ℕ) (places : List ℕ) → MayHold l c places → R.Allows l c places
    -- who has a value that agrees may change nothing
    pub stays : (p c : ℕ) (v : StoreValue M) (l : Progress C) (n : SessionNote) (ns : List SessionNote) → R.AgreesWith p l ns v → R.Moves p c v l n l n

module _ {C M : Type 0} (R : Rules (Progress C) SessionNote (StoreValue M)) where
  -- no desk agrees at that place
  abbrev pub HasNoDesk : ℕ → Progress C → Type 0
  HasNoDesk p l = (ns : List SessionNote) (x : DeskView) → R.AgreesWith p l ns (TheDesk x) → ⊥

  -- wherever the others are by then, who holds the log may go on with these records at the history's end, and with the note n'
  abbrev pub MayAppend : Progress C → ℕ → SessionNote → History → SessionNote → Type 0
  MayAppend known c n more n' = (l : Progress C) (x : LogValue M) → Extends known l → known.history ≡ l.history → R.Moves log_place c (TheLog x) l n (with_records l more) n'

-- what a session notes when it puts a value back: of the records that it appended from that place on, and, by what it knew, of a desk
pub record Noting (C V : Type 0) : Type 0 where
  pub appended : ℕ → History → SessionNote → SessionNote
  pub at_desk : Known (Progress C) SessionNote V → DeskView → SessionNote → SessionNote

-- of no records, and of a desk that is as it was taken, a session notes nothing
pub record IsNoting {C M V : Type 0} (view : V → StoreValue M) (noting : Noting C V) : Type 0 where
  pub none : (i : ℕ) (n : SessionNote) → noting.appended i [] n ≡ n
  pub same : (k : Known (Progress C) SessionNote V) (a p : ℕ) (v : V) (y : DeskView) → At a (p, v) k.held → view v ≡ TheDesk y → noting.at_desk k y k.note ≡ k.note

module _ {C M : Type 0} (E : Meaning C M) where
  -- the log y has the known history from its base on, and these records; the base and its own completed tail may have risen, as far as is known to be completed
  pub record IsLogAfter (known : Progress C) (more : History) (y : LogValue M) : Type 0 where
    pub done : y.done ≤ known.completed
    pub base : y.base ≤ y.done
    pub below : y.base ≤ length known.history
    pub base_state : y.base_state ≡ state_after E known.catalogue known.history y.base
    pub records : y.records ≡ drop y.base known.history ++ more
