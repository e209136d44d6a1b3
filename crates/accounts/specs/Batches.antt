-- The batch that a combiner has in its hand, and the slots of its desk.
use Rattle.std.specs.Prelude.{◌≡◌, ℕ, ◌<◌, List, map}
use Rattle.ownlock.specs.Seats.{At}
use Rattle.oplog.specs.declared.records.Record.{Record}
use Rattle.oplog.specs.History.{Meaning}
use Rattle.oplog.specs.Sessions.{IsSessionOf}
use Rattle.combiner.specs.Desks.{DeskView, BatchView, IsBatchOf, batch_of}
use Rattle.accounts.specs.declared.sessions.Progress.{Progress}
use Rattle.accounts.specs.declared.sessions.Claim.{Claim}
use Rattle.accounts.specs.declared.sessions.SessionNote.{SessionNote}
use Rattle.accounts.specs.Accounts.{Accounts}
use Rattle.accounts.specs.Agreement.{DeskAgrees}
use Rattle.accounts.specs.Moves.{record_of}

-- the records are by ascending authors
abbrev pub Ascend : List Record → Type 0
Ascend rs = (i j : ℕ) (r s : Record) → At i r rs → At j s rs → i < j → r.author < s.author

-- the posted requests of a desk are
abbrev pub ClaimsAscend : Type 0
ClaimsAscend = (x : DeskView) → Ascend (batch_of x).records

module _ {C M : Type 0} (E : Meaning C M) where
  -- with the requests that its combiner notes, by ascending authors, a batch may be answered at the desk: they are those of the claimed slots
  abbrev pub BatchIs : Type 0
  BatchIs =
      (l : Progress C) (ns : List SessionNote) (c : ℕ) (n : SessionNote) (x : DeskView) (b : BatchView) (k : ℕ) (t : Claim) → Accounts E l ns → At c n ns → IsSessionOf l.config x.node c → DeskAgrees E l ns x
      → At k t n.batch → b.records ≡ map record_of n.batch → Ascend b.records → IsBatchOf x b
