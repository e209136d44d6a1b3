-- The rules for values of any type V that are seen as a store's values, and whose sizes are those of the configuration and the catalogue.
use Rattle.ownlock.specs.Rules.{Rules}
use Rattle.oplog.specs.declared.configuration.Sizes.{Sizes}
use Rattle.accounts.specs.declared.sessions.Progress.{Progress}
use Rattle.accounts.specs.declared.sessions.SessionNote.{SessionNote}
use Rattle.accounts.specs.Values.{StoreValue}

module _ {C M V : Type 0} (view : V → StoreValue M) (IsSized : Sizes → C → V → Type 0) where
  abbrev pub seen_rules : Rules (Progress C) SessionNote (StoreValue M) → Rules (Progress C) SessionNote V
  seen_rules R = record {
    Extends = R.Extends;
    SameHistory = R.SameHistory;
    Accounts = R.Accounts;
    AgreesWith = λ p l ns v. R.AgreesWith p l ns (view v) × IsSized l.config l.catalogue v;
    Allows = R.Allows;
    Moves = λ p c v. R.Moves p c (view v);
    Asks = R.Asks;
    completed = R.completed;
    raised = R.raised;
    Reaches = R.Reaches;
  }
