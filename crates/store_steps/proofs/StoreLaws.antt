-- The laws of a store's rules.
use Rattle.ownlock.specs.Rules.{Laws}
use Rattle.replica.specs.StoreMeaning.{store_meaning}
use Rattle.accounts.specs.StoreRules.{IsStoreRules, IsNoting}
use Rattle.accounts.proofs.Export.{desk_store, desk_notes, laws_seen}
use Rattle.store_steps.specs.Shelving.{view_of, IsSized, session_rules, session_noting, store_rules}

pub session_laws : IsStoreRules store_meaning session_rules
session_laws = desk_store store_meaning

pub session_notes : IsNoting view_of session_noting
session_notes = desk_notes view_of

pub store_laws : Laws store_rules
store_laws = laws_seen session_laws view_of IsSized
