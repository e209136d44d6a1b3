-- The laws for values that are seen as a store's values.
use Rattle.ownlock.specs.Rules.{Rules, Laws}
use Rattle.oplog.specs.declared.configuration.Sizes.{Sizes}
use Rattle.oplog.specs.History.{Meaning}
use Rattle.accounts.specs.declared.sessions.Progress.{Progress}
use Rattle.accounts.specs.declared.sessions.SessionNote.{SessionNote}
use Rattle.accounts.specs.Values.{StoreValue}
use Rattle.accounts.specs.Putting.{the_rules}
use Rattle.accounts.specs.StoreRules.{IsStoreRules}
use Rattle.accounts.proofs.Seen.{seen_laws}

pub laws_seen : {C M V : Type 0} {E : Meaning C M} {R : Rules (Progress C) SessionNote (StoreValue M)} → IsStoreRules E R → (view : V → StoreValue M) (IsSized : Sizes → C → V → Type 0) → Laws (the_rules E R view IsSized)
laws_seen {R = R} ok view IsSized = seen_laws view IsSized R ok.extends ok.laws
