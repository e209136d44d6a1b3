-- The log that a closed store leaves, and the state that it ends in.
use Rattle.std.proofs.Common.{◌≡◌, ◌+◌, [], ◌∷◌, ◌++◌, length, take, drop, take_all, take-append-drop, refl, sym, ap, ap₂, ◌∙◌, subst, arith, Some, slice_get}
use Rattle.loader.specs.StoreState.{StoreState, sizes_of}
use Rattle.loader.specs.CatalogueView.{CatalogueView, sizes_for}
use Rattle.oplog.specs.History.{History, after, left_by, state_after}
use Rattle.oplog.specs.Logs.{Log as LogView}
use Rattle.replica.specs.StoreMeaning.{store_meaning}
use Rattle.accounts.specs.declared.sessions.Progress.{Progress}
use Rattle.accounts.specs.Accounts.{IsWellFormed}
use Rattle.accounts.specs.Agreement.{LogAgrees}
use Rattle.accounts.proofs.Export.{at_of}
use Rattle.store.specs.Opening.{IsLogFor}
use Rattle.store_steps.specs.Shelving.{log_value}
use Rattle.store_steps.proofs.Export.{at_drop}

after_both : (c : CatalogueView) (state : StoreState) (first rest : History)
    → after store_meaning c state (first ++ rest) ≡ after store_meaning c (after store_meaning c state first) rest
after_both c state [] rest = refl
after_both c state (r ∷ rs) rest = after_both c (left_by (store_meaning.update c r.op state) state) rs rest

module _ (l : Progress CatalogueView) (g : LogView) (agrees : LogAgrees store_meaning l (log_value g)) where
  -- what it keeps leads from its base to the end of the history
  pub ends_in : after store_meaning l.catalogue g.base_state g.records ≡ state_after store_meaning l.catalogue l.history (length l.history)
  ends_in =
      ap₂ (λ s rs. after store_meaning l.catalogue s rs) agrees.base_state agrees.records
      ∙ sym (after_both l.catalogue (store_meaning.opening l.catalogue) (take g.base l.history) (drop g.base l.history))
      ∙ ap (λ (h : History). after store_meaning l.catalogue (store_meaning.opening l.catalogue) h) (take-append-drop g.base l.history ∙ sym (take_all (length l.history) l.history (omega arith)))

  pub is_log_for : IsWellFormed store_meaning l → sizes_of g.base_state ≡ sizes_for l.catalogue → IsLogFor l.catalogue g
  is_log_for well sizes = record {
    sizes = sizes;
    updates = λ k r e. well.allowed (g.base + k) r (at_drop g.base l.history k r (at_of (drop g.base l.history) k r (subst (λ z. slice_get z k ≡ Some r) agrees.records e)));
  }
