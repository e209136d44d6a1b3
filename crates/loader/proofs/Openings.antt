-- What a store opens on is a state of its catalogue.
use Rattle.std.proofs.Common.{Option, Some, None}
use Rattle.std.specs.Prelude.{IfSome}
use Rattle.loader.specs.StoreState.{StoreState, IsState}
use Rattle.loader.specs.CatalogueView.{CatalogueView, IsCatalogue, opening_state, or_new, sizes_for}
use Rattle.loader.proofs.States.{opened_is_state}

pub opening_is_state : (c : CatalogueView) → IsCatalogue c → IsState (sizes_for c) (opening_state c)
opening_is_state c whole = opens c.opening whole.opening
  where
    opens : (o : Option StoreState) → IfSome o (IsState (sizes_for c)) → IsState (sizes_for c) (or_new (sizes_for c) o)
    opens None h = opened_is_state (sizes_for c) whole.shapes whole.few_places whole.few_bytes
    opens (Some s) h = h
