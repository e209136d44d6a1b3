-- A store of a catalogue may open on a state that was read for it.
use Rattle.std.proofs.Common.{◌≡◌, List, ℕ, Result, Ok, Err}
use Rattle.std.specs.Prelude.{IfOk}
use Rattle.loader.specs.StoreState.{StoreState}
use Rattle.loader.specs.CatalogueView.{CatalogueView, IsCatalogue, MayOpenOn, sizes_for}
use Rattle.dumps.specs.declared.refusals.DumpError.{DumpError}
use Rattle.dumps.specs.Loading.{loaded_state}
use Rattle.dumps.specs.Refusal.{IsLoadAnswer}
use Rattle.dumps.proofs.LoadedState.{loaded_is_state}

may_open : (c : CatalogueView) (text : List ℕ) (s : StoreState) → IsCatalogue c → loaded_state (sizes_for c) text ≡ Ok s → MayOpenOn c s
may_open c text s whole is =
    let state = loaded_is_state (sizes_for c) whole.shapes whole.few_bytes text s whole.few_places is in
    record { shapes = state.maps.same; few = state.programs.few; short = state.programs.short }

pub all_may_open : (c : CatalogueView) (text : List ℕ) (r : Result StoreState DumpError) → IsCatalogue c → IsLoadAnswer (loaded_state (sizes_for c) text) r → IfOk r (MayOpenOn c)
all_may_open c text (Ok s) whole is = may_open c text s whole is
all_may_open c text (Err e) whole is = tt
