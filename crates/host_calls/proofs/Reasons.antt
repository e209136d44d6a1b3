-- Why a manifest is refused, where a store is opened and where a text is loaded.
use Rattle.std.proofs.Common.{ℕ, List, None}
use Rattle.loader.specs.declared.refusals.LoadError.{LoadError}
use Rattle.loader.specs.declared.refusals.LoadError.TheVariants as errors
use Rattle.host_calls.specs.declared.handles.Opening.{Opening as Asked}
use Rattle.host_calls.specs.declared.loading.NotLoaded.TheVariants.{Manifest}
use Rattle.host_calls.specs.declared.opening.NotOpened.TheVariants.{Loading}
use Rattle.host_calls.specs.Loadings.{IsLoadReason}
use Rattle.host_calls.specs.Openings.{IsReason}

pub of_manifest : (o : Asked) (text : List ℕ) (e : LoadError) → IsReason o None (Loading e)
    → IsLoadReason o text (Manifest e)
of_manifest o text errors.NoMemory reason = reason
of_manifest o text (errors.Refused bad) reason = reason
