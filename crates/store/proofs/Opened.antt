-- What a store opens with agrees.
use Rattle.std.proofs.Common.{◌≡◌, sym, refl, ap, subst}
use Rattle.loader.specs.StoreState.{sizes_of}
use Rattle.loader.proofs.Export.{state_sizes, opening_is_state}
use Rattle.loader.specs.CatalogueView.{CatalogueView, IsCatalogue, sizes_for}
use Rattle.oplog.specs.declared.configuration.Sizes.{Sizes}
use Rattle.replica.specs.StoreMeaning.{store_meaning}
use Rattle.accounts.specs.Values.{TheLog, TheReplica}
use Rattle.accounts.specs.LogSteps.{first_log, first_replica}
use Rattle.node.specs.declared.following.NodeReplica.{NodeReplica}
use Rattle.store_steps.specs.declared.values.Value.{Value}
use Rattle.store_steps.specs.declared.values.Value.TheVariants.{Log, Replica, Desk}
use Rattle.store_steps.specs.Shelving.{view_of, IsSized, HasLogSizes, log_value, replica_value, resting_hand, IsOpenedLog, IsOpenedReplica}

pub log_opens : (config : Sizes) (c : CatalogueView) → IsCatalogue c → (v : Value)
    → IsOpenedLog c config.window config.limit v → (view_of v ≡ TheLog (first_log store_meaning c)) × IsSized config c v
log_opens config c whole (Log g) e = (ap (λ z. TheLog (log_value z)) e, subst (λ z. HasLogSizes config c z) (sym e) (refl, refl, state_sizes (opening_is_state c whole), refl))
log_opens config c whole (Replica n) e = absurd e
log_opens config c whole (Desk n) e = absurd e

pub replica_opens : (config : Sizes) (c : CatalogueView) → IsCatalogue c → (v : Value)
    → IsOpenedReplica c config.window v → (view_of v ≡ TheReplica (first_replica store_meaning c)) × IsSized config c v
replica_opens config c whole (Log g) e = absurd e
replica_opens config c whole (Desk g) e = absurd e
replica_opens config c whole (Replica n) e = (
  ap (λ (z : NodeReplica). TheReplica (replica_value z.replica)) e,
  subst (λ (z : NodeReplica). (sizes_of z.replica.state ≡ sizes_for c) × (z.hand ≡ resting_hand config c z.replica.tail)) (sym e) (state_sizes (opening_is_state c whole), refl),
)
