use Rattle.store_steps.specs.Shelving.{IsOpenedReplica}
use Rattle.store.proofs.Filled.{Grown}
use Rattle.store.proofs.opening.push_replicas.Given as goal

abbrev pub invariant-loop-node : goal.invariant-loop-node
invariant-loop-node l = record { grown : Grown l.initial.values.items l._node (λ i v. IsOpenedReplica l.initial.catalogue l.initial.config.window v) l.values.items }
