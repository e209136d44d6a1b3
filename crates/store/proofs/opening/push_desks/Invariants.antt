use Rattle.store.specs.Places.{IsOpenedDesk}
use Rattle.store.proofs.Filled.{Grown}
use Rattle.store.proofs.opening.push_desks.Given as goal

abbrev pub invariant-loop-node : goal.invariant-loop-node
invariant-loop-node l = record { grown : Grown l.initial.values.items l.node (λ i v. IsOpenedDesk l.initial.slots i v) l.values.items }
