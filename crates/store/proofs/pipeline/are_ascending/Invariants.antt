use Rattle.store.proofs.Ascending.{Checked}
use Rattle.store.proofs.pipeline.are_ascending.Given as goal

abbrev pub invariant-loop-number : goal.invariant-loop-number
invariant-loop-number l = record { checked : Checked l.store.config l.sessions l.node l.number l.lowest }
