use Rattle.std.proofs.Common.{◌-◌}
use Rattle.store_steps.proofs.Collecting.{Collecting}
use Rattle.store_steps.proofs.pipelines.collect_each.Given as goal

abbrev pub invariant-loop-number : goal.invariant-loop-number
invariant-loop-number l = record { collecting : Collecting l.shared l.fn.members l.fn.first.0 l.fn.first.1 l.members l.number l.at l.held l.replies }

abbrev pub decreases-loop-number : goal.decreases-loop-number
decreases-loop-number l = l.last - l.number
