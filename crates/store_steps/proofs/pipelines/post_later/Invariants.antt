use Rattle.store_steps.proofs.Posting.{Posting}
use Rattle.store_steps.proofs.pipelines.post_later.Given as goal

abbrev pub invariant-loop-number : goal.invariant-loop-number
invariant-loop-number l = record { posting : Posting l.shared l.fn.members l.calls l.fn.last.0 l.fn.last.1 l.members l.number l.at l.held }

abbrev pub decreases-loop-number : goal.decreases-loop-number
decreases-loop-number l = l.number
