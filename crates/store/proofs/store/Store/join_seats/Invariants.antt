use Rattle.store.proofs.Joined.{Gathered}
use Rattle.store.proofs.store.Store.join_seats.Given as goal

abbrev pub invariant-loop-next : goal.invariant-loop-next
invariant-loop-next l = record { gathered : Gathered l.fn.self.id l.fn.sessions.items l.sessions.items l.all }

abbrev pub decreases-loop-next : goal.decreases-loop-next
decreases-loop-next l = goal.left-loop-next l
