use Rattle.realtime.specs.Judging.{AreTurns, IsFirstOut}
use Rattle.realtime.proofs.orders.first_out_of_turn.Given as goal

abbrev pub invariant-loop-x : goal.invariant-loop-x
invariant-loop-x l = AreTurns l.calls l.x l.turns × IsFirstOut l.calls l.x l.first
