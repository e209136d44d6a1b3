use Rattle.host_calls.proofs.opening.let_go.Given as goal

abbrev pub decreases-loop-session : goal.decreases-loop-session
decreases-loop-session l = goal.left-loop-session l
