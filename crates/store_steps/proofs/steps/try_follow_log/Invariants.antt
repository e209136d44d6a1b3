use Rattle.store_steps.proofs.Finished.{asks_there}
use Rattle.store_steps.proofs.steps.try_follow_log.Given as goal

-- a read is asked where the log is put back
abbrev pub ghosts-put : goal.ghosts-put
ghosts-put g a = record { progress = λ l. l; note = asks_there g.A.Asked.read a.seat.now.sessions }
