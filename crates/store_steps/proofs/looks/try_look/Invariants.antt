use Rattle.store_steps.proofs.Ready.{hears_there}
use Rattle.store_steps.proofs.looks.try_look.Given as goal

abbrev pub ghosts-try_hold_ready : goal.ghosts-try_hold_ready
ghosts-try_hold_ready g a = record { read = g.L.Look.asks a._look.now }

-- what the look has heard is noted where the replica is put back
abbrev pub ghosts-put : goal.ghosts-put
ghosts-put g a = record { progress = λ l. l; note = hears_there a.seat.now.sessions a.held.value }
