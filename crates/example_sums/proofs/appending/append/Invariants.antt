use Rattle.example_sums.specs.Sums.{moved_progress, counted}
use Rattle.example_sums.proofs.appending.append.Given as goal

abbrev pub ghosts-put : goal.ghosts-put
ghosts-put g a = record { progress = moved_progress a.held.value; note = counted a.seat.now.sessions a.held.value }
