use Rattle.ownlock.proofs.steps.is_taken.Given as goal

abbrev pub ghosts-look_won : goal.ghosts-look_won
ghosts-look_won g a = record { place = a.spot.place }

abbrev pub ghosts-mark : goal.ghosts-mark
ghosts-mark g a = record { place = a.spot.place }
