use Rattle.ownlock.proofs.steps.release.Given as goal

abbrev pub ghosts-bring_front : goal.ghosts-bring_front
ghosts-bring_front g a = record { place = a.spot.place }
