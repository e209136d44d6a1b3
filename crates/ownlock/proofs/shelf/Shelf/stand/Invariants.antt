use Rattle.std.proofs.Common.{Some}
use Rattle.ownlock.specs.Seats.{opened_with}
use Rattle.ownlock.proofs.shelf.Shelf.stand.Given as goal

abbrev pub ghosts-stand_at : goal.ghosts-stand_at
ghosts-stand_at g a = record { opened = Some (opened_with (g.V.Shelved.first_progress a.steps.now.key) (g.V.Shelved.places a.steps.now.key) (g.V.Shelved.first_notes a.steps.now.key)) }
