use Rattle.std.proofs.Common.{rules}
use Rattle.ownlock.proofs.Keeps.{stands_there}
use Rattle.ownlock.proofs.steps.stand_at.Goals as goal

pub load-requires : goal.load-requires
load-requires g c = (search rules, search rules, stands_there g.V.Shelved.rules g.V.Shelved.laws _ g.M.Start.opened c.requires.opened _ _ _ _)
