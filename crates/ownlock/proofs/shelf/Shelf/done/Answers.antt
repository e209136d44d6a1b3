use Rattle.std.proofs.Common.{rules}
use Rattle.ownlock.proofs.Tail.{reads}
use Rattle.ownlock.proofs.shelf.Shelf.done.Goals as goal

pub load-requires : goal.load-requires
load-requires g c = let m = c.requires.may in (search rules, search rules, reads g.V.Shelved.rules g.V.Shelved.laws _ _ _ _ _ _ m.0 g.M.Ask.note c.self.invariant.0.1 (search rules) (search rules) m.2)
