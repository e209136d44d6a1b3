use Rattle.std.proofs.Common.{rules}
use Rattle.ownlock.proofs.Tail.{raises}
use Rattle.ownlock.proofs.shelf.Shelf.raise.Goals as goal

pub fetch_max-requires : goal.fetch_max-requires
fetch_max-requires g c = let m = c.requires.may in (search rules, search rules, raises g.V.Shelved.rules g.V.Shelved.laws _ _ _ _ _ _ _ m.0 c.self.invariant.0.1 (search rules) (search rules) m.2)
