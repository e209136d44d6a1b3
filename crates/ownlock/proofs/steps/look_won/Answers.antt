use Rattle.std.proofs.Common.{rules, subst, sym}
use Rattle.ownlock.specs.Knowledge.{MayTake}
use Rattle.ownlock.proofs.Spots.{spot_at, word_inside}
use Rattle.ownlock.proofs.Tries.{looks}
use Rattle.ownlock.proofs.steps.look_won.Goals as goal

pub load-requires : goal.load-requires
load-requires g c =
    let m = c.requires.may in
    let at = spot_at c.args.steps.now.table_id c.args.spot c.requires.there.0 g.W.AtPlace.place c.requires.there.1 in
    let may = subst (λ z. MayTake g.V.Shelved.rules z m.0) (sym c.requires.there.1) m.2 in (
      search rules,
      word_inside c.args.steps.now.table_id _ _ _ at,
      looks g.V.Shelved.rules g.V.Shelved.laws _ _ at.0 _ g.W.AtPlace.place _ _ m.0 at.1.1 at.2.0 at.2.1 m.1 may,
    )
