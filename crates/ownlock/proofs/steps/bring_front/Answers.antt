use Rattle.std.proofs.Common.{rules, subst, sym}
use Rattle.ownlock.specs.Seats.{At}
use Rattle.ownlock.proofs.Spots.{word_inside}
use Rattle.ownlock.proofs.Frees.{fronts}
use Rattle.ownlock.proofs.steps.bring_front.Goals as goal

pub load-requires : goal.load-requires
load-requires g c =
    let m = c.requires.held in
    let h = c.requires.there.0.0 in (
      search rules,
      word_inside c.args.steps.now.table_id _ _ _ h,
      fronts g.V.Shelved.rules g.V.Shelved.laws _ _ _ g.W.AtPlace.place _ _ m.0 m.2.0 m.2.1 m.1
          (subst (λ z. At m.2.1 (z, m.2.0) m.0.held) (sym c.requires.there.1) m.2.2),
    )
