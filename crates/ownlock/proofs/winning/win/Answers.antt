use Rattle.std.proofs.Common.{arith, rules}
use Rattle.ownlock.proofs.Spots.{word_inside}
use Rattle.ownlock.proofs.Wins.{wins}
use Rattle.ownlock.proofs.winning.win.Goals as goal

pub compare_exchange-requires : goal.compare_exchange-requires
compare_exchange-requires g c =
    let h = c.requires.there.0 in (
      search rules,
      word_inside c.args.steps.now.table_id _ _ _ h,
      wins g.V.Shelved.rules g.V.Shelved.laws _ _ h.0 _ c.args.spot.place _ c.args.session _ _ h.1.1 h.2.0 h.2.1
          (omega arith),
    )
