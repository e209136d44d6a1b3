use Rattle.std.proofs.Common.{rules}
use Rattle.ownlock.proofs.Spots.{word_inside}
use Rattle.ownlock.proofs.Wins.{goes_free}
use Rattle.ownlock.proofs.winning.free_line.Goals as goal

pub compare_exchange-requires : goal.compare_exchange-requires
compare_exchange-requires g c =
    let m = c.requires.by in
    let h = c.requires.there.0 in (
      search rules,
      word_inside c.args.steps.now.table_id _ _ _ h,
      goes_free g.V.Shelved.rules g.V.Shelved.laws _ _ h.0 _ c.args.won.spot.place _ _ _ m.0 h.1.1 h.2.0 h.2.1 m.3 m.1
          m.2,
    )
