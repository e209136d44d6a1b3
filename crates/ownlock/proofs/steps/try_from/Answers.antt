use Rattle.std.proofs.Common.{refl, rules}
use Rattle.ownlock.proofs.Spots.{word_inside}
use Rattle.ownlock.proofs.Tries.{tries}
use Rattle.ownlock.proofs.steps.try_from.Goals as goal

pub compare_exchange-requires : goal.compare_exchange-requires
compare_exchange-requires g c =
    let m = c.requires.may in
    let h = c.requires.there in (
      search rules,
      word_inside c.args.steps.now.table_id _ _ _ h,
      tries g.V.Shelved.rules g.V.Shelved.laws _ _ h.0 _ g.W.AtPlace.place _ _ _ _ _ m.0 h.1.1 h.2.0 h.2.1 h.2.2 refl
          c.requires.free m.1 m.2,
    )
