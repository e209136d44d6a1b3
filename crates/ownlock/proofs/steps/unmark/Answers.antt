use Rattle.std.proofs.Common.{rules, ap, ◌-◌, ◌∙◌}
use Rattle.ownlock.proofs.Frees.{frees, frees_alone}
use Rattle.ownlock.proofs.Spots.{word_inside}
use Rattle.ownlock.proofs.steps.unmark.Goals as goal

pub compare_exchange-requires : goal.compare_exchange-requires
compare_exchange-requires g c =
    let m = c.requires.may in
    let h = c.requires.there.0 in (
      search rules,
      word_inside c.args.steps.now.table_id _ _ _ h,
      frees_alone g.V.Shelved.rules g.V.Shelved.laws _ _ h.0 _ c.args.spot.place _ _ _ m.0 m.1 m.2
          g.M.Change.progress g.M.Change.note h.1.1 h.2.0 h.2.1 h.2.2 m.3 m.4,
    )

pub fetch_and-requires : goal.fetch_and-requires
fetch_and-requires g c =
    let m = c.requires.may in
    let h = c.requires.there.0 in
    let tells = c.compare_exchange.ensures.2 m.0 c.args.spot.place m.1 m.2 m.3 in
    let same = tells.0 c.if-compare_exchange-spot.true in (
      search rules,
      word_inside c.args.steps.now.table_id _ _ _ h,
      frees g.V.Shelved.rules g.V.Shelved.laws _ _ h.0 _ c.args.spot.place _ _ _ m.0 m.1 m.2
          g.M.Change.progress g.M.Change.note h.1.1 h.2.0 h.2.1 (ap (λ z. 18446744073709551615 - z) h.2.2) (same ∙ m.3)
          m.4,
    )

pub returns-then-compare_exchange-spot-clause-left : goal.returns-then-compare_exchange-spot-clause-left
returns-then-compare_exchange-spot-clause-left g c k y out is =
    let same = (c.compare_exchange.ensures.2 k c.args.spot.place y out is).0 c.if-compare_exchange-spot.true in
    c.fetch_and.ensures.2 k c.args.spot.place y out (same ∙ is)

pub returns-else-compare_exchange-spot-clause-left : goal.returns-else-compare_exchange-spot-clause-left
returns-else-compare_exchange-spot-clause-left g c k y out is =
    (c.compare_exchange.ensures.2 k c.args.spot.place y out is).1 c.if-compare_exchange-spot.false
