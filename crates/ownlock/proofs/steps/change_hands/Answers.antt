use Rattle.std.proofs.Common.{rules, ◌∙◌}
use Rattle.ownlock.proofs.Hands.{hands, hands_marked}
use Rattle.ownlock.proofs.Spots.{word_inside}
use Rattle.ownlock.proofs.steps.change_hands.Goals as goal

pub load-requires : goal.load-requires
load-requires g c =
    let m = c.requires.may in
    let h = c.requires.there.0 in
    (search rules, word_inside c.args.steps.now.table_id _ _ _ h, hands_marked g.V.Shelved.rules g.V.Shelved.laws _ _ h.0 _ c.args.spot.place _ _ m.0 m.1 m.2 m.3 g.M.Change.progress g.M.Change.note h.1.1 h.2.0 h.2.1 m.4 m.5 m.6)

pub returns-then-load-lt-WINNERS-clause-handed : goal.returns-then-load-lt-WINNERS-clause-handed
returns-then-load-lt-WINNERS-clause-handed g c k m ms y is = (c.load.ensures.2 k m ms c.args.spot.place y is).1 c.if-load-lt-WINNERS.true

pub fetch_or-requires : goal.fetch_or-requires
fetch_or-requires g c =
    let m = c.requires.may in
    let h = c.requires.there.0 in
    let same = (c.load.ensures.2 m.0 m.1 m.2 c.args.spot.place m.3 m.4).0 c.if-load-lt-WINNERS.false in
    (search rules, word_inside c.args.steps.now.table_id _ _ _ h, hands g.V.Shelved.rules g.V.Shelved.laws _ _ h.0 _ c.args.spot.place _ _ _ m.0 m.1 m.2 m.3 g.M.Change.progress g.M.Change.note h.1.1 h.2.0 h.2.1 h.2.2 (same ∙ m.4) m.5 m.6)

pub returns-clause-handed : goal.returns-clause-handed
returns-clause-handed g c k m ms y is =
    let same = (c.load.ensures.2 k m ms c.args.spot.place y is).0 c.if-load-lt-WINNERS.false in
    c.fetch_or.ensures.2 k m ms c.args.spot.place y (same ∙ is)
