use Rattle.std.proofs.Common.{◌∙◌}
use Rattle.ownlock.proofs.Passing.{is_out, taken_from}
use Rattle.ownlock.proofs.Spots.{spot_at}
use Rattle.ownlock.proofs.steps.mark.Goals as goal

pub try_from-found-requires-clause-there : goal.try_from-found-requires-clause-there
try_from-found-requires-clause-there g c =
    let t = c.requires.there in spot_at c.args.steps.now.table_id c.args.spot t.0 g.W.AtPlace.place t.1

pub returns-then-found-spot-clause-tried : goal.returns-then-found-spot-clause-tried
returns-then-found-spot-clause-tried g c k sits =
    is_out g.V.Shelved.rules g.W.AtPlace.place k _ _ ((c.try_from-found.ensures.tried k sits).1 c.if-found-spot.true)

pub try_again-requires-clause-there : goal.try_again-requires-clause-there
try_again-requires-clause-there g c =
    let t = c.requires.there in spot_at c.args.steps.now.table_id c.args.spot t.0 g.W.AtPlace.place t.1

pub try_again-requires-clause-may : goal.try_again-requires-clause-may
try_again-requires-clause-may g c =
    let m = c.requires.may in (m.0, (c.try_from-found.ensures.tried m.0 m.1).0 c.if-found-spot.false ∙ m.1, m.2)

pub returns-clause-tried : goal.returns-clause-tried
returns-clause-tried g c k sits =
    let same = (c.try_from-found.ensures.tried k sits).0 c.if-found-spot.false in
    taken_from g.V.Shelved.rules g.W.AtPlace.place k _ _ _ _ same (c.try_again.ensures.tried k (same ∙ sits))
