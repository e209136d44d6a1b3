use Rattle.std.proofs.Common.{◌∙◌}
use Rattle.ownlock.proofs.Passing.{is_out, out_from}
use Rattle.ownlock.proofs.steps.try_again.Goals as goal

pub try_from-now-requires-clause-may : goal.try_from-now-requires-clause-may
try_from-now-requires-clause-may g c = let m = c.requires.may in (m.0, c.loop.invariant.1 ∙ m.1, m.2)

pub returns-then-now-found-clause-tried : goal.returns-then-now-found-clause-tried
returns-then-now-found-clause-tried g c k sits =
    let R = g.V.Shelved.rules in
    let t = c.try_from-now.ensures.tried k (c.loop.invariant.1 ∙ sits) in
    is_out R g.W.AtPlace.place k _ _ (out_from R g.W.AtPlace.place _ _ _ k c.loop.invariant.1 (t.1 c.if-now-found.true))
