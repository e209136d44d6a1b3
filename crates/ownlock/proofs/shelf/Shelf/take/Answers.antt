use Rattle.std.proofs.Common.{ap, ◌∙◌}
use Rattle.ownlock.proofs.shelf.Shelf.take.Goals as goal

pub try_take-requires-clause-own : goal.try_take-requires-clause-own
try_take-requires-clause-own g c = ap (λ s. s.shelf) c.loop.invariant ∙ c.requires.own

pub try_take-requires-clause-may : goal.try_take-requires-clause-may
try_take-requires-clause-may g c = let m = c.requires.may in (m.0, ap (λ s. s.sessions) c.loop.invariant ∙ m.1, m.2)

pub returns-in-Some-try_take-clause-same : goal.returns-in-Some-try_take-clause-same
returns-in-Some-try_take-clause-same g c = (c.try_take.ensures.same ∙ ap (λ s. s.shelf) c.loop.invariant, c.in-Some-try_take.ensures.place)

pub returns-in-Some-try_take-clause-taken : goal.returns-in-Some-try_take-clause-taken
returns-in-Some-try_take-clause-taken g c k is = c.in-Some-try_take.ensures.taken k (ap (λ s. s.sessions) c.loop.invariant ∙ is)

pub loop-preserved : goal.loop-preserved
loop-preserved g c = c.in_default.ensures.taken ∙ c.loop.invariant
