use Rattle.std.proofs.Common.{refl}
use Rattle.store_steps.proofs.Played.{has_raised}
use Rattle.store_steps.proofs.steps.raise_to.Goals as goal

pub raise-requires-clause-may : goal.raise-requires-clause-may
raise-requires-clause-may c = c.requires.known

pub returns-clause-raised : goal.returns-clause-raised
returns-clause-raised c k is =
    let r = c.raise.ensures.raised k is in
    (_, r.4, has_raised k r.0 _ _ _ r.5 refl r.1 r.2)
