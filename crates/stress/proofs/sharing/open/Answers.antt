use Rattle.stress.proofs.OneHistory.{new_sessions}
use Rattle.stress.proofs.sharing.open.Goals as goal

pub returns-in-None-clause-sessions : goal.returns-in-None-clause-sessions
returns-in-None-clause-sessions c = new_sessions _ c.open.result c.unless_full.result c.unless_full.ensures c.open.ensures.sessions c.open.ensures.count c.open.ensures.own

pub returns-in-Some-clause-sessions : goal.returns-in-Some-clause-sessions
returns-in-Some-clause-sessions c =
    new_sessions _ c.open_on.result c.unless_full-in-Some.result c.unless_full-in-Some.ensures c.open_on.ensures.sessions c.open_on.ensures.count c.open_on.ensures.own
