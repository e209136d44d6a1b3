use Rattle.accounts.proofs.Tellings.{tail_is, replays, replayed_agrees, placed_tells, ended_tells, reads_tell}
use Rattle.accounts.proofs.law.store_tells.Goals as goal

pub returns-clause-tail : goal.returns-clause-tail
returns-clause-tail g c = tail_is g.E.Effects.meaning

pub returns-clause-replays : goal.returns-clause-replays
returns-clause-replays g c = replays g.E.Effects.meaning

pub returns-clause-agrees : goal.returns-clause-agrees
returns-clause-agrees g c = replayed_agrees g.E.Effects.meaning

pub returns-clause-placed : goal.returns-clause-placed
returns-clause-placed g c = placed_tells g.E.Effects.meaning

pub returns-clause-ended : goal.returns-clause-ended
returns-clause-ended g c = ended_tells g.E.Effects.meaning

pub returns-clause-read : goal.returns-clause-read
returns-clause-read g c = reads_tell g.E.Effects.meaning
