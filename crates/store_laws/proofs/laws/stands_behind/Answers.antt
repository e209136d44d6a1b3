use Rattle.store_laws.proofs.Behind.{reads_stand_behind, steps_stand_behind, updates_stand_behind}
use Rattle.store_laws.proofs.laws.stands_behind.Goals as goal

pub returns-clause-update : goal.returns-clause-update
returns-clause-update c = updates_stand_behind

pub returns-clause-read : goal.returns-clause-read
returns-clause-read c = reads_stand_behind

pub returns-clause-steps : goal.returns-clause-steps
returns-clause-steps c = steps_stand_behind
