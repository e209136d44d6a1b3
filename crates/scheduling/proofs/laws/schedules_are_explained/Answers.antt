use Rattle.scheduling.proofs.Told.{lists_explained, schedules_explained}
use Rattle.scheduling.proofs.laws.schedules_are_explained.Goals as goal

pub returns : goal.returns
returns c = record { lists = lists_explained; schedules = schedules_explained }
