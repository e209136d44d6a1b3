use Rattle.schedule.proofs.laws.standing_is_kept.Goals as goal
use Rattle.schedule.proofs.Runs.{opening_stands, step_keeps, steps_keep, standing_is_explained}

pub returns : goal.returns
returns c = record { opening = opening_stands; step = step_keeps; steps = steps_keep; explained = standing_is_explained }
