use Rattle.schedule.proofs.laws.every_schedule.Goals as goal
use Rattle.schedule.proofs.Runs.{every_schedule}
use Rattle.schedule.proofs.ReadOff.{trace_is_read_off}

pub returns : goal.returns
returns c = record { explained = every_schedule; trace = trace_is_read_off }
