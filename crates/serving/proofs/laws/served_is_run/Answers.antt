use Rattle.serving.proofs.ServedRuns.{served_is_endless, served_is_run}
use Rattle.serving.proofs.laws.served_is_run.Goals as goal

pub returns : goal.returns
returns c = record { endless = served_is_endless; run = served_is_run }
