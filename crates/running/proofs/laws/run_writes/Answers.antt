use Rattle.running.proofs.RunWrites.{calls_write, run_writes}
use Rattle.running.proofs.laws.run_writes.Goals as goal

pub returns : goal.returns
returns c = record { script = run_writes; calls = calls_write }
