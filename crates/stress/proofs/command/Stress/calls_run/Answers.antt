use Rattle.std.proofs.Common.{Some, ap}
use Rattle.stress.proofs.Transcripts.{run_of}
use Rattle.stress.proofs.command.Stress.calls_run.Goals as goal

pub returns : goal.returns
returns g c =
    let run = run_of c.args.self.now.config c.args.catalogue c.args.self.now.has_history c.args.calls.now c.in_ok-written.field-0 c.in_ok-written.ensures.left in
    record { transcript = run.0; history = run.1; state = ap Some run.2; counts = run.3 }
