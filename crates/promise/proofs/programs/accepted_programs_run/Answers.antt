use Rattle.verifier.specs.Accepted.{checked_in}
use Rattle.promise.proofs.programs.accepted_programs_run.Goals as goal

pub returns : goal.returns
returns c = c.accepted_programs_run.ensures (checked_in c.args.program.now) c.program-instructions.ensures.accepted
