use Rattle.machine.proofs.SoundSteps.{always_runs}
use Rattle.verifier.specs.Accepted.{signature_of}
use Rattle.machine.proofs.laws.soundness_laws.accepted_programs_run.Goals as goal

pub returns : goal.returns
returns c a is = always_runs a.program (signature_of a) is.instructions is.typable
