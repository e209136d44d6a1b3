use Rattle.machine.proofs.MapPrograms.{programs}
use Rattle.machine.proofs.laws.examples.map_programs_run.Goals as goal

pub returns : goal.returns
returns c = programs
