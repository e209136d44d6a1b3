use Rattle.machine.proofs.Results.{results}
use Rattle.machine.proofs.laws.arithmetic_laws.results_fit.Goals as goal

pub returns : goal.returns
returns c = results
