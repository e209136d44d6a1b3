use Rattle.machine.proofs.Results.{spelled}
use Rattle.machine.proofs.laws.arithmetic_laws.bytes_spell_numbers.Goals as goal

pub returns : goal.returns
returns c = spelled
