use Rattle.machine.proofs.Results.{shifts_wrap}
use Rattle.machine.proofs.laws.arithmetic_laws.shift_amounts_wrap.Goals as goal

pub returns : goal.returns
returns c = shifts_wrap
