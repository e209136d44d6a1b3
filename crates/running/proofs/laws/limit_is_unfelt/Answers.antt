use Rattle.running.proofs.UnderLimits.{limit_is_unfelt, few_lines_are_alike}
use Rattle.running.proofs.laws.limit_is_unfelt.Goals as goal

pub returns : goal.returns
returns c = record { unfelt = limit_is_unfelt; few = few_lines_are_alike }
