use Rattle.verifier.proofs.Known.{joined_is_best}
use Rattle.verifier.proofs.laws.joins_are_best_typing.Goals as goal

pub returns : goal.returns
returns c = joined_is_best
