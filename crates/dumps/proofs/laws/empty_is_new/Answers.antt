use Rattle.std.proofs.Common.{refl}
use Rattle.dumps.specs.Loading.{loaded_state, after_lines}
use Rattle.dumps.proofs.laws.empty_is_new.Goals as goal

pub returns : goal.returns
unfolding loaded_state after_lines
returns c z = refl
