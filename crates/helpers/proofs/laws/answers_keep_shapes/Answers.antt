use Rattle.helpers.proofs.Kept.{keep_shapes}
use Rattle.helpers.proofs.laws.answers_keep_shapes.Goals as goal

pub returns : goal.returns
returns c = keep_shapes
