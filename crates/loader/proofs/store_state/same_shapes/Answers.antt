use Rattle.loader.proofs.SameShapes.{same_shapes}
use Rattle.loader.proofs.store_state.same_shapes.Goals as goal

pub returns : goal.returns
returns c = record { same = same_shapes c.args.first.now c.args.second.now c.eq.result c.eq.ensures }
