use Rattle.std.proofs.Common.{◌*◌}
use Rattle.maps.specs.declared.shapes.TheConstants.{MOST_ARG_LEN}
use Rattle.combiner.proofs.places.PlaceDefault.default.Goals as goal

pub returns-clause-placed : goal.returns-clause-placed
returns-clause-placed c = λ n k. (c.default.ensures.from (k * MOST_ARG_LEN), c.default.ensures.within n)
