use Rattle.verifier.proofs.MoreMaps.{first_maps, more_maps}
use Rattle.verifier.proofs.laws.more_maps_are_typable.Goals as goal

pub returns : goal.returns
returns c = record { first = first_maps; more = more_maps }
