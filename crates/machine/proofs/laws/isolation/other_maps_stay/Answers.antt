use Rattle.machine.proofs.Isolated.{others_stay}
use Rattle.machine.proofs.laws.isolation.other_maps_stay.Goals as goal

pub returns : goal.returns
returns c = others_stay
