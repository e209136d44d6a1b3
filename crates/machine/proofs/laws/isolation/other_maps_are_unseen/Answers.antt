use Rattle.machine.proofs.Isolated.{others_unseen}
use Rattle.machine.proofs.laws.isolation.other_maps_are_unseen.Goals as goal

pub returns : goal.returns
returns c = others_unseen
