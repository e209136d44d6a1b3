use Rattle.asm.proofs.Distances.{labels_are_distances}
use Rattle.asm.proofs.laws.labels_are_distances.Goals as goal

pub returns : goal.returns
returns c = labels_are_distances
